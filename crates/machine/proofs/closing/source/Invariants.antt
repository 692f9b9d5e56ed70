-- The loop's invariant: those that go on below place p and those still wanted are together as many as stand before the slot.
use Rattle.std.proofs.Common.{◌≡◌, ℕ, ◌+◌, ◌*◌, ◌/◌, ◌%◌}
use Rattle.graph.specs.Words.{flag, bit, sum}
use Rattle.machine.proofs.closing.source.Given as goal

abbrev pub goes_on : ℕ → ℕ → ℕ → ℕ
goes_on going s j = flag (bit going (16 * j + s % 16))

abbrev pub invariant-loop-p : goal.invariant-loop-p
invariant-loop-p l = sum l.p (goes_on l.going l.s) + l.wanted ≡ l.s / 16
