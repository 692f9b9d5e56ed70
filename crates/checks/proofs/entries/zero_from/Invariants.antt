use mathlib.Core.Path.{◌≡◌}
use mathlib.Core.Bool.{true}
use Prim.Native.Nat.{ℕ, ◌≤◌, ◌<◌}
use Rattle.checks.proofs.UnusedLaws.{zero_at}
use Rattle.checks.proofs.entries.zero_from.Given as goal

abbrev pub invariant-loop-u : goal.invariant-loop-u
invariant-loop-u l = (l.from ≤ l.u) × ((k : ℕ) → k < l.u → zero_at l.succ l.costs l.slot l.from k ≡ true)
