-- The loop's invariant: no task so far spends more than it may.
use Prim.Native.Nat.{ℕ, ◌<◌}
use Rattle.quick.proofs.Yes.{Passes}
use Rattle.quick.proofs.answering.quick_on.Given as goal

abbrev pub invariant-loop-k : goal.invariant-loop-k
invariant-loop-k l = (j : ℕ) → j < l.k → Passes l.t j
