-- The loop's invariant: the loads of the tasks so far.
use Rattle.std.proofs.Common.{◌≡◌, length}
use Rattle.quick.specs.Loads.{Loads}
use Rattle.quick.proofs.sums.loads_of.Given as goal

abbrev pub invariant-loop-i : goal.invariant-loop-i
invariant-loop-i l = (length l.loads ≡ 16) × Loads l.t l.i l.loads
