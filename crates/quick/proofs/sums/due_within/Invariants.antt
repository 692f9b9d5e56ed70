-- The loop's invariant: what the tasks so far owe, which is within `most`.
use Rattle.std.proofs.Common.{◌≡◌, ◌≤◌}
use Rattle.quick.specs.Loads.{owed}
use Rattle.quick.proofs.sums.due_within.Given as goal

abbrev pub invariant-loop-load : goal.invariant-loop-load
invariant-loop-load l = (l.due ≡ owed l.loads l.load-index l.d) × (l.due ≤ l.most)
