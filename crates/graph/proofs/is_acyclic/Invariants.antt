-- The loop's invariant: what is left comes to nothing just if the test passes.
use mathlib.Core.Path.{◌≡◌}
use Prim.Native.Nat.{◌<◌, ◌^◌}
use Rattle.graph.specs.Graph.{acyclic}
use Rattle.graph.proofs.Settle.{comes_to_none}
use Rattle.graph.proofs.is_acyclic.Given as goal

abbrev pub invariant-loop-left : goal.invariant-loop-left
invariant-loop-left l = (l.left < 2 ^ 16) × (comes_to_none l.succ l.left ≡ acyclic l.succ)

abbrev pub decreases-loop-left : goal.decreases-loop-left
decreases-loop-left l = l.left
