-- The loop's invariant: `Round`, what holds between the rounds.
use Rattle.graph.proofs.Rounds.{Round}
use Rattle.graph.proofs.longest.Given as goal

abbrev pub invariant-loop-left : goal.invariant-loop-left
invariant-loop-left l = Round l.succ l.times l.left l.starts l.best

abbrev pub decreases-loop-left : goal.decreases-loop-left
decreases-loop-left l = l.left
