-- The loop's invariant: the sums of the vertices that are not left are right.
use Rattle.chains.proofs.Backward.{Reckoned}
use Rattle.chains.proofs.listing.sums_from.Given as goal

abbrev pub invariant-loop-u : goal.invariant-loop-u
invariant-loop-u l = Reckoned l.succ l.times l.left l.sums

abbrev pub decreases-loop-u : goal.decreases-loop-u
decreases-loop-u l = l.left
