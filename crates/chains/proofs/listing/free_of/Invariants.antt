-- The loop's invariant: from u on none leads to none of the set.
use Rattle.chains.proofs.Picks.{NoneFrom}
use Rattle.chains.proofs.listing.free_of.Given as goal

abbrev pub invariant-loop-u : goal.invariant-loop-u
invariant-loop-u l = NoneFrom l.succ l.left l.u
