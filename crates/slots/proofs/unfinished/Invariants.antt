-- The loop's invariant: the set holds those of the vertices that were passed of which something remains.
use Rattle.slots.proofs.Behind.{Gathered}
use Rattle.slots.proofs.unfinished.Given as goal

abbrev pub invariant-loop-u : goal.invariant-loop-u
invariant-loop-u l = Gathered l.remaining l.s l.u l.set
