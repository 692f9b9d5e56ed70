-- The loop's invariant: the tails of the vertices so far are at their places.
use Rattle.sharp.proofs.Reckoned.{Put}
use Rattle.sharp.proofs.putting.put_tails.Given as goal

abbrev pub invariant-loop-u : goal.invariant-loop-u
invariant-loop-u l = Put l.initial.row l.i l.tails l.u l.row
