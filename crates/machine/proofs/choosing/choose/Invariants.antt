-- The loop's invariant: `count` of the ranking were picked, the sets hold the others, and `among` the slots whose set has a member.
use Rattle.machine.proofs.Picking.{Chooses}
use Rattle.machine.proofs.choosing.choose.Given as goal

abbrev pub invariant-loop-count : goal.invariant-loop-count
invariant-loop-count l = Chooses l.ticks l.initial.sets l.sets l.keys l.among l.count
