-- The best so far ranks first of the members passed.
use Rattle.machine.proofs.Leading.{Leads}
use Rattle.machine.proofs.choosing.next_slot.Given as goal

abbrev pub invariant-loop-s : goal.invariant-loop-s
invariant-loop-s l = Leads l.ticks l.among l.s-iterator.rest l.best
