use Rattle.slots.specs.Slots.{work_left}
use Rattle.machine.proofs.Sweeping.{Swept}
use Rattle.machine.proofs.lent.put_work.Given as goal

abbrev pub invariant-loop-s : goal.invariant-loop-s
invariant-loop-s l = Swept 64 0 (work_left l.remaining) l.initial.work l.fresh l.s-iterator.rest l.work
