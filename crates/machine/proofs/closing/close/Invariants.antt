-- The slots are passed from the lowest up: proofs/Taking.antt.
use Rattle.machine.proofs.Taking.{Closing}
use Rattle.machine.proofs.closing.close.Given as goal

abbrev pub invariant-loop-s : goal.invariant-loop-s
invariant-loop-s l = Closing l.over l.going l.initial.deadlines l.initial.remaining l.initial.work l.slots l.s-iterator.rest l.live l.deadlines l.remaining l.work
