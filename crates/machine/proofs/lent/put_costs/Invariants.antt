use Rattle.machine.proofs.Putting.{PutAt}
use Rattle.machine.proofs.lent.put_costs.Given as goal

abbrev pub invariant-loop-s : goal.invariant-loop-s
invariant-loop-s l = PutAt l.costs l.initial.remaining l.fresh l.s-iterator.rest l.remaining
