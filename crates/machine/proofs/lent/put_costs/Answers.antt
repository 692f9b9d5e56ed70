use Rattle.std.proofs.Common.{List, ℕ, sym, subst, rules}
use Rattle.machine.proofs.Putting.{PutAt, at_none, at_next, at_all}
use Rattle.machine.proofs.lent.put_costs.Goals as goal

pub loop-s-init : goal.loop-s-init
loop-s-init c =
    rw (c.into_iter-s-iterator.ensures.into_iter_gives, c.of-s-items.ensures) (at_none c.args.costs.now _ c.args.fresh (search rules) (search rules))

pub loop-s-preserved : goal.loop-s-preserved
loop-s-preserved c =
    let l = c.loop-s in
    let a = c.args in
    subst (λ (z : List ℕ). PutAt a.costs.now a.remaining.now a.fresh c.next.new.self.rest z) (sym c.put_slot.ensures)
    (at_next a.costs.now a.remaining.now a.fresh c.in-Some.ensures.steps l.remaining l.invariant)

pub returns : goal.returns
returns c = let l = c.loop-s in at_all _ _ _ l.s-iterator.rest l.remaining l.invariant c.in-None.ensures.steps.0
