use Rattle.std.proofs.Common.{sym, refl, ◌∙◌, rules}
use Rattle.machine.proofs.Leading.{leads_one, leads_new, leads_still, leads_all}
use Rattle.machine.proofs.choosing.next_slot.Goals as goal

pub loop-s-init : goal.loop-s-init
loop-s-init c =
    let a = c.args in
    rw (c.into_iter-s-iterator.ensures.into_iter_gives, c.of-s-items.ensures) (leads_one a.ticks.now a.among c.requires (search rules) _ refl)

pub ranks_before-requires : goal.ranks_before-requires
ranks_before-requires c = (c.in-Some.ensures.steps.2, c.loop-s.invariant.slot)

pub loop-s-preserved-then-ranks_before : goal.loop-s-preserved-then-ranks_before
loop-s-preserved-then-ranks_before c =
    let l = c.loop-s in
    let a = c.args in
    let t = c.in-Some.ensures.steps in
    rw t.3 (leads_new a.ticks.now a.among l.s-iterator.rest l.best c.in-Some.s l.invariant t.0 t.1 (sym c.ranks_before.ensures ∙ c.if-ranks_before.true))

pub loop-s-preserved : goal.loop-s-preserved
loop-s-preserved c =
    let l = c.loop-s in
    let a = c.args in
    let t = c.in-Some.ensures.steps in
    rw t.3 (leads_still a.ticks.now a.among l.s-iterator.rest l.best c.in-Some.s l.invariant t.0 t.1 (sym c.ranks_before.ensures ∙ c.if-ranks_before.false))

pub returns : goal.returns
returns c = let a = c.args in let l = c.loop-s in leads_all a.ticks.now a.among l.s-iterator.rest l.best l.invariant c.in-None.ensures.steps.0
