use Rattle.std.proofs.Common.{refl, arith, rules}
use Rattle.machine.proofs.Sweeping.{swept_none, swept_alike}
use Rattle.machine.proofs.Stepping.{swept_next}
use Rattle.machine.proofs.held.at_slots.Goals as goal

pub loop-s-init : goal.loop-s-init
loop-s-init g c = λ f h.
    rw (c.into_iter-s-iterator.ensures.into_iter_gives, c.of-s-items.ensures) (swept_none 64 c.args.nothing f _ c.args.set (omega arith) (search rules) refl)

pub value-requires : goal.value-requires
value-requires g c = c.requires _ c.in-Some.ensures.steps.2

pub loop-s-preserved : goal.loop-s-preserved
loop-s-preserved g c = λ f h.
    let l = c.loop-s in
    let t = c.in-Some.ensures.steps in
    swept_next t 64 c.args.nothing f _ _ l.row (l.invariant f h) _ (h _ _ t.2 c.value.ensures)

pub returns : goal.returns
returns g c = λ f h. let l = c.loop-s in swept_alike c.args.nothing f c.args.set l.s-iterator.rest l.row (l.invariant f h) c.in-None.ensures.steps.0
