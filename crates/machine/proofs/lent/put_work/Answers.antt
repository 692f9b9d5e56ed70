use Rattle.std.proofs.Common.{arith, rules}
use Rattle.slots.specs.Slots.{work_left}
use Rattle.machine.proofs.Sweeping.{swept_none, swept_all}
use Rattle.machine.proofs.Stepping.{swept_next}
use Rattle.machine.proofs.lent.put_work.Goals as goal

pub loop-s-init : goal.loop-s-init
loop-s-init c =
    rw (c.into_iter-s-iterator.ensures.into_iter_gives, c.of-s-items.ensures) (swept_none 64 0 (work_left c.args.remaining.now) _ c.args.fresh (omega arith) (search rules) (search rules))

pub loop-s-preserved : goal.loop-s-preserved
loop-s-preserved c =
    let l = c.loop-s in
    swept_next c.in-Some.ensures.steps 64 0 (work_left c.args.remaining.now) _ _ l.work l.invariant _ c.work_left.ensures

pub returns : goal.returns
returns c = let l = c.loop-s in swept_all 64 0 _ _ _ l.s-iterator.rest l.work l.invariant c.in-None.ensures.steps.0
