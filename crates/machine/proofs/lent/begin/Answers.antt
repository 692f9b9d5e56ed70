use Rattle.std.proofs.Common.{refl, arith, rules}
use Rattle.table.specs.Memory.{no_task, task, D}
use Rattle.machine.specs.States.{wrap}
use Rattle.machine.proofs.Sweeping.{swept_none, swept_all}
use Rattle.machine.proofs.Stepping.{swept_next}
use Rattle.machine.proofs.lent.begin.Invariants.{deadline_in}
use Rattle.machine.proofs.lent.begin.Goals as goal

pub loop-s-init : goal.loop-s-init
loop-s-init c =
    rw (c.into_iter-s-iterator.ensures.into_iter_gives, c.of-s-items.ensures) (swept_none 64 0 (deadline_in c.args.clock c.args.t.tasks) _ c.args.fresh (omega arith) (search rules) (search rules))

pub loop-s-preserved : goal.loop-s-preserved
unfolding no_task wrap
loop-s-preserved c =
    let l = c.loop-s in
    swept_next c.in-Some.ensures.steps 64 0 (deadline_in c.args.clock c.args.t.tasks) _ _ l.deadlines l.invariant _ refl

pub returns : goal.returns
unfolding D task
returns c = let l = c.loop-s in swept_all 64 0 _ _ _ l.s-iterator.rest l.deadlines l.invariant c.in-None.ensures.steps.0
