use Rattle.std.proofs.Common.{refl, arith, rules}
use Rattle.table.specs.Memory.{no_task, task, T}
use Rattle.machine.proofs.Sweeping.{first_in, swept_none, swept_all}
use Rattle.machine.proofs.Stepping.{swept_next}
use Rattle.machine.proofs.lent.wait_anew.Invariants.{wait_in}
use Rattle.machine.proofs.lent.wait_anew.Goals as goal

pub loop-i-init : goal.loop-i-init
loop-i-init c =
    rw (c.into_iter-i-iterator.ensures.into_iter_gives, c.from-i-items.ensures) (swept_none 16 0 (wait_in c.args.t.tasks) _ c.args.named (omega arith) (search rules) (search rules))

pub bounds-waits-i : goal.bounds-waits-i
bounds-waits-i c = let t = c.in-Some.ensures.steps in c.loop-i.invariant.few _ (rw t.1 (first_in c.loop-i.i-iterator.rest t.0 c.loop-i.invariant.narrow))

pub bounds-t-i : goal.bounds-t-i
bounds-t-i c = let t = c.in-Some.ensures.steps in c.loop-i.invariant.few _ (rw t.1 (first_in c.loop-i.i-iterator.rest t.0 c.loop-i.invariant.narrow))

pub loop-i-preserved : goal.loop-i-preserved
unfolding no_task
loop-i-preserved c =
    let l = c.loop-i in
    swept_next c.in-Some.ensures.steps 16 0 (wait_in c.args.t.tasks) _ _ l.waits l.invariant _ refl

pub returns : goal.returns
unfolding T task
returns c = let l = c.loop-i in swept_all 16 0 _ _ _ l.i-iterator.rest l.waits l.invariant c.in-None.ensures.steps.0
