use mathlib.Core.Path.{refl, ◌∙◌}
use Prim.Native.Nat.{◌+◌, ◌-◌, ◌*◌}
use native.Mathlib.Nat.{sub-zero}
use native.Mathlib.Omega.{arith}
use Rattle.table.specs.Memory.{task, no_task}
use Rattle.table.proofs.FieldLaws.{handed}
use Rattle.checks.proofs.TaskTests.{task_next, tasks_stop, tasks_go, tasks_end}
use Rattle.checks.proofs.checking.check_tasks.Goals as goal

pub loop-i-init : goal.loop-i-init
loop-i-init c = (c.from-i-end.ensures, omega arith, rw (sub-zero, c.from-i-end.ensures) refl)

pub returns-in_err-at : goal.returns-in_err-at
unfolding task no_task
returns-in_err-at c =
    let l = c.loop-i in
    handed _ _ c.from_residual.ensures.1
    ∙ tasks_stop c.args.table (c.from-i-end.result - l.i) (c.from-i-end.result - (l.i + 1)) l.i l.at (omega arith) _ c.in_err-at.ensures ∙ l.invariant.2

pub loop-i-preserved : goal.loop-i-preserved
unfolding task no_task
loop-i-preserved c =
    let t = c.args.table in
    let l = c.loop-i in
    let n = task_next (task t l.i) t.costs (16 * l.i) l.at _ c.in_ok-at.ensures in
    (l.invariant.0, omega arith, tasks_go t (c.from-i-end.result - l.i) (c.from-i-end.result - (l.i + 1)) l.i l.at (omega arith) _ c.in_ok-at.ensures ∙ l.invariant.2)

pub returns : goal.returns
returns c = tasks_end c.args.table (c.from-i-end.result - c.loop-i.i) _ _ (omega arith) ∙ c.loop-i.invariant.2
