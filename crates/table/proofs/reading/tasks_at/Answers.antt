use mathlib.Core.Path.{refl, ap, ◌∙◌}
use Prim.Native.Nat.{◌+◌, ◌-◌}
use native.Mathlib.Nat.{sub-zero}
use native.Mathlib.Omega.{arith}
use lib.ListN.{length, length-set}
use Rattle.table.proofs.RowLaws.{zero_after}
use Rattle.table.proofs.Costs.{put_length}
use Rattle.table.proofs.FieldLaws.{handed}
use Rattle.table.proofs.TaskLaws.{tasks_end, tasks_stop, tasks_got}
use Rattle.table.proofs.reading.tasks_at.Goals as goal

pub loop-i-init : goal.loop-i-init
loop-i-init c = let g = c.requires in (c.from-i-end.ensures, g.1, g.2, g.3, rw (sub-zero, c.from-i-end.ensures) refl)

pub returns-in_err-next : goal.returns-in_err-next
returns-in_err-next c =
    let l = c.loop-i in
    let s = tasks_stop c.args.bytes.now (c.from-i-end.result - l.i) l.i l.p (c.from-i-end.result - (l.i + 1)) (omega arith) l.table _ c.in_err-next.ensures.0 in
    rw (handed _ _ c.from_residual.ensures.1) (s.0, s.1 ∙ l.invariant.4)

pub loop-i-preserved : goal.loop-i-preserved
loop-i-preserved c =
    let l = c.loop-i in
    let h = c.in_ok-next.ensures in
    let t = l.table in
    let g = tasks_got c.args.bytes.now (c.from-i-end.result - l.i) l.i l.p (c.from-i-end.result - (l.i + 1)) (omega arith) t.m t.n t.tasks t.costs c.task_at.new.costs
    c.in_ok-next.field-0 h.0 h.1 in (
      l.invariant.0,
      length-set t.tasks l.i c.in_ok-next.field-0.task ∙ l.invariant.1,
      ap length g.1 ∙ put_length _ _ _,
      zero_after _ _ _ _ l.invariant.2 l.invariant.3 g.1,
      g.0 ∙ l.invariant.4,
    )

pub returns : goal.returns
returns c = let l = c.loop-i in tasks_end c.args.bytes.now (c.from-i-end.result - l.i) l.i l.p l.table (omega arith) ∙ l.invariant.4
