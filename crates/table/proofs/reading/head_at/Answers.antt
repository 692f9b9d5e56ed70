use mathlib.Core.Path.{◌∙◌}
use native.Mathlib.Omega.{arith}
use Rattle.table.proofs.FieldLaws.{handed, mark_read, byte_read}
use Rattle.table.proofs.TaskLaws.{head_mark, head_m, head_n, head_got}
use Rattle.table.proofs.reading.head_at.Goals as goal

pub returns-in_err-mark_at : goal.returns-in_err-mark_at
returns-in_err-mark_at c = handed _ _ c.from_residual.ensures.1 ∙ head_mark _ _ _ c.in_err-mark_at.ensures

pub overflow_add-at : goal.overflow_add-at
overflow_add-at c = omega (arith, mark_read _ _ _ _ c.in_ok-mark_at.ensures)

pub returns-in_err-m : goal.returns-in_err-m
returns-in_err-m c = handed _ _ c.from_residual-in_err-m.ensures.1 ∙ head_m _ _ _ c.in_ok-mark_at.ensures _ c.in_err-m.ensures

pub overflow_add-at-2 : goal.overflow_add-at-2
overflow_add-at-2 c = omega (arith, (byte_read _ _ _ _ _ c.in_ok-m.ensures).0)

pub returns-in_err-n : goal.returns-in_err-n
returns-in_err-n c = handed _ _ c.from_residual-in_err-n.ensures.1 ∙ head_n _ _ _ c.in_ok-mark_at.ensures _ c.in_ok-m.ensures _ c.in_err-n.ensures

pub returns : goal.returns
returns c = head_got _ _ _ c.in_ok-mark_at.ensures _ c.in_ok-m.ensures _ c.in_ok-n.ensures
