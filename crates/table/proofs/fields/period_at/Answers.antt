use mathlib.Core.Path.{◌∙◌}
use native.Mathlib.Omega.{arith}
use Rattle.table.proofs.FieldLaws.{handed, ticks_read, period_stop, period_got, period_under}
use Rattle.table.proofs.fields.period_at.Goals as goal

pub returns-in_err-t : goal.returns-in_err-t
returns-in_err-t c = handed _ _ c.from_residual.ensures.1 ∙ period_stop _ _ _ _ c.in_err-t.ensures

-- T is at most 1,000,000, so four times T does not wrap
pub overflow_mul-t : goal.overflow_mul-t
overflow_mul-t c = omega (arith, (ticks_read _ _ _ _ c.in_ok-t.ensures).2)

pub returns-then-t-d : goal.returns-then-t-d
returns-then-t-d c = period_under _ _ _ _ c.in_ok-t.ensures (omega arith)

pub returns : goal.returns
returns c = period_got _ _ _ _ c.in_ok-t.ensures (omega arith)
