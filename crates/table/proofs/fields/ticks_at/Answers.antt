use native.Mathlib.Omega.{arith}
use Rattle.table.proofs.FieldLaws.{ticks_short, ticks_within, ranged_out, ranged_got}
use Rattle.table.proofs.fields.ticks_at.Goals as goal

pub returns-then-bytes-at-lt4 : goal.returns-then-bytes-at-lt4
returns-then-bytes-at-lt4 c = ticks_short _ _ _ (omega arith)

pub returns-then-x-lo : goal.returns-then-x-lo
returns-then-x-lo c = ticks_within _ _ _ c.number_at-x.result _ (omega arith) c.number_at-x.ensures (ranged_out _ _ _ _ _ c.then-x-lo.either)

pub returns : goal.returns
returns c = ticks_within _ _ _ _ _ (omega arith) c.number_at-x.ensures (ranged_got _ _ _ _ _ (omega arith) (omega arith))
