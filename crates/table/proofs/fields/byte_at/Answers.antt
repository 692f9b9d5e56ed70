use native.Mathlib.Omega.{arith}
use mathlib.Core.Path.{refl}
use Rattle.table.proofs.FieldLaws.{byte_short, byte_within, ranged_out, ranged_got}
use Rattle.table.proofs.fields.byte_at.Goals as goal

pub returns-then-bytes-at : goal.returns-then-bytes-at
returns-then-bytes-at c = byte_short _ _ _ _ (omega arith)

pub returns-then-x-lo : goal.returns-then-x-lo
returns-then-x-lo c = byte_within _ _ _ _ _ _ (omega arith) refl (ranged_out _ _ _ _ _ c.then-x-lo.either)

pub returns : goal.returns
returns c = byte_within _ _ _ _ _ _ (omega arith) refl (ranged_got _ _ _ _ _ (omega arith) (omega arith))
