use native.Mathlib.Omega.{arith}
use mathlib.Core.Path.{refl}
use Rattle.table.proofs.FieldLaws.{edge_short, edge_got, edge_bad}
use Rattle.table.proofs.fields.edge_at.Goals as goal

pub returns-then-bytes-at-lt2 : goal.returns-then-bytes-at-lt2
returns-then-bytes-at-lt2 c = edge_short _ _ _ _ (omega arith)

pub returns-then-low-key : goal.returns-then-low-key
returns-then-low-key c =
    rw (c.from.ensures, c.from-2.ensures) (edge_got _ _ _ _ _ _ (omega arith) refl refl (omega arith) (omega arith) c.if-from-to.true (omega arith))

pub returns : goal.returns
returns c = edge_bad _ _ _ _ _ _ (omega arith) refl refl (λ a b d e. omega (arith, c.else-from-v.either))
