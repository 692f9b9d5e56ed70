use native.Mathlib.Omega.{arith}
use Rattle.table.proofs.FieldLaws.{mark_short, mark_got, mark_other}
use Rattle.table.proofs.fields.mark_at.Goals as goal
use Rattle.table.proofs.fields.mark_at.Goals.{then-bytes-at-via-then-bytes-at, then-bytes-at-via-else-bytes-at+then-bytes-at-lt2, else-bytes-at-eq84-via-then-bytes-at-eq84+else-bytes-at-2, else-bytes-at-eq84-via-else-bytes-at-eq84}

pub returns-then-bytes-at : goal.returns-then-bytes-at
returns-then-bytes-at c = mark_short _ _ _ (elim c.then-bytes-at.branch [ then-bytes-at-via-then-bytes-at w ↦ omega arith | then-bytes-at-via-else-bytes-at+then-bytes-at-lt2 w ↦ omega arith ])

pub returns-then-bytes-at-2 : goal.returns-then-bytes-at-2
returns-then-bytes-at-2 c = mark_got _ _ _ (omega arith) (search) (search)

pub returns : goal.returns
returns c = mark_other _ _ _ (omega arith) (elim c.else-bytes-at-eq84.branch [
  | else-bytes-at-eq84-via-then-bytes-at-eq84+else-bytes-at-2 w ↦ λ p q. absurd (w.if-bytes-at-2.false q)
  | else-bytes-at-eq84-via-else-bytes-at-eq84 w ↦ λ p q. absurd (w.if-bytes-at-eq84.false p)
])
