-- The two cases of judging against a file: it is not read, or it is; and those of a piece: the table is above the ranges, or not.
use mathlib.Core.Path.{◌≡◌, refl, sym, ap, ◌∙◌}
use mathlib.Core.Bool.{Bool, true, false, ◌||◌}
use mathlib.Core.List.{List}
use Prim.Native.Nat.{ℕ, ◌≤◌, ◌<◌}
use lib.ListN.{length}
use lib.Dec.{ltb}
use borrow.Author.Tests.{lt-ltb, le-ltb, ltb-false}
use Rattle.graph.proofs.Facts.{clash}
use Rattle.table.specs.declared.Outcome.TheVariants.{Read}
use Rattle.table.specs.declared.Loaded.{Loaded}
use Rattle.table.specs.declared.Table.{Table}
use Rattle.table.specs.Reading.{read}
use Rattle.table.specs.Good.{GoodTable}
use Rattle.table.proofs.PartLaws.{told_other, not_read}
use Rattle.table.proofs.Sound.{read_good}
use Rattle.machine.specs.declared.Phase.TheVariants.{Running}
use Rattle.machine.specs.declared.State.{State}
use Rattle.machine.specs.States.{zeros}
use Rattle.journal.specs.declared.Ruling.{Ruling}
use Rattle.journal.specs.declared.Progress.{Progress}
use Rattle.journal.specs.Judging.{judge_rows, start, ruling, judge_on, unread, judge_read, judge}
use Rattle.journal.specs.Listing.{too_wide, Narrow, judge_piece}

good_narrow : (t : Table) → GoodTable t → Narrow t
good_narrow t g = record { m_high = g.m_high; n_high = g.n_high }

module _ (file : List ℕ) (l : Loaded) (h : l ≡ read file) where
  -- a table that was read is good
  pub table_narrow : l.outcome ≡ Read → Narrow l.table
  table_narrow e = rw h (good_narrow (read file).table (read_good file (ap (λ (x : Loaded). x.outcome) (sym h) ∙ e)))

  module _ (s : List ℕ) where
    pub judge_stop : (r : Ruling) → (l.outcome ≡ Read → ⊥) → r ≡ unread l.outcome → r ≡ judge file s
    unfolding judge judge_read
    judge_stop r n q = q ∙ rw (← h) (not_read l.outcome unread _ n)

    pub judge_got : (st : State) (p : Progress) (r : Ruling) → l.outcome ≡ Read → st ≡ zeros 0 Running → p ≡ judge_rows l.table s (length s) (start st)
        → r ≡ ruling p → r ≡ judge file s
    unfolding judge judge_read judge_on
    judge_got st p r e a b q =
        q ∙ ap ruling (b ∙ ap (λ (x : State). judge_rows l.table s (length s) (start x)) a) ∙ rw (← h, e) refl

pub ruleset entry-laws = (told_other, table_narrow, judge_stop, judge_got)

-- ---- a piece
neither : (a b : Bool) → a || b ≡ false → (a ≡ false) × (b ≡ false)
neither true b h = absurd (clash refl h)
neither false b h = (refl, h)

module _ (t : Table) where
  pub many_wide : 8 < t.m → true ≡ too_wide t
  unfolding too_wide
  many_wide h = rw (lt-ltb 8 t.m h) refl

  pub few_wide : t.m ≤ 8 → ltb 16 t.n ≡ too_wide t
  unfolding too_wide
  few_wide h = rw (le-ltb 8 t.m h) refl

  pub not_wide : too_wide t ≡ false → Narrow t
  unfolding too_wide
  not_wide e =
      let o = neither (ltb 8 t.m) (ltb 16 t.n) e in
      record { m_high = ltb-false 8 t.m o.0; n_high = ltb-false 16 t.n o.1 }

  narrow_not : Narrow t → too_wide t ≡ false
  unfolding too_wide
  narrow_not n = rw (le-ltb 8 t.m n.m_high, le-ltb 16 t.n n.n_high) refl

  module _ (s : List ℕ) (end : ℕ) (st : State) where
    pub piece_stop : too_wide t ≡ true → record { number = 3; next = 0; rows = 0; state = st } ≡ judge_piece t s end st
    unfolding judge_piece
    piece_stop e = rw e refl

    pub piece_got : (p : Progress) → too_wide t ≡ false → p ≡ judge_rows t s end (start st) → p ≡ judge_piece t s end st
    unfolding judge_piece
    piece_got p e q = q ∙ rw e refl

    -- A TABLE THAT IS READ: a piece is judged
    pub piece_read : GoodTable t → judge_piece t s end st ≡ judge_rows t s end (start st)
    piece_read g = sym (piece_got _ (narrow_not (good_narrow t g)) refl)
