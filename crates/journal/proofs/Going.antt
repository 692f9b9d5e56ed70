-- Judging row by row: as many steps as there are bytes to `end` will do, so what is left from a place on is the next row, then the
-- rest. These are the laws of a loop over the rows.
use mathlib.Core.Path.{◌≡◌, refl, sym, ap, ap₂, ◌∙◌}
use mathlib.Core.Logic.{◌⊎◌, inl, inr}
use mathlib.Core.Bool.{Bool, true, false, ◌||◌}
use mathlib.Core.List.{List}
use Prim.Native.Nat.{ℕ, zero, suc, ◌+◌, ◌-◌, ◌≤◌, ◌<◌}
use native.Mathlib.Omega.{arith}
use native.Mathlib.Decide.{ℕ_discrete, dec_le}
use lib.Dec.{leb}
use borrow.Author.Tests.{eq-eqb, ne_eqb, le-leb, lt-leb}
use Rattle.graph.proofs.Facts.{clash}
use Rattle.table.specs.declared.Table.{Table}
use Rattle.machine.specs.declared.State.{State}
use Rattle.machine.specs.Ticking.{advance}
use Rattle.journal.specs.declared.Progress.{Progress}
use Rattle.journal.specs.Rows.{row_set, row_end, listed, fault}
use Rattle.journal.specs.Judging.{ruled, judge_row, is_over, rows_for, judge_rows}

-- ---- a row
module _ (t : Table) (s : List ℕ) (p : Progress) where
  -- a legal one
  pub legal_row : fault t p.state s p.next ≡ 0 → judge_row t s p
      ≡ record { number = 0; next = row_end s p.next; rows = p.rows + 1; state = (advance t p.state (row_set s p.next) (listed s p.next)).state }
  unfolding judge_row ruled
  legal_row e = rw e refl

  -- one that is refused
  pub refused_row : (fault t p.state s p.next ≡ 0 → ⊥)
      → judge_row t s p ≡ record { number = fault t p.state s p.next; next = p.next; rows = p.rows; state = p.state }
  unfolding judge_row ruled
  refused_row d = rw (ne_eqb (fault t p.state s p.next) 0 d) refl

-- ---- whether it is over
pub over_end : (end : ℕ) (p : Progress) → end ≤ p.next → is_over end p ≡ true
unfolding is_over
over_end end p h = rw (le-leb end p.next h) refl

pub over_refused : (end : ℕ) (p : Progress) → (p.number ≡ 0 → ⊥) → is_over end p ≡ true
unfolding is_over
over_refused end p d = rw (ne_eqb p.number 0 d) (go (leb end p.next))
  where
    go : (b : Bool) → b || true ≡ true
    go true = refl
    go false = refl

pub not_over : (end : ℕ) (p : Progress) → p.next < end → p.number ≡ 0 → is_over end p ≡ false
unfolding is_over
not_over end p h e = rw (lt-leb end p.next h, eq-eqb p.number 0 e) refl

pub goes_on_lem : (end : ℕ) (p : Progress) → is_over end p ≡ false → (p.next < end) × (p.number ≡ 0)
goes_on_lem end p e = (
  elim (dec_le end p.next) [ yes h ↦ absurd (clash (over_end end p h) e) | no h ↦ omega arith ],
  elim (ℕ_discrete p.number 0) [ yes h ↦ h | no h ↦ absurd (clash (over_refused end p h) e) ],
)

-- ---- row by row
module _ (t : Table) (s : List ℕ) (end : ℕ) where
  pub for_over : (k : ℕ) (p : Progress) → is_over end p ≡ true → rows_for t s end k p ≡ p
  unfolding rows_for
  for_over zero p e = refl
  for_over (suc k) p e = rw e refl

  pub for_more : (k : ℕ) (p : Progress) → is_over end p ≡ false → rows_for t s end (suc k) p ≡ rows_for t s end k (judge_row t s p)
  unfolding rows_for
  for_more k p e = rw e refl

  -- k steps are enough from p on
  unfoldable pub Enough : ℕ → Progress → Type 0
  Enough k p = (is_over end p ≡ true) ⊎ (end ≤ k + p.next)

  pub next_enough : (k : ℕ) (p : Progress) → is_over end p ≡ false → Enough (suc k) p → Enough k (judge_row t s p)
  unfolding Enough row_end
  next_enough k p e (inl h) = absurd (clash h e)
  next_enough k p e (inr h) = elim (ℕ_discrete (fault t p.state s p.next) 0) [
    | yes q ↦ rw (legal_row t s p q) (inr (omega arith))
    | no q ↦ inl (rw (refused_row t s p q) (over_refused end _ q))
  ]

  pub none_enough : (p : Progress) → Enough zero p → is_over end p ≡ true
  unfolding Enough
  none_enough p (inl h) = h
  none_enough p (inr h) = over_end end p (omega arith)

  same_for : (k l : ℕ) (p : Progress) → Enough k p → Enough l p → rows_for t s end k p ≡ rows_for t s end l p
  same_for zero l p h j = let e = none_enough p h in for_over zero p e ∙ sym (for_over l p e)
  same_for (suc k) zero p h j = let e = none_enough p j in for_over (suc k) p e ∙ sym (for_over zero p e)
  same_for (suc k) (suc l) p h j = go (is_over end p) refl (λ e. same_for k l (judge_row t s p) (next_enough k p e h) (next_enough l p e j))
    where
      go : (b : Bool) → is_over end p ≡ b → (is_over end p ≡ false → rows_for t s end k (judge_row t s p) ≡ rows_for t s end l (judge_row t s p))
          → rows_for t s end (suc k) p ≡ rows_for t s end (suc l) p
      go true e f = for_over (suc k) p e ∙ sym (for_over (suc l) p e)
      go false e f = for_more k p e ∙ f e ∙ sym (for_more l p e)

  -- nothing is left
  pub rows_over : (p : Progress) → is_over end p ≡ true → judge_rows t s end p ≡ p
  unfolding judge_rows
  rows_over p e = for_over (end - p.next) p e

  -- THE NEXT ROW, then the rest
  pub rows_step : (p : Progress) → is_over end p ≡ false → judge_rows t s end p ≡ judge_rows t s end (judge_row t s p)
  unfolding judge_rows Enough
  rows_step p e =
      let g = goes_on_lem end p e in
      let here : Enough (suc (end - p.next - 1)) p = inr (omega arith) in
      ap (λ (k : ℕ). rows_for t s end k p) (count (end - p.next) (omega arith))
      ∙ for_more (end - p.next - 1) p e
      ∙ same_for (end - p.next - 1) (end - (judge_row t s p).next) (judge_row t s p) (next_enough _ p e here) (inr (omega arith))
    where
      count : (n : ℕ) → 0 < n → n ≡ suc (n - 1)
      count n h = omega arith

  -- the same by the parts that a loop keeps: a row that is refused, and one that is not
  module _ (st : State) (next rows : ℕ) (h : next < end) where
    abbrev here : Progress
    here = record { number = 0; next = next; rows = rows; state = st }

    pub rows_refused : (n : ℕ) → n ≡ fault t st s next → (n ≡ 0 → ⊥) → record { number = n; next = next; rows = rows; state = st } ≡ judge_rows t s end here
    rows_refused n e d =
        let p : Progress = record { number = n; next = next; rows = rows; state = st } in
        let q : judge_row t s here ≡ p = refused_row t s here (λ z. d (e ∙ z)) ∙ ap (λ (k : ℕ). record { number = k; next = next; rows = rows; state = st }) (sym e) in
        sym (rows_over p (over_refused end p d)) ∙ sym (ap (judge_rows t s end) q) ∙ sym (rows_step here (not_over end here h refl))

    pub rows_passed : (after : State) (to : ℕ) → fault t st s next ≡ 0 → after ≡ (advance t st (row_set s next) (listed s next)).state → to ≡ row_end s next
        → judge_rows t s end (record { number = 0; next = to; rows = rows + 1; state = after }) ≡ judge_rows t s end here
    rows_passed after to e a b =
        ap₂ (λ (x : State) (k : ℕ). judge_rows t s end (record { number = 0; next = k; rows = rows + 1; state = x })) a b
        ∙ sym (ap (judge_rows t s end) (legal_row t s here e))
        ∙ sym (rows_step here (not_over end here h refl))
