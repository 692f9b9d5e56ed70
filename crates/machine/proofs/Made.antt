-- An array that a closure makes, entry by entry: it is a row.
use Rattle.std.proofs.Common.{◌≡◌, ℕ, zero, suc, ◌+◌, ◌<◌, ◌≤◌, List, get_or, sym, ap, ◌∙◌, subst, arith, ext_get_or}
use native.Mathlib.Decide.{ℕ_discrete}
use denote.Param.Members.{Mut, Called}
use Rattle.std.specs.Array.{IsFromFnResultFrom, IsFromFnResult}
use Rattle.graph.specs.Words.{row}
use Rattle.graph.proofs.Facts.{length_row, row_at}

module _ {F B : Type 0} (g : Mut F (ℕ × Unit {0}) B) (f : F) (ys : List B) (n : ℕ) (d : B) (h : ℕ → B)
    (each : (i : ℕ) (y : B) (q : F) → i < n → Called g f (i, tt) y q → (q ≡ f) × (y ≡ h i)) where
  made_from : (k i : ℕ) → i + k ≡ n → IsFromFnResultFrom g f ys i k → (j : ℕ) → i ≤ j → j < n → get_or ys j d ≡ h j
  made_from zero i e r j a b = absurd (omega arith)
  made_from (suc k) i e r j a b =
      let made = each i r.1 r.0 (omega arith) r.3 in
      elim (ℕ_discrete j i) [
        | yes q ↦ ap (λ (m : ℕ). get_or ys m d) q ∙ r.2.1 d ∙ made.1 ∙ ap h (sym q)
        | no q ↦ made_from k (i + 1) (omega arith) (subst (λ (p : F). IsFromFnResultFrom g p ys (i + 1) k) made.0 r.4) j (omega arith) b
      ]

  -- where the closure's calls change nothing that it captures
  pub made_row : IsFromFnResult g f ys n → ys ≡ row n h
  made_row r = ext_get_or d ys (row n h) (r.long ∙ sym (length_row n h))
      (λ j l. let b : j < n = omega (arith, r.long) in made_from n 0 (omega arith) r.each j (omega arith) b ∙ sym (row_at n h j d b))
