-- The lowest number that passes a test: it passes, and none lower does. There is one or none, by asking the numbers one after the other.
use Rattle.std.proofs.Common.{◌≡◌, ℕ, zero, suc, ◌<◌, Bool, true, false, ◌⊎◌, List, [], ◌∷◌, get_or, refl, ap, ◌∙◌, inl, inr, ⊎_elim, arith}
use native.Mathlib.Decide.{ℕ_discrete}
use Rattle.graph.specs.Words.{those_below, lowest, is_in, first_or, lowest_or}
use Rattle.graph.proofs.Facts.{clash, below_all, lowest_is, lowest_or_none}

-- y is the lowest number below n that passes the test
pub record Lowest (n : ℕ) (p : ℕ → Bool) (y : ℕ) : Type 0 where
  pub below : y < n
  pub passes : p y ≡ true
  pub none_lower : (j : ℕ) → j < y → p j ≡ false

-- no number below n passes it
abbrev pub None : ℕ → (ℕ → Bool) → Type 0
None n p = (j : ℕ) → j < n → p j ≡ false

-- there is a lowest, or none
pub lowest_or_none_lem : (n : ℕ) (p : ℕ → Bool) → ((y : ℕ) × Lowest n p y) ⊎ None n p
lowest_or_none_lem zero p = inr (λ j b. absurd (omega arith))
lowest_or_none_lem (suc n) p = ⊎_elim
    (λ r. inl (r.0, record { below = let b = r.1.below in omega arith; passes = r.1.passes; none_lower = r.1.none_lower }))
    (λ none. last (p n) refl none)
    (lowest_or_none_lem n p)
  where
    last : (c : Bool) → p n ≡ c → None n p → ((y : ℕ) × Lowest (suc n) p y) ⊎ None (suc n) p
    last true e none = inl (n, record { below = omega arith; passes = e; none_lower = none })
    last false e none = inr (λ j b. elim (ℕ_discrete j n) [ yes q ↦ ap p q ∙ e | no q ↦ none j (omega arith) ])

module _ {ℓ} {X : Type ℓ} (n : ℕ) (p : ℕ → Bool) (f : ℕ → X) (other : X) where
  -- `lowest_or` gives what f makes of the lowest
  pub lowest_or_is : (y : ℕ) → Lowest n p y → lowest_or n p f other ≡ f y
  unfolding lowest_or first_or is_in lowest
  lowest_or_is y l = go (those_below n p) (lowest_is 0 n p y l.below l.passes l.none_lower) (below_all n p y l.below l.passes)
    where
      go : (ks : List ℕ) → get_or ks 0 0 ≡ y → is_in y ks ≡ true → first_or ks f other ≡ f y
      go [] e h = absurd (clash h refl)
      go (k ∷ ks) e h = ap f e

  -- WHAT `lowest_or` MEANS, case by case
  pub lowest_cases : ((y : ℕ) × Lowest n p y × (lowest_or n p f other ≡ f y)) ⊎ (None n p × (lowest_or n p f other ≡ other))
  lowest_cases = ⊎_elim
      (λ r. inl (r.0, r.1, lowest_or_is r.0 r.1))
      (λ none. inr (none, lowest_or_none n p f other none))
      (lowest_or_none_lem n p)
