-- What `lowest_or` gives, by whether a search finds one.
use Rattle.std.proofs.Common.{◌≡◌, ℕ, ◌<◌, Bool, true, false, List, [], ◌∷◌, Option, Some, None, ap, sym, refl}
use Rattle.std.proofs.lemmas.Option.{none-some, same_Some}
use Rattle.std.specs.Prelude.{is_some}
use Rattle.graph.proofs.Facts.{clash}
use Rattle.graph.proofs.Members.{below_same}
use Rattle.graph.specs.Words.{those_below, first_or, lowest_or}

module _ {X : Type 0} (n : ℕ) (p : ℕ → Bool) (f : ℕ → X) (other : X) where
  pub lowest_some : (y : ℕ) → lowest_or n p Some None ≡ Some y → lowest_or n p f other ≡ f y
  unfolding lowest_or first_or
  lowest_some y = go (those_below n p)
    where
      go : (l : List ℕ) → first_or l Some None ≡ Some y → first_or l f other ≡ f y
      go [] e = absurd (none-some y e)
      go (k ∷ l) e = ap f (same_Some k y e)

  pub lowest_no : lowest_or n p Some None ≡ None → lowest_or n p f other ≡ other
  unfolding lowest_or first_or
  lowest_no = go (those_below n p)
    where
      go : (l : List ℕ) → first_or l Some None ≡ None → first_or l f other ≡ other
      go [] e = refl
      go (k ∷ l) e = absurd (none-some k (sym e))

-- it goes by what the test says below n alone
pub lowest_same : {X : Type 0} (n : ℕ) (p q : ℕ → Bool) (f : ℕ → X) (other : X) → ((k : ℕ) → k < n → p k ≡ q k) → lowest_or n p f other ≡ lowest_or n q f other
unfolding lowest_or
lowest_same n p q f other h = ap (λ (l : List ℕ). first_or l f other) (below_same n p q h)

-- whether there is one
pub some_of : (r : Option ℕ) → is_some r ≡ true → (y : ℕ) × (r ≡ Some y)
some_of (Some y) h = (y, refl)
some_of None h = absurd (clash h refl)

pub none_of : (r : Option ℕ) → is_some r ≡ false → r ≡ None
none_of None h = refl
none_of (Some y) h = absurd (clash refl h)
