-- Facts about lists of vertices: one of them, none of them, fewer of them.
use mathlib.Core.Path.{◌≡◌, refl, sym, ap, ◌∙◌}
use mathlib.Core.Logic.{◌⊎◌, inl, inr, ⊎_elim}
use mathlib.Core.Bool.{Bool, true, false}
use mathlib.Core.List.{List, [], ◌∷◌}
use Prim.Native.Nat.{ℕ, ◌≤◌, ◌<◌}
use native.Mathlib.Omega.{arith}
use lib.ListN.{length}
use Rattle.graph.specs.Words.{pick, also_if, those, is_in, any_of, is_none}
use Rattle.graph.proofs.Facts.{clash, first_in, other_in, tail_in}

-- a test takes something out, or changes nothing
pub those_fewer : (p : ℕ → Bool) (l : List ℕ) → (those p l ≡ l) ⊎ (length (those p l) < length l)
unfolding those also_if
those_fewer p [] = inl refl
those_fewer p (x ∷ l) = go (p x) (those_fewer p l)
  where
    go : (b : Bool) → (those p l ≡ l) ⊎ (length (those p l) < length l) → (also_if b x (those p l) ≡ x ∷ l) ⊎ (length (also_if b x (those p l)) < length (x ∷ l))
    go true h = ⊎_elim (λ e. inl (ap (◌∷◌ x) e)) (λ e. inr (omega arith)) h
    go false h = ⊎_elim (λ e. let n = ap length e in inr (omega arith)) (λ e. inr (omega arith)) h

-- ---- one of a list, none of a list
pub none_in : (l : List ℕ) (x : ℕ) → is_none l ≡ true → is_in x l ≡ true → ⊥
unfolding is_none is_in
none_in [] x h i = clash i refl
none_in (y ∷ l) x h i = clash h refl

pub any_some : (l : List ℕ) (p : ℕ → Bool) → any_of l p ≡ true → (u : ℕ) × (is_in u l ≡ true) × (p u ≡ true)
unfolding any_of
any_some [] p h = absurd (clash h refl)
any_some (x ∷ l) p h = go (p x) refl h (any_some l p)
  where
    go : (b : Bool) → p x ≡ b → pick b true (any_of l p) ≡ true → (any_of l p ≡ true → (u : ℕ) × (is_in u l ≡ true) × (p u ≡ true))
        → (u : ℕ) × (is_in u (x ∷ l) ≡ true) × (p u ≡ true)
    go true e h k = (x, first_in x l, e)
    go false e h k = let r = k h in (r.0, tail_in r.0 x l r.1, r.2)

pub some_any : (l : List ℕ) (p : ℕ → Bool) (u : ℕ) → is_in u l ≡ true → p u ≡ true → any_of l p ≡ true
unfolding any_of is_none
some_any [] p u h q = absurd (none_in [] u refl h)
some_any (x ∷ l) p u h q = go (p x) refl (λ i. some_any l p u i q)
  where
    go : (b : Bool) → p x ≡ b → (is_in u l ≡ true → any_of l p ≡ true) → pick b true (any_of l p) ≡ true
    go true e k = refl
    go false e k = k (sym (other_in u x l (λ z. clash q (ap p z ∙ e))) ∙ h)

pub some_in : (l : List ℕ) → is_none l ≡ false → (x : ℕ) × (is_in x l ≡ true) × (1 ≤ length l)
unfolding is_none
some_in [] h = absurd (clash refl h)
some_in (x ∷ l) h = (x, first_in x l, omega arith)
