-- An ascending list of keys is what a test picks out of the numbers below a bound.
use mathlib.Core.Path.{◌≡◌, refl, ap, ◌∙◌}
use mathlib.Core.Bool.{Bool, true, false}
use mathlib.Core.List.{List, [], ◌∷◌}
use Prim.Native.Nat.{ℕ, zero, suc, ◌+◌, ◌≤◌, ◌<◌}
use native.Mathlib.Omega.{arith}
use native.Mathlib.Decide.{ℕ_discrete}
use Rattle.graph.specs.Words.{row_from, also_if, those, is_in}
use Rattle.graph.proofs.Facts.{first_in, other_in}

unfoldable pub Asc : ℕ → ℕ → List ℕ → Type 0
Asc low top [] = Unit {0}
Asc low top (k ∷ ks) = (low ≤ k) × (k < top) × Asc (suc k) top ks

pub empty : (x : ℕ) → is_in x [] ≡ false
unfolding is_in
empty x = refl

-- below the first there is none
pub not_below : (low top x : ℕ) (ks : List ℕ) → Asc low top ks → x < low → is_in x ks ≡ false
unfolding Asc
not_below low top x [] h l = empty x
not_below low top x (k ∷ ks) h l =
    let a = h.0 in
    other_in x k ks (λ q. absurd (omega arith)) ∙ not_below (suc k) top x ks h.2 (omega arith)

pub asc_weaken : (low low' top : ℕ) (ks : List ℕ) → low' ≤ low → Asc low top ks → Asc low' top ks
unfolding Asc
asc_weaken low low' top [] q h = tt
asc_weaken low low' top (k ∷ ks) q h = let a = h.0 in (omega arith, h.1, h.2)

-- such a list is what a test that agrees with it picks out
pub picked_out : (p : ℕ → Bool) (n a top : ℕ) (ks : List ℕ) → top ≡ a + n → Asc a top ks → ((k : ℕ) → a ≤ k → k < top → p k ≡ is_in k ks)
    → those p (row_from n a (λ j. j)) ≡ ks
unfolding those row_from Asc also_if
picked_out p zero a top [] t h m = refl
picked_out p zero a top (k ∷ ks) t h m = let l = h.0 in let u = h.1 in absurd (omega arith)
picked_out p (suc n) a top [] t h m =
    let e : p a ≡ false = m a (omega arith) (omega arith) ∙ empty a in
    rw e (picked_out p n (suc a) top [] (omega arith) tt (λ k l u. m k (omega arith) u))
picked_out p (suc n) a top (k ∷ ks) t h m =
    let l = h.0 in
    let u = h.1 in
    elim (ℕ_discrete a k) [
      | yes q ↦
          let e : p a ≡ true = m a (omega arith) (omega arith) ∙ ap (λ (z : ℕ). is_in z (k ∷ ks)) q ∙ first_in k ks in
          let i = picked_out p n (suc a) top ks (omega arith) (asc_weaken (suc k) (suc a) top ks (omega arith) h.2)
          (λ j x w. m j (omega arith) w ∙ other_in j k ks (λ z. absurd (omega arith))) in
          rw e (cc)
      | no q ↦
          let e : p a ≡ false = m a (omega arith) (omega arith) ∙ other_in a k ks q ∙ not_below (suc k) top a ks h.2 (omega arith) in
          rw e (picked_out p n (suc a) top (k ∷ ks) (omega arith) (omega arith, h.1, h.2) (λ j x w. m j (omega arith) w))
    ]

-- and what a test picks out ascends
pub keys_asc : (p : ℕ → Bool) (n a top : ℕ) → top ≡ a + n → Asc a top (those p (row_from n a (λ j. j)))
unfolding those row_from Asc also_if
keys_asc p zero a top t = tt
keys_asc p (suc n) a top t = go (p a) (keys_asc p n (suc a) top (omega arith))
  where
    go : (b : Bool) → Asc (suc a) top (those p (row_from n (suc a) (λ j. j))) → Asc a top (also_if b a (those p (row_from n (suc a) (λ j. j))))
    go true h = (omega arith, omega arith, h)
    go false h = asc_weaken (suc a) a top (those p (row_from n (suc a) (λ j. j))) (omega arith) h
