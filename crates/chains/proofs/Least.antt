-- Laws of lists compared number by number, of the lowest that passes a test, and of lists without repeats.
use mathlib.Core.Path.{◌≡◌, refl, sym, ap, ◌∙◌}
use mathlib.Core.Logic.{◌⊎◌, inl, inr, ⊎_elim}
use mathlib.Core.Bool.{Bool, true, false, ◌&&◌, ◌||◌}
use mathlib.Core.List.{List, [], ◌∷◌}
use Prim.Native.Nat.{ℕ, zero, suc, ◌+◌, ◌≤◌, ◌<◌}
use native.Mathlib.Omega.{arith}
use native.Mathlib.Decide.{ℕ_discrete, dec_lt}
use lib.ListN.{length}
use lib.Dec.{eqb}
use borrow.Author.Tests.{lt-ltb, le-ltb, eq-eqb, ne_eqb}
use Rattle.graph.specs.Words.{flag, sum, lowest, is_in, Distinct}
use Rattle.chains.specs.Chains.{list_less}
use Rattle.graph.proofs.Facts.{clash, sum_set, first_in, other_in, tail_in, lowest_is}

-- ---- the lowest that passes
module _ (p : ℕ → Bool) where
  least : (i : ℕ) → p i ≡ true → (y : ℕ) × (y ≤ i) × (p y ≡ true) × ((j : ℕ) → j < y → p j ≡ false)
  least i h = ⊎_elim (λ n. absurd (clash h (n i (omega arith)))) (λ r. (r.0, omega (arith, r.1), r.2, r.3)) (upto (suc i))
    where
      upto : (n : ℕ) → ((j : ℕ) → j < n → p j ≡ false) ⊎ ((y : ℕ) × (y < n) × (p y ≡ true) × ((j : ℕ) → j < y → p j ≡ false))
      upto zero = inl (λ j b. absurd (omega arith))
      upto (suc n) = ⊎_elim (λ a. at (p n) refl a) (λ r. inr (r.0, omega (arith, r.1), r.2, r.3)) (upto n)
        where
          at : (b : Bool) → p n ≡ b → ((j : ℕ) → j < n → p j ≡ false)
              → ((j : ℕ) → j < suc n → p j ≡ false) ⊎ ((y : ℕ) × (y < suc n) × (p y ≡ true) × ((j : ℕ) → j < y → p j ≡ false))
          at true e a = inr (n, omega arith, e, a)
          at false e a = inl (λ j b. elim (ℕ_discrete j n) [ yes q ↦ ap p q ∙ e | no q ↦ a j (omega arith) ])

  -- where one passes, the lowest passes and is no higher
  pub lowest_found : (d n i : ℕ) → i < n → p i ≡ true → (lowest d n p < n) × (p (lowest d n p) ≡ true) × (lowest d n p ≤ i)
  lowest_found d n i b h =
      let r = least i h in
      let e = lowest_is d n p r.0 (omega (arith, r.1)) r.2 r.3 in
      (omega (arith, r.1), ap p e ∙ r.2, omega (arith, r.1))

-- ---- number by number
pub less_higher : (x y : ℕ) (l m : List ℕ) → y < x → list_less (x ∷ l) (y ∷ m) ≡ false
unfolding list_less
less_higher x y l m h =
    ap (λ (b : Bool). b || (eqb x y && list_less l m)) (le-ltb x y (omega arith)) ∙ ap (λ (b : Bool). b && list_less l m) (ne_eqb x y (λ e. omega arith))

pub less_same : (x : ℕ) (l m : List ℕ) → list_less (x ∷ l) (x ∷ m) ≡ list_less l m
unfolding list_less
less_same x l m = rw (le-ltb x x (omega arith), eq-eqb x x refl) refl

pub less_lower : (x y : ℕ) (l m : List ℕ) → x < y → list_less (x ∷ l) (y ∷ m) ≡ true
unfolding list_less
less_lower x y l m h = rw (lt-ltb x y h) refl

pub less_none : (l : List ℕ) → list_less l [] ≡ false
unfolding list_less
less_none l = refl

less_ends : (y : ℕ) (m : List ℕ) → list_less [] (y ∷ m) ≡ true
unfolding list_less
less_ends y m = refl

-- two lists of which neither is smaller are the same
pub neither_less : (l m : List ℕ) → list_less l m ≡ false → list_less m l ≡ false → l ≡ m
neither_less [] [] h k = refl
neither_less [] (y ∷ m) h k = absurd (clash (less_ends y m) h)
neither_less (x ∷ l) [] h k = absurd (clash (less_ends x l) k)
neither_less (x ∷ l) (y ∷ m) h k =
    elim (ℕ_discrete x y) [
      | yes e ↦
          let a : list_less l m ≡ false = sym (less_same x l m) ∙ ap (λ (t : ℕ). list_less (x ∷ l) (t ∷ m)) e ∙ h in
          let b : list_less m l ≡ false = sym (less_same x m l) ∙ ap (λ (t : ℕ). list_less (t ∷ m) (x ∷ l)) e ∙ k in
          ap (λ (t : ℕ). t ∷ l) e ∙ ap (◌∷◌ y) (neither_less l m a b)
      | no d ↦ elim (dec_lt x y) [
        | yes a ↦ absurd (clash (less_lower x y l m a) h)
        | no a ↦ absurd (clash (less_lower y x m l (omega arith)) k)
      ]
    ]

-- ---- a list without repeats whose numbers are below n has at most n
count_one : (n x : ℕ) (l : List ℕ) → x < n → is_in x l ≡ false → sum n (λ k. flag (is_in k (x ∷ l))) ≡ sum n (λ k. flag (is_in k l)) + 1
unfolding flag
count_one n x l b o =
    sum_set n (λ k. flag (is_in k l)) (λ k. flag (is_in k (x ∷ l))) 1 x b (λ k d. ap flag (other_in k x l d)) (rw (first_in x l, o) refl)

counted : (n : ℕ) (l : List ℕ) → Distinct l → ((x : ℕ) → is_in x l ≡ true → x < n) → length l ≤ sum n (λ k. flag (is_in k l))
unfolding Distinct
counted n [] d h = omega arith
counted n (x ∷ l) d h =
    omega (arith, count_one n x l (h x (first_in x l)) d.0, counted n l d.1 (λ y i. h y (tail_in y x l i)))

sum_ones : (n : ℕ) (g : ℕ → Bool) → sum n (λ k. flag (g k)) ≤ n
unfolding sum flag
sum_ones zero g = omega arith
sum_ones (suc n) g = omega (arith, sum_ones n g, one (g n))
  where
    one : (b : Bool) → flag b ≤ 1
    one true = omega arith
    one false = omega arith

pub distinct_short : (n : ℕ) (l : List ℕ) → Distinct l → ((x : ℕ) → is_in x l ≡ true → x < n) → length l ≤ n
distinct_short n l d h = omega (arith, counted n l d h, sum_ones n (λ k. is_in k l))
