-- Laws that the verdict's two searches need: the order of signed numbers, a smallest of some, the lowest that passes a test.
use mathlib.Core.Path.{◌≡◌, refl, sym, ap, ◌∙◌}
use mathlib.Core.Logic.{◌⊎◌, inl, inr, ⊎_elim}
use mathlib.Core.Bool.{Bool, true, false}
use mathlib.Core.List.{List, [], ◌∷◌}
use Prim.Native.Nat.{ℕ, zero, suc, ◌<◌}
use native.Mathlib.Omega.{arith}
use native.Mathlib.Decide.{ℕ_discrete}
use lib.ListN.{get_or}
use lib.IntN.{ℤ, pos, negsuc}
use lib.Signed.{lt_z, le_z, ◌≤ℤ◌, ◌<ℤ◌}
use borrow.Author.Tests.{le-leb, leb-true, leb-false, lt-ltb, ltb-true, ltb-false}
use Rattle.graph.specs.Words.{those_below, lowest, is_in, first_or, lowest_or}
use Rattle.graph.proofs.Facts.{clash, lowest_is, below_all}

-- ---- a test of two signed numbers, and the order that it decides
pub le_yes : (a b : ℤ) → le_z a b ≡ true → a ≤ℤ b
le_yes a b e = record { le = rw e tt }

pub lt_yes : (a b : ℤ) → lt_z a b ≡ true → a <ℤ b
lt_yes a b e = record { lt = rw e tt }

-- where one test fails, the other of the reversed order passes
pub not_le : (a b : ℤ) → le_z a b ≡ false → lt_z b a ≡ true
not_le (pos a) (pos b) h = lt-ltb b a (leb-false a b h)
not_le (pos a) (negsuc b) h = refl
not_le (negsuc a) (pos b) h = absurd (clash refl h)
not_le (negsuc a) (negsuc b) h = lt-ltb a b (leb-false b a h)

pub not_lt : (a b : ℤ) → lt_z a b ≡ false → le_z b a ≡ true
not_lt (pos a) (pos b) h = le-leb b a (ltb-false a b h)
not_lt (pos a) (negsuc b) h = refl
not_lt (negsuc a) (pos b) h = absurd (clash refl h)
not_lt (negsuc a) (negsuc b) h = le-leb a b (ltb-false b a h)

pub lt_le : (a b : ℤ) → lt_z a b ≡ true → le_z a b ≡ true
lt_le (pos a) (pos b) h = le-leb a b (omega (arith, ltb-true a b h))
lt_le (pos a) (negsuc b) h = h
lt_le (negsuc a) (pos b) h = refl
lt_le (negsuc a) (negsuc b) h = le-leb b a (omega (arith, ltb-true b a h))

pub le_refl : (a : ℤ) → le_z a a ≡ true
le_refl (pos a) = le-leb a a (omega arith)
le_refl (negsuc a) = le-leb a a (omega arith)

pub le_trans : (a b c : ℤ) → le_z a b ≡ true → le_z b c ≡ true → le_z a c ≡ true
le_trans (pos a) (pos b) (pos c) h k = le-leb a c (omega (arith, leb-true a b h, leb-true b c k))
le_trans (pos a) (pos b) (negsuc c) h k = absurd (clash k refl)
le_trans (pos a) (negsuc b) c h k = absurd (clash h refl)
le_trans (negsuc a) (pos b) (pos c) h k = refl
le_trans (negsuc a) (pos b) (negsuc c) h k = absurd (clash k refl)
le_trans (negsuc a) (negsuc b) (pos c) h k = refl
le_trans (negsuc a) (negsuc b) (negsuc c) h k = le-leb c a (omega (arith, leb-true b a h, leb-true c b k))

pub le_antisym : (a b : ℤ) → le_z a b ≡ true → le_z b a ≡ true → a ≡ b
le_antisym (pos a) (pos b) h k = ap pos (omega (arith, leb-true a b h, leb-true b a k))
le_antisym (pos a) (negsuc b) h k = absurd (clash h refl)
le_antisym (negsuc a) (pos b) h k = absurd (clash k refl)
le_antisym (negsuc a) (negsuc b) h k = ap negsuc (omega (arith, leb-true b a h, leb-true a b k))

-- ---- of one signed number or more, one is the smallest
pub smallest : (n : ℕ) (z : ℕ → ℤ) → (k : ℕ) × (k < suc n) × ((i : ℕ) → i < suc n → le_z (z k) (z i) ≡ true)
smallest zero z = (0, omega arith, λ i b. let e : i ≡ 0 = omega arith in rw e (le_refl (z 0)))
smallest (suc n) z = let r = smallest n z in go r.0 r.1 r.2 (le_z (z r.0) (z (suc n))) refl
  where
    with_last : (k : ℕ) → ((i : ℕ) → i < suc n → le_z (z k) (z i) ≡ true) → le_z (z k) (z (suc n)) ≡ true
        → (i : ℕ) → i < suc (suc n) → le_z (z k) (z i) ≡ true
    with_last k h l i b = elim (ℕ_discrete i (suc n)) [ yes e ↦ rw e l | no e ↦ h i (omega arith) ]

    go : (k : ℕ) → k < suc n → ((i : ℕ) → i < suc n → le_z (z k) (z i) ≡ true) → (c : Bool) → le_z (z k) (z (suc n)) ≡ c
        → (j : ℕ) × (j < suc (suc n)) × ((i : ℕ) → i < suc (suc n) → le_z (z j) (z i) ≡ true)
    go k b h true e = (k, omega arith, with_last k h e)
    go k b h false e =
        let l = lt_le (z (suc n)) (z k) (not_le (z k) (z (suc n)) e) in
        (suc n, omega arith, with_last (suc n) (λ i q. le_trans (z (suc n)) (z k) (z i) l (h i q)) (le_refl (z (suc n))))

-- ---- the lowest number below n that passes a test
abbrev pub Lowest : ℕ → (ℕ → Bool) → ℕ → Type 0
Lowest n p y = (y < n) × (p y ≡ true) × ((j : ℕ) → j < y → p j ≡ false)

pub search_low : (n : ℕ) (p : ℕ → Bool) → ((y : ℕ) × Lowest n p y) ⊎ ((j : ℕ) → j < n → p j ≡ false)
search_low zero p = inr (λ j b. absurd (omega arith))
search_low (suc n) p = ⊎_elim
    (λ r. inl (r.0, (omega (arith, r.1.0), r.1.1, r.1.2)))
    (λ h. last h (p n) refl)
    (search_low n p)
  where
    last : ((j : ℕ) → j < n → p j ≡ false) → (c : Bool) → p n ≡ c → ((y : ℕ) × Lowest (suc n) p y) ⊎ ((j : ℕ) → j < suc n → p j ≡ false)
    last h true e = inl (n, (omega arith, e, h))
    last h false e = inr (λ j b. elim (ℕ_discrete j n) [ yes q ↦ ap p q ∙ e | no q ↦ h j (omega arith) ])

module _ {ℓ} {X : Type ℓ} (n : ℕ) (p : ℕ → Bool) (f : ℕ → X) (other : X) where
  pub lowest_or_is : (y : ℕ) → Lowest n p y → lowest_or n p f other ≡ f y
  unfolding lowest_or first_or lowest is_in
  lowest_or_is y h = go (those_below n p) refl
    where
      go : (l : List ℕ) → those_below n p ≡ l → first_or l f other ≡ f y
      go [] e = absurd (clash (sym (ap (is_in y) e) ∙ below_all n p y h.0 h.1) refl)
      go (k ∷ ks) e = ap f (sym (ap (λ (l : List ℕ). get_or l 0 0) e) ∙ lowest_is 0 n p y h.0 h.1 h.2)

-- a function of what is found
pub lowest_or_map {ℓ κ} : {X : Type ℓ} {Y : Type κ} (g : X → Y) (n : ℕ) (p : ℕ → Bool) (f : ℕ → X) (other : X)
    → g (lowest_or n p f other) ≡ lowest_or n p (λ k. g (f k)) (g other)
unfolding lowest_or first_or
lowest_or_map g n p f other = go (those_below n p)
  where
    go : (l : List ℕ) → g (first_or l f other) ≡ first_or l (λ k. g (f k)) (g other)
    go [] = refl
    go (k ∷ ks) = refl
