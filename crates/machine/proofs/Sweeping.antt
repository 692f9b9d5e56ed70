-- A row that a loop over the members of a set changes, from the lowest member up: at the members that were passed it is as the
-- definition says, elsewhere as it was. `rest` are the members still to come.
use Rattle.std.proofs.Common.{◌≡◌, ℕ, ◌-◌, ◌^◌, ◌<◌, ◌≤◌, Bool, true, false, not, ◌&&◌, List, length, get_or, set, replicate, sym, refl, ap, ◌∙◌, arith, length-set, get_or-set_other, get_or-set_same, eq-eqb, ne_eqb, pow_mono}
use mathlib.Core.Path.{subst⁻¹}
use native.Mathlib.Decide.{ℕ_discrete, dec_lt}
use lib.Bits.{bit_and, and_le_r}
use lib.Count.{count_trailing_zeros}
use Rattle.graph.specs.Words.{pick, bit, row}
use Rattle.graph.proofs.Facts.{clash}
use Rattle.graph.proofs.Bits.{lowest, lowest_lt, lowest_less, bit_zero, bit_past}
use Rattle.machine.proofs.Filling.{same_throughout, row_same, row_ext}

-- ---- a set without its lowest member
module _ (x : ℕ) (p : 0 < x) (h : x < 2 ^ 64) where
  abbrev t : ℕ
  t = count_trailing_zeros 64 x

  abbrev y : ℕ
  y = bit_and x (x - 1)

  pub first_small : t < 64
  first_small = lowest_lt 64 x p h

  pub first_in : bit x t ≡ true
  first_in = (lowest 64 x p h).here

  pub falls : y < x
  falls = omega (arith, and_le_r x (x - 1))

  pub first_out : bit y t ≡ false
  first_out = lowest_less 64 x p h t ∙ ap (λ (b : Bool). bit x t && not b) (eq-eqb t t refl) ∙ none (bit x t)
    where
      none : (b : Bool) → (b && false) ≡ false
      none true = refl
      none false = refl

  pub others_same : (k : ℕ) → (k ≡ t → ⊥) → bit y k ≡ bit x k
  others_same k d = lowest_less 64 x p h k ∙ ap (λ (b : Bool). bit x k && not b) (ne_eqb k t d) ∙ same (bit x k)
    where
      same : (b : Bool) → (b && true) ≡ b
      same true = refl
      same false = refl

  pub still_in : (k : ℕ) → bit y k ≡ true → (bit x k ≡ true) × (k ≡ t → ⊥)
  still_in k e = elim (ℕ_discrete k t) [
    | yes z ↦ absurd (clash e (ap (bit y) z ∙ first_out))
    | no z ↦ (sym (others_same k z) ∙ e, z)
  ]

-- ---- the row
pub record Swept {ℓ} {X : Type ℓ} (n : ℕ) (d : X) (f : ℕ → X) (before : List X) (all rest : ℕ) (now : List X) : Type ℓ where
  pub narrow : rest < 2 ^ 64
  pub few : (k : ℕ) → bit rest k ≡ true → k < n
  pub size : length now ≡ n
  pub part : (k : ℕ) → bit rest k ≡ true → bit all k ≡ true
  pub done : (k : ℕ) → bit all k ≡ true → bit rest k ≡ false → get_or now k d ≡ f k
  pub kept : (k : ℕ) → bit all k ≡ false → get_or now k d ≡ get_or before k d

module _ {ℓ} {X : Type ℓ} (n : ℕ) (d : X) (f : ℕ → X) (before : List X) (all : ℕ) where
  pub swept_none : n ≤ 64 → all < 2 ^ n → length before ≡ n → Swept n d f before all all before
  swept_none m h e = record {
    narrow = let w : 2 ^ n ≤ 2 ^ 64 = pow_mono m in omega (arith, h, w);
    few = λ k i. elim (dec_lt k n) [
      | yes b ↦ b
      | no b ↦ absurd (clash i (bit_past all n k h (omega (arith, b))))
    ];
    size = e;
    part = λ k i. i;
    done = λ k i o. absurd (clash i o);
    kept = λ k o. refl;
  }

  module _ (rest : ℕ) (now : List X) (r : Swept n d f before all rest now) where
    pub swept_one : (p : 0 < rest) (x : X) → x ≡ f (count_trailing_zeros 64 rest) → Swept n d f before all (bit_and rest (rest - 1)) (set now (count_trailing_zeros 64 rest) x)
    swept_one p x e =
        let h = r.narrow in
        let s = count_trailing_zeros 64 rest in
        record {
          narrow = omega (arith, falls rest p h);
          few = λ k i. r.few k (still_in rest p h k i).0;
          size = length-set now s x ∙ r.size;
          part = λ k i. r.part k (still_in rest p h k i).0;
          done = λ k i o. elim (ℕ_discrete k s) [
            | yes q ↦ ap (λ (j : ℕ). get_or (set now s x) j d) q ∙ get_or-set_same now s x d (omega (arith, r.size, r.few s (first_in rest p h))) ∙ e ∙ ap f (sym q)
            | no q ↦ get_or-set_other now s k x d q ∙ r.done k i (sym (others_same rest p h k q) ∙ o)
          ];
          kept = λ k o. elim (ℕ_discrete k s) [
            | yes q ↦ absurd (clash (ap (bit all) q ∙ r.part s (first_in rest p h)) o)
            | no q ↦ get_or-set_other now s k x d q ∙ r.kept k o
          ];
        }

    -- where the code has the member by its own name
    pub swept_at : (p : 0 < rest) (s : ℕ) → s ≡ count_trailing_zeros 64 rest → (x : X) → x ≡ f s → Swept n d f before all (bit_and rest (rest - 1)) (set now s x)
    swept_at p s e x q = subst⁻¹ (λ (j : ℕ). Swept n d f before all (bit_and rest (rest - 1)) (set now j x)) e (swept_one p x (q ∙ ap f e))

    pub swept_all : rest ≡ 0 → now ≡ row n (λ k. pick (bit all k) (f k) (get_or before k d))
    swept_all z = sym (row_same n d _ now r.size (λ k b. go k (bit all k) refl))
      where
        go : (k : ℕ) (c : Bool) → bit all k ≡ c → pick c (f k) (get_or before k d) ≡ get_or now k d
        go k true e = sym (r.done k e (ap (λ (n : ℕ). bit n k) z ∙ bit_zero k))
        go k false e = sym (r.kept k e)

-- into a row of one value throughout
pub swept_alike {ℓ} : {X : Type ℓ} (d : X) (f : ℕ → X) (all rest : ℕ) (now : List X) → Swept 64 d f (replicate 64 d) all rest now → rest ≡ 0
    → now ≡ row 64 (λ k. pick (bit all k) (f k) d)
swept_alike d f all rest now r z = swept_all 64 d f (replicate 64 d) all rest now r z
    ∙ row_ext 64 d _ _ (λ k b. ap (pick (bit all k) (f k)) (same_throughout 64 k d))
