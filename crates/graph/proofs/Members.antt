-- A set of sixteen bits and the list of its members.
use mathlib.Core.Path.{◌≡◌, refl, sym, ap, ◌∙◌}
use mathlib.Core.Bool.{Bool, true, false, not, ◌&&◌}
use mathlib.Core.List.{List, [], ◌∷◌}
use Prim.Native.Nat.{ℕ, zero, suc, ◌+◌, ◌^◌, ◌-◌, ◌≤◌, ◌<◌}
use native.Mathlib.Omega.{arith}
use native.Mathlib.Nat.{mod-eq_of_lt}
use native.Mathlib.Decide.{ℕ_discrete, dec_lt}
use lib.ListN.{length}
use lib.Dec.{eqb}
use lib.Bits.{bit_and, and_le_r, and_comm, and_mask}
use lib.Count.{count_trailing_zeros}
use borrow.Author.Tests.{eq-eqb, ne_eqb}
use Rattle.graph.specs.Words.{bit, row_from, row, also_if, those, those_below, members, lowest, is_in, is_none}
use Rattle.graph.proofs.Facts.{clash, length_row, below_pass, below_all, lowest_is, lowest_none, off_when}
use Rattle.graph.proofs.Bits as B

-- ---- those that pass a test
pub those_same : (p q : ℕ → Bool) (l : List ℕ) → ((k : ℕ) → p k ≡ q k) → those p l ≡ those q l
unfolding those
those_same p q [] h = refl
those_same p q (x ∷ l) h = ap (λ (b : Bool). also_if b x (those p l)) (h x) ∙ ap (also_if (q x) x) (those_same p q l h)

-- a test of those that pass another
pub those_those : (p q : ℕ → Bool) (l : List ℕ) → those p (those q l) ≡ those (λ k. q k && p k) l
unfolding those also_if
those_those p q [] = refl
those_those p q (x ∷ l) = go (q x) (those_those p q l)
  where
    go : (b : Bool) → those p (those q l) ≡ those (λ k. q k && p k) l
        → those p (also_if b x (those q l)) ≡ also_if (b && p x) x (those (λ k. q k && p k) l)
    go true h = ap (also_if (p x) x) h
    go false h = h

from_same : (n i : ℕ) (p q : ℕ → Bool) → ((k : ℕ) → i ≤ k → k < i + n → p k ≡ q k) → those p (row_from n i (λ j. j)) ≡ those q (row_from n i (λ j. j))
unfolding those row_from
from_same zero i p q h = refl
from_same (suc n) i p q h =
    ap (λ (b : Bool). also_if b i (those p (row_from n (suc i) (λ j. j)))) (h i (omega arith) (omega arith))
    ∙ ap (also_if (q i) i) (from_same n (suc i) p q (λ k a b. h k (omega arith) (omega arith)))

pub below_same : (n : ℕ) (p q : ℕ → Bool) → ((k : ℕ) → k < n → p k ≡ q k) → those_below n p ≡ those_below n q
unfolding those_below row
below_same n p q h = from_same n 0 p q (λ k a b. h k (omega arith))

-- the lowest stands first; q passes all that p passes but it
module _ (p q : ℕ → Bool) (t : ℕ) (here : p t ≡ true) (before : (j : ℕ) → j < t → p j ≡ false) where
  from_first : (n i : ℕ) → i ≤ t → t < i + n → ((k : ℕ) → k < i + n → q k ≡ (p k && not (eqb k t)))
      → those p (row_from n i (λ j. j)) ≡ t ∷ those q (row_from n i (λ j. j))
  unfolding those row_from also_if
  from_first zero i a b h = absurd (omega arith)
  from_first (suc n) i a b h =
      elim (ℕ_discrete i t) [
        | yes e ↦
            at (p i) (q i) e (ap p e ∙ here) (h i (omega arith) ∙ rw (eq-eqb i t e, e, here) refl)
            (from_same n (suc i) p q (λ k c d. sym (h k (omega arith) ∙ other k (omega arith))))
        | no d ↦
            past (p i) (q i) (before i (omega arith)) (h i (omega arith) ∙ rw (before i (omega arith)) refl)
            (from_first n (suc i) (omega arith) (omega arith) (λ k c. h k (omega arith)))
      ]
    where
      other : (k : ℕ) → t < k → (p k && not (eqb k t)) ≡ p k
      other k c = rw (ne_eqb k t (λ z. omega arith)) (go (p k))
        where
          go : (b : Bool) → (b && true) ≡ b
          go true = refl
          go false = refl

      at : (b d : Bool) → i ≡ t → b ≡ true → d ≡ false → those p (row_from n (suc i) (λ j. j)) ≡ those q (row_from n (suc i) (λ j. j))
          → also_if b i (those p (row_from n (suc i) (λ j. j))) ≡ t ∷ also_if d i (those q (row_from n (suc i) (λ j. j)))
      at true false e x y h = ap (λ (z : ℕ). z ∷ those p (row_from n (suc i) (λ j. j))) e ∙ ap (◌∷◌ t) h
      at true true e x y h = absurd (clash refl y)
      at false d e x y h = absurd (clash x refl)

      past : (b d : Bool) → b ≡ false → d ≡ false → those p (row_from n (suc i) (λ j. j)) ≡ t ∷ those q (row_from n (suc i) (λ j. j))
          → also_if b i (those p (row_from n (suc i) (λ j. j))) ≡ t ∷ also_if d i (those q (row_from n (suc i) (λ j. j)))
      past false false x y h = h
      past false true x y h = absurd (clash refl y)
      past true d x y h = absurd (clash refl x)

  pub below_first : (n : ℕ) → t < n → ((k : ℕ) → k < n → q k ≡ (p k && not (eqb k t))) → those_below n p ≡ t ∷ those_below n q
  unfolding those_below row
  below_first n b h = from_first n 0 (omega arith) (omega arith) (λ k c. h k (omega arith))

-- ---- members
pub members_and : (x y : ℕ) → members (bit_and x y) ≡ those (bit y) (members x)
unfolding members those_below
members_and x y =
    those_same (bit (bit_and x y)) (λ k. bit x k && bit y k) (row 16 (λ i. i)) (B.bit_and_lem x y)
    ∙ sym (those_those (bit y) (bit x) (row 16 (λ i. i)))

pub members_full : members 65535 ≡ row 16 (λ i. i)
unfolding members those_below those also_if row row_from bit
members_full = refl

-- and the set of all sixteen leaves out none of another
pub full_and : (x : ℕ) → x < 2 ^ 16 → bit_and 65535 x ≡ x
full_and x h = and_comm 65535 x ∙ and_mask x 16 ∙ mod-eq_of_lt h

pub members_zero : members 0 ≡ []
unfolding members those_below those also_if row row_from bit
members_zero = refl

-- what the code takes for the lowest of a set
pub first_is : (x : ℕ) → x < 2 ^ 16 → count_trailing_zeros 16 x ≡ lowest 16 16 (bit x)
unfolding count_trailing_zeros
first_is x h =
    elim (dec_lt 0 x) [
      | yes p ↦ let l = B.lowest 16 x p h in sym (lowest_is 16 16 (bit x) _ (B.lowest_lt 16 x p h) l.here l.below)
      | no p ↦ let z : x ≡ 0 = omega arith in rw z none
    ]
  where
    none : count_trailing_zeros 16 0 ≡ lowest 16 16 (bit 0)
    none = sym (lowest_none 16 16 (bit 0) (λ j b. B.bit_zero j))

-- a set that is not empty: its lowest, and the others
pub members_first : (x : ℕ) → 0 < x → x < 2 ^ 16 → members x ≡ lowest 16 16 (bit x) ∷ members (bit_and x (x - 1))
unfolding members
members_first x p h =
    let l = B.lowest 16 x p h in
    rw (← first_is x h)
    (below_first (bit x) (bit (bit_and x (x - 1))) (count_trailing_zeros 16 x) l.here l.below 16 (B.lowest_lt 16 x p h) (λ k c. B.lowest_less 16 x p h k))

-- a number of sixteen bits holds numbers below 16
pub held_below : (x k : ℕ) → x < 2 ^ 16 → bit x k ≡ true → k < 16
held_below x k h e = elim (dec_lt k 16) [ yes l ↦ l | no l ↦ absurd (clash e (B.bit_past x 16 k h (omega arith))) ]

-- a step over a set of sixteen bits, as `Members` takes it: u comes, and y is what is left of x
pub record Took (x u y : ℕ) : Type 0 where
  pub below : u < 16
  pub listed : members x ≡ u ∷ members y
  pub small : y < 2 ^ 16

pub took : {x u y : ℕ} → (0 < x) × (u ≡ count_trailing_zeros 64 x) × (u < 64) × (y ≡ bit_and x (x - 1)) → x < 2 ^ 16 → Took x u y
unfolding members
took {x} {u} {y} s h =
    let l = B.lowest 64 x s.0 (omega arith) in
    let b : count_trailing_zeros 64 x < 16 = held_below x (count_trailing_zeros 64 x) h l.here in
    record {
      below = omega (arith, b, s.1);
      listed = rw (s.1, s.3)
          (below_first (bit x) (bit (bit_and x (x - 1))) (count_trailing_zeros 64 x) l.here l.below 16 b
          (λ k c. B.lowest_less 64 x s.0 (omega arith) k));
      small = omega (arith, and_le_r x (x - 1), s.3);
    }

pub members_none : (x : ℕ) → x < 2 ^ 16 → is_none (members x) ≡ eqb x 0
unfolding is_none
members_none x h =
    elim (dec_lt 0 x) [
      | yes p ↦ ap is_none (members_first x p h) ∙ sym (ne_eqb x 0 (λ z. omega arith))
      | no p ↦ let z : x ≡ 0 = omega arith in rw z (ap is_none members_zero)
    ]

pub those_short : (p : ℕ → Bool) (l : List ℕ) → length (those p l) ≤ length l
unfolding those also_if
those_short p [] = omega arith
those_short p (x ∷ l) = go (p x) (those_short p l)
  where
    go : (b : Bool) → length (those p l) ≤ length l → length (also_if b x (those p l)) ≤ length (x ∷ l)
    go true h = omega arith
    go false h = omega arith

-- those that pass and those that do not are all
pub those_split : (p : ℕ → Bool) (l : List ℕ) → length (those p l) + length (those (λ k. not (p k)) l) ≡ length l
unfolding those also_if
those_split p [] = refl
those_split p (x ∷ l) = go (p x) (those_split p l)
  where
    go : (b : Bool) → length (those p l) + length (those (λ k. not (p k)) l) ≡ length l
        → length (also_if b x (those p l)) + length (also_if (not b) x (those (λ k. not (p k)) l)) ≡ length (x ∷ l)
    go true h = omega arith
    go false h = omega arith

pub members_short : (x : ℕ) → length (members x) ≤ 16
unfolding members those_below
members_short x = omega (arith, those_short (bit x) (row 16 (λ i. i)), length_row 16 (λ (i : ℕ). i))

-- what is in the list is what the set holds
pub in_members : (x k : ℕ) → k < 16 → is_in k (members x) ≡ bit x k
unfolding members
in_members x k b = go (bit x k) refl
  where
    go : (d : Bool) → bit x k ≡ d → is_in k (those_below 16 (bit x)) ≡ d
    go true e = below_all 16 (bit x) k b e
    go false e = off_when _ (λ i. clash (below_pass 16 (bit x) k i).1 e)

pub held_in : (x k : ℕ) → x < 2 ^ 16 → bit x k ≡ true → is_in k (members x) ≡ true
held_in x k h e = in_members x k (held_below x k h e) ∙ e

pub in_held : (x k : ℕ) → is_in k (members x) ≡ true → (k < 16) × (bit x k ≡ true)
unfolding members
in_held x k i = below_pass 16 (bit x) k i

-- ---- a set without another, as the code `x & !y` says it
module _ (x y : ℕ) (small : y < 2 ^ 16) where
  pub bit_without : (k : ℕ) → k < 16 → bit (bit_and x (65535 - y)) k ≡ (bit x k && not (bit y k))
  bit_without k h = B.bit_and_lem x (65535 - y) k ∙ ap (λ (b : Bool). bit x k && b) (B.bit_not 16 y k small h)

  pub members_without : members (bit_and x (65535 - y)) ≡ those (λ k. not (bit y k)) (members x)
  unfolding members those_below
  members_without =
      below_same 16 (bit (bit_and x (65535 - y))) (λ k. bit x k && not (bit y k)) bit_without
      ∙ sym (those_those (λ k. not (bit y k)) (bit x) (row 16 (λ i. i)))
