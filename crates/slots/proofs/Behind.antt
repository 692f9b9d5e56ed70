-- A test of each number below n, as a loop makes it; and the vertices of which something remains, as a set.
use mathlib.Core.Path.{◌≡◌, refl, sym, ap, ◌∙◌}
use mathlib.Core.Bool.{Bool, true, false, ◌&&◌, ◌||◌, not, or-true}
use mathlib.Core.List.{List}
use Prim.Native.Nat.{ℕ, ◌+◌, ◌*◌, ◌%◌, ◌^◌, ◌≤◌, ◌<◌}
use native.Mathlib.Omega.{arith}
use native.Mathlib.Nat.{mod-lt}
use native.Mathlib.Numerals.{add-one}
use lib.Dec.{ltb, eqb, lit<}
use lib.Bits.{bit_or, or_lt}
use borrow.Author.Tests.{lt-ltb, le-ltb, eq-eqb, ne_eqb}
use Rattle.graph.specs.Words.{bit, all, set_of}
use Rattle.graph.proofs.Facts.{clash, and_true, all_at, off_when}
use Rattle.graph.proofs.Bits.{bit_zero}
use Rattle.graph.proofs.Sets.{set_is, one_more_lem, one_below}
use Rattle.slots.specs.Slots.{at, something_left}
pub use Rattle.graph.proofs.Facts.{all_same}

-- ---- a test of each number below n
pub all_next : (n : ℕ) (p : ℕ → Bool) → all (n + 1) p ≡ (all n p && p n)
unfolding all
all_next n p = ap (λ (k : ℕ). all k p) (add-one n)

module _ (n : ℕ) (p : ℕ → Bool) where
  pub all_more : all n p ≡ true → p n ≡ true → all (n + 1) p ≡ true
  all_more h e = all_next n p ∙ and_true _ _ h e

  -- it fails of one, so it does not hold of each
  pub all_off : (j : ℕ) → j < n → p j ≡ false → false ≡ all n p
  all_off j b e = sym (off_when (all n p) (λ h. clash (all_at n p h j b) e))

  -- the loop is through
  pub all_done_lem : (k : ℕ) → k ≡ n → all k p ≡ true → true ≡ all n p
  all_done_lem k e h = sym (sym (ap (λ (j : ℕ). all j p) e) ∙ h)

-- ---- the set of the vertices of which something remains, gathered vertex by vertex
module _ (rest : List ℕ) (s : ℕ) where
  -- of the first u
  pub record Gathered (u set : ℕ) : Type 0 where
    pub below : u ≤ 16
    pub small : set < 2 ^ 16
    pub own : (k : ℕ) → bit set k ≡ (ltb k u && not (eqb (at rest s k) 0))

  pub gathered_none : Gathered 0 0
  gathered_none = record {
    below = omega arith;
    small = omega arith;
    own = λ k. bit_zero k ∙ sym (ap (λ (b : Bool). b && not (eqb (at rest s k) 0)) (le-ltb k 0 (omega arith)));
  }

  module _ (u set : ℕ) (h : u < 16) (g : Gathered u set) where
    next : (b : Bool) → eqb (at rest s u) 0 ≡ b → (k : ℕ) → (bit set k || (eqb k u && not b)) ≡ (ltb k (u + 1) && not (eqb (at rest s k) 0))
    next b e k =
        ap (λ (x : Bool). bit set k || (eqb k u && not x)) (sym e)
        ∙ ap (λ (x : Bool). x || (eqb k u && not (eqb (at rest s u) 0))) (g.own k)
        ∙ one_below (λ x. not (eqb (at rest s x) 0)) u k

    pub gathered_more : (at rest s u ≡ 0 → ⊥) → Gathered (u + 1) (bit_or set (1 * 2 ^ u % 65536))
    gathered_more d = record {
      below = omega arith;
      small = or_lt 16 set (1 * 2 ^ u % 65536) g.small (mod-lt (1 * 2 ^ u) {m = 65536} (lit< tt));
      own = λ k. one_more_lem set u k h ∙ ap (λ (x : Bool). bit set k || x) (with (eqb k u)) ∙ next false (ne_eqb (at rest s u) 0 d) k;
    }
      where
        with : (a : Bool) → a ≡ (a && not false)
        with true = refl
        with false = refl

    pub gathered_same : at rest s u ≡ 0 → Gathered (u + 1) set
    gathered_same z = record {
      below = omega arith;
      small = g.small;
      own = λ k. without (bit set k) (eqb k u) ∙ next true (eq-eqb (at rest s u) 0 z) k;
    }
      where
        without : (a b : Bool) → a ≡ (a || (b && not true))
        without true b = refl
        without false true = refl
        without false false = refl

  pub gathered_all : (u set : ℕ) → s < 64 → u ≡ 16 → Gathered u set → set ≡ set_of 16 (something_left rest s)
  unfolding something_left
  gathered_all u set h e g =
      set_is 16 set (λ k. ltb s 64 && not (eqb (at rest s k) 0)) g.small
      (λ k b. g.own k ∙ ap (λ (c : Bool). c && not (eqb (at rest s k) 0)) (lt-ltb k u (omega arith) ∙ sym (lt-ltb s 64 h)))

  -- past the sixty-four slots there is nothing
  pub gathered_past : 64 ≤ s → 0 ≡ set_of 16 (something_left rest s)
  unfolding something_left
  gathered_past h =
      set_is 16 0 (λ k. ltb s 64 && not (eqb (at rest s k) 0)) (omega arith)
      (λ k b. bit_zero k ∙ sym (ap (λ (c : Bool). c && not (eqb (at rest s k) 0)) (le-ltb s 64 h)))

  -- of one of the sixty-four
  pub left_in_lem : s < 64 → (set : ℕ) → set ≡ set_of 16 (something_left rest s) → set ≡ set_of 16 (λ k. not (eqb (at rest s k) 0))
  unfolding something_left
  left_in_lem h set e = e ∙ ap (λ (c : Bool). set_of 16 (λ k. c && not (eqb (at rest s k) 0))) (lt-ltb s 64 h)

-- ---- the vertices of a set that have their whole cost remaining
module _ (set u left cost : ℕ) where
  pub in_short : bit set u ≡ true → (left ≡ cost → ⊥) → not (bit set u) || eqb left cost ≡ false
  in_short b h = rw (b, ne_eqb left cost h) refl

  pub in_whole : left ≡ cost → not (bit set u) || eqb left cost ≡ true
  in_whole h = rw (eq-eqb left cost h) (or-true (not (bit set u)))

  pub not_in : bit set u ≡ false → not (bit set u) || eqb left cost ≡ true
  not_in b = rw b refl
