-- The set of the numbers below n that pass a test, as a number of n bits.
use mathlib.Core.Path.{◌≡◌, refl, sym, ap, ◌∙◌}
use mathlib.Core.Bool.{Bool, true, false, ◌&&◌, ◌||◌, not}
use Prim.Native.Nat.{ℕ, zero, suc, ◌+◌, ◌*◌, ◌-◌, ◌/◌, ◌%◌, ◌^◌, ◌≤◌, ◌<◌, min}
use native.Mathlib.Omega.{arith}
use native.Mathlib.Nat.{pow-suc, add-zero}
use native.Mathlib.Numerals.{add-one}
use native.Mathlib.Decide.{ℕ_discrete, dec_lt}
use lib.Pow.{pow_mono}
use lib.Dec.{ltb, eqb}
use lib.Bits.{bit_or}
use borrow.Author.Tests.{lt-ltb, le-ltb, eq-eqb, ne_eqb}
use Rattle.graph.specs.Words.{pick, bit, sum, set_of}
use Rattle.graph.proofs.Facts.{sum_first}
use Rattle.graph.proofs.Bits.{bit_or_lem, bit_zero, bit_past, bit_low, bit_up, bit_one, bit_not, bit_ext, one_shl}

set_next : (p : ℕ → Bool) (i : ℕ) → set_of (i + 1) p ≡ set_of i p + pick (p i) (2 ^ i) 0
unfolding set_of sum
set_next p i = ap (λ (k : ℕ). set_of k p) (add-one i)

pub set_small : (p : ℕ → Bool) (i : ℕ) → set_of i p < 2 ^ i
unfolding set_of sum
set_small p zero = omega arith
set_small p (suc i) = go (p i) (set_small p i)
  where
    go : (b : Bool) → sum i (λ k. pick (p k) (2 ^ k) 0) < 2 ^ i → sum i (λ k. pick (p k) (2 ^ k) 0) + pick b (2 ^ i) 0 < 2 ^ suc i
    go true h = let e = pow-suc 2 i in omega arith
    go false h = let e = pow-suc 2 i in omega arith

module _ (p : ℕ → Bool) (i : ℕ) where
  pub set_with : p i ≡ true → set_of (i + 1) p ≡ set_of i p + 2 ^ i
  set_with e = set_next p i ∙ ap (λ (b : Bool). set_of i p + pick b (2 ^ i) 0) e

  pub set_without : p i ≡ false → set_of (i + 1) p ≡ set_of i p
  set_without e = set_next p i ∙ ap (λ (b : Bool). set_of i p + pick b (2 ^ i) 0) e ∙ add-zero (set_of i p)

  -- it fits sixteen bits
  pub set_room : i < 16 → set_of i p + 2 ^ i < 65536
  set_room b = let s = set_small p i in let h : i ≤ 15 = omega arith in let m : 2 ^ i ≤ 2 ^ 15 = pow_mono h in omega arith

-- the first apart: it is bit 0, and the others are one bit up
twice : (n : ℕ) (p : ℕ → Bool) → sum n (λ i. pick (p (suc i)) (2 ^ suc i) 0) ≡ set_of n (λ i. p (suc i)) * 2
unfolding set_of sum
twice zero p = refl
twice (suc n) p = go (p (suc n)) (twice n p)
  where
    go : (b : Bool) → sum n (λ i. pick (p (suc i)) (2 ^ suc i) 0) ≡ set_of n (λ i. p (suc i)) * 2
        → sum n (λ i. pick (p (suc i)) (2 ^ suc i) 0) + pick b (2 ^ suc n) 0 ≡ (set_of n (λ i. p (suc i)) + pick b (2 ^ n) 0) * 2
    go true h = let e = pow-suc 2 n in omega arith
    go false h = omega arith

set_first : (n : ℕ) (p : ℕ → Bool) → set_of (suc n) p ≡ pick (p 0) 1 0 + set_of n (λ i. p (suc i)) * 2
unfolding set_of
set_first n p = sum_first n (λ i. pick (p i) (2 ^ i) 0) ∙ ap (λ (s : ℕ). pick (p 0) 1 0 + s) (twice n p)

-- BIT i OF IT IS i
pub bit_set : (n : ℕ) (p : ℕ → Bool) (i : ℕ) → i < n → bit (set_of n p) i ≡ p i
bit_set zero p i b = absurd (omega arith)
bit_set (suc n) p zero b = ap (λ (s : ℕ). bit s 0) (set_first n p) ∙ bit_low (pick (p 0) 1 0 + set_of n (λ i. p (suc i)) * 2) ∙ go (p 0)
  where
    go : (c : Bool) → eqb ((pick c 1 0 + set_of n (λ i. p (suc i)) * 2) % 2) 1 ≡ c
    go true = let z : (1 + set_of n (λ i. p (suc i)) * 2) % 2 ≡ 1 = omega arith in rw z refl
    go false = let z : (0 + set_of n (λ i. p (suc i)) * 2) % 2 ≡ 0 = omega arith in rw z refl
bit_set (suc n) p (suc i) b =
    ap (λ (s : ℕ). bit s (suc i)) (set_first n p) ∙ bit_up (pick (p 0) 1 0 + set_of n (λ i. p (suc i)) * 2) i
    ∙ ap (λ (s : ℕ). bit s i) (go (p 0)) ∙ bit_set n (λ i. p (suc i)) i (omega arith)
  where
    go : (c : Bool) → (pick c 1 0 + set_of n (λ i. p (suc i)) * 2) / 2 ≡ set_of n (λ i. p (suc i))
    go true = omega arith
    go false = omega arith

-- a number with these bits is it
pub set_is : (n r : ℕ) (p : ℕ → Bool) → r < 2 ^ n → ((u : ℕ) → u < n → bit r u ≡ p u) → r ≡ set_of n p
set_is n r p b h = bit_ext n r (set_of n p) b (set_small p n) (λ u c. h u c ∙ sym (bit_set n p u c))

-- ---- the first n numbers, as the code `(1 << n) - 1` says them
pub bit_first : (n k : ℕ) → bit (2 ^ n - 1) k ≡ ltb k n
bit_first n k =
    let p : 2 ^ 0 ≤ 2 ^ n = pow_mono {i = 0} (omega arith) in
    let e : 2 ^ n - 1 ≡ 2 ^ n - 1 - 0 = omega arith in
    elim (dec_lt k n) [
      | yes l ↦ ap (λ (x : ℕ). bit x k) e ∙ bit_not n 0 k (omega arith) l ∙ ap not (bit_zero k) ∙ sym (lt-ltb k n l)
      | no l ↦ bit_past (2 ^ n - 1) n k (omega arith) (omega arith) ∙ sym (le-ltb k n (omega arith))
    ]

pub all_sixteen : (v k : ℕ) → 16 ≤ v → bit 65535 k ≡ ltb k (min v 16)
all_sixteen v k h = let z : min v 16 ≡ 16 = omega arith in bit_first 16 k ∙ ap (ltb k) (sym z)

pub only_first : (v k : ℕ) → v < 16 → bit (1 * 2 ^ v % 65536 - 1) k ≡ ltb k (min v 16)
only_first v k h =
    let z : min v 16 ≡ v = omega arith in
    let e : 1 * 2 ^ v % 65536 ≡ 2 ^ v = one_shl v h ∙ (let y : 1 * 2 ^ v ≡ 2 ^ v = omega arith in y) in
    ap (λ (n : ℕ). bit (n - 1) k) e ∙ bit_first v k ∙ ap (ltb k) (sym z)

pub one_least : (v : ℕ) → v < 16 → 1 ≤ 1 * 2 ^ v % 65536
one_least v h = let p : 2 ^ 0 ≤ 2 ^ v = pow_mono {i = 0} (omega arith) in let e = one_shl v h in omega arith

-- ---- a set that is built number by number
-- one member more, as the code `x | (1 << j)` says it
pub one_more_lem : (x j k : ℕ) → j < 16 → bit (bit_or x (1 * 2 ^ j % 65536)) k ≡ (bit x k || eqb k j)
one_more_lem x j k h =
    bit_or_lem x (1 * 2 ^ j % 65536) k ∙ ap (λ (b : Bool). bit x k || b) (ap (λ (n : ℕ). bit n k) (one_shl j h) ∙ bit_one j k)

-- those below u + 1 are those below u, and u
pub one_below : (p : ℕ → Bool) (u k : ℕ) → ((ltb k u && p k) || (eqb k u && p u)) ≡ (ltb k (u + 1) && p k)
one_below p u k = elim (ℕ_discrete k u) [
  | yes e ↦ rw (e, eq-eqb u u refl, le-ltb u u (omega arith), lt-ltb u (u + 1) (omega arith)) refl
  | no d ↦ other (ltb k u) refl (ne_eqb k u d) d
]
  where
    none : (b : Bool) → (b || false) ≡ b
    none true = refl
    none false = refl

    other : (c : Bool) → ltb k u ≡ c → eqb k u ≡ false → (k ≡ u → ⊥) → ((ltb k u && p k) || (eqb k u && p u)) ≡ (ltb k (u + 1) && p k)
    other c e f d = elim (dec_lt k u) [
      | yes l ↦ rw (f, lt-ltb k u l, lt-ltb k (u + 1) (omega arith)) (none (p k))
      | no l ↦ rw (f, le-ltb k u (omega arith), le-ltb k (u + 1) (omega arith)) refl
    ]
