-- Sets of slots: one that a loop over the members of another gathers, from the lowest member up, where a test passes; and the set of the tasks that have
-- a slot in a set, the bits of its four parts of sixteen or-ed together. `rest` are the members still to come.
use Rattle.std.proofs.Common.{◌≡◌, ℕ, ◌+◌, ◌-◌, ◌*◌, ◌/◌, ◌%◌, ◌^◌, ◌<◌, Bool, true, false, not, ◌&&◌, ◌||◌, eqb, sym, refl, ap, ◌∙◌, ap₂, one-mul, arith, shr-shr, eq-eqb, ne_eqb, lt-ltb}
use native.Mathlib.Decide.{ℕ_discrete}
use lib.Pow.{pow-lt, field, mod-mod-pow}
use lib.Bits.{bit_and, bit_or, or_lt}
use lib.Count.{count_trailing_zeros}
use Rattle.graph.specs.Words.{bit, all, set_of}
use Rattle.graph.proofs.Facts.{all_same}
use Rattle.graph.proofs.Bits.{bit_or_lem, bit_zero, bit_one}
use Rattle.graph.proofs.Sets.{set_is, bit_set, bit_first}
use Rattle.machine.specs.Steps.{any_place}
use Rattle.machine.proofs.Filling.{set_ext}
use Rattle.machine.proofs.Sweeping.{first_small, first_in, falls, others_same, still_in}

pub place_ext : (f g : ℕ → Bool) → ((p : ℕ) → p < 4 → f p ≡ g p) → any_place f ≡ any_place g
unfolding any_place
place_ext f g h = ap not (all_same 4 _ _ (λ p b. ap not (h p b)))

-- ---- the members that pass a test
pub record Gathered (test : ℕ → Bool) (from rest now : ℕ) : Type 0 where
  pub narrow : rest < 2 ^ 64
  pub size : now < 2 ^ 64
  pub part : (k : ℕ) → bit rest k ≡ true → bit from k ≡ true
  pub done : (k : ℕ) → bit rest k ≡ false → bit now k ≡ (bit from k && test k)
  pub none_yet : (k : ℕ) → bit rest k ≡ true → bit now k ≡ false

-- with one member more
pub bit_power : (s k : ℕ) → bit (2 ^ s) k ≡ eqb k s
bit_power s k = ap (λ (n : ℕ). bit n k) (sym (one-mul (2 ^ s))) ∙ bit_one s k

pub with_one : (x s : ℕ) → bit (bit_or x (2 ^ s)) s ≡ true
with_one x s = bit_or_lem x (2 ^ s) s ∙ ap (λ (b : Bool). bit x s || b) (bit_power s s ∙ eq-eqb s s refl) ∙ go (bit x s)
  where
    go : (b : Bool) → (b || true) ≡ true
    go true = refl
    go false = refl

pub others_as_before : (x s k : ℕ) → (k ≡ s → ⊥) → bit (bit_or x (2 ^ s)) k ≡ bit x k
others_as_before x s k d = bit_or_lem x (2 ^ s) k ∙ ap (λ (b : Bool). bit x k || b) (bit_power s k ∙ ne_eqb k s d) ∙ go (bit x k)
  where
    go : (b : Bool) → (b || false) ≡ b
    go true = refl
    go false = refl

and_off : (b c : Bool) → c ≡ false → (b && c) ≡ false
and_off true c e = e
and_off false c e = refl

module _ (test : ℕ → Bool) (from : ℕ) where
  pub gathered_none : from < 2 ^ 64 → Gathered test from from 0
  gathered_none h = record {
    narrow = h;
    size = omega arith;
    part = λ k i. i;
    done = λ k o. bit_zero k ∙ sym (ap (λ (b : Bool). b && test k) o);
    none_yet = λ k i. bit_zero k;
  }

  module _ (rest now : ℕ) (r : Gathered test from rest now) (p : 0 < rest) (s : ℕ) (e : s ≡ count_trailing_zeros 64 rest) where
    abbrev after : ℕ
    after = bit_and rest (rest - 1)

    here : bit rest s ≡ true
    here = ap (bit rest) e ∙ first_in rest p r.narrow

    small : s < 64
    small = omega (arith, first_small rest p r.narrow)

    other : (k : ℕ) → (k ≡ s → ⊥) → bit after k ≡ bit rest k
    other k d = others_same rest p r.narrow k (λ q. d (q ∙ sym e))

    later : (k : ℕ) → bit after k ≡ true → (bit rest k ≡ true) × (k ≡ s → ⊥)
    later k i = let q = still_in rest p r.narrow k i in (q.0, λ z. q.1 (z ∙ e))

    pub gathered_one : test s ≡ true → Gathered test from after (bit_or now (2 ^ s))
    gathered_one t = record {
      narrow = omega (arith, falls rest p r.narrow, r.narrow);
      size = or_lt 64 now (2 ^ s) r.size (pow-lt small);
      part = λ k i. r.part k (later k i).0;
      done = λ k o. elim (ℕ_discrete k s) [
        | yes q ↦
            ap (bit (bit_or now (2 ^ s))) q ∙ with_one now s
            ∙ sym (ap (λ (j : ℕ). bit from j && test j) q ∙ ap (λ (b : Bool). b && test s) (r.part s here) ∙ t)
        | no q ↦ others_as_before now s k q ∙ r.done k (sym (other k q) ∙ o)
      ];
      none_yet = λ k i. let q = later k i in others_as_before now s k q.1 ∙ r.none_yet k q.0;
    }

    pub gathered_skip : test s ≡ false → Gathered test from after now
    gathered_skip t = record {
      narrow = omega (arith, falls rest p r.narrow, r.narrow);
      size = r.size;
      part = λ k i. r.part k (later k i).0;
      done = λ k o. elim (ℕ_discrete k s) [
        | yes q ↦ ap (bit now) q ∙ r.none_yet s here ∙ sym (ap (λ (j : ℕ). bit from j && test j) q ∙ and_off (bit from s) (test s) t)
        | no q ↦ r.done k (sym (other k q) ∙ o)
      ];
      none_yet = λ k i. r.none_yet k (later k i).0;
    }

  pub gathered_all : (rest now : ℕ) → Gathered test from rest now → rest ≡ 0 → now ≡ set_of 64 (λ k. bit from k && test k)
  gathered_all rest now r z = set_is 64 now _ r.size (λ k b. r.done k (ap (λ (n : ℕ). bit n k) z ∙ bit_zero k))

-- ---- the tasks of a set of slots
-- the bits above the first k, and the lowest sixteen
pub bit_shr : (x k j : ℕ) → bit (x / 2 ^ k) j ≡ bit x (k + j)
unfolding bit
bit_shr x k j = ap (λ (n : ℕ). eqb (n % 2) 1) (shr-shr x k j)

bit_mod : (x j : ℕ) → j < 16 → bit (x % 2 ^ 16) j ≡ bit x j
unfolding bit
bit_mod x j b =
    let e : 15 - j + 1 + j ≡ 16 = omega arith in
    ap (λ (n : ℕ). eqb (n % 2) 1)
    (ap (λ (n : ℕ). x % 2 ^ n / 2 ^ j) (sym e) ∙ field x (15 - j + 1) j)
    ∙ ap (λ (n : ℕ). eqb n 1) (mod-mod-pow (x / 2 ^ j) (15 - j) 1)

abbrev low_half : ℕ → ℕ
low_half set = bit_or set (set / 2 ^ 16)

abbrev parts : ℕ → ℕ
parts set = bit_or (low_half set) (low_half set / 2 ^ 32)

bit_low_half : (set j : ℕ) → bit (low_half set) j ≡ (bit set j || bit set (16 + j))
bit_low_half set j = bit_or_lem set (set / 2 ^ 16) j ∙ ap (λ (b : Bool). bit set j || b) (bit_shr set 16 j)

bit_parts : (set i : ℕ) → bit (parts set) i ≡ ((bit set i || bit set (16 + i)) || (bit set (32 + i) || bit set (16 + (32 + i))))
bit_parts set i =
    bit_or_lem (low_half set) (low_half set / 2 ^ 32) i
    ∙ ap₂ (λ (a b : Bool). a || b) (bit_low_half set i) (bit_shr (low_half set) 32 i ∙ bit_low_half set (32 + i))

any_of : (a b c d : Bool) → ((a || b) || (c || d)) ≡ not (true && not a && not b && not c && not d)
any_of true b c d = refl
any_of false true c d = refl
any_of false false true d = refl
any_of false false false true = refl
any_of false false false false = refl

any_four : (f : ℕ → Bool) → ((f 0 || f 1) || (f 2 || f 3)) ≡ any_place f
unfolding any_place all
any_four f = any_of (f 0) (f 1) (f 2) (f 3)

places_of : (f : ℕ → Bool) (i : ℕ) → ((f i || f (16 + i)) || (f (32 + i) || f (16 + (32 + i)))) ≡ any_place (λ p. f (16 * p + i))
places_of f i =
    let a : i ≡ 16 * 0 + i = omega arith in
    let b : 16 + i ≡ 16 * 1 + i = omega arith in
    let c : 32 + i ≡ 16 * 2 + i = omega arith in
    let d : 16 + (32 + i) ≡ 16 * 3 + i = omega arith in
    ap₂ (λ (x y : Bool). x || y) (ap₂ (λ (x y : Bool). x || y) (ap f a) (ap f b)) (ap₂ (λ (x y : Bool). x || y) (ap f c) (ap f d))
    ∙ any_four (λ p. f (16 * p + i))

pub tasks_of : (set : ℕ) → parts set % 65536 ≡ set_of 16 (λ i. any_place (λ p. bit set (16 * p + i)))
tasks_of set = set_is 16 (parts set % 65536) _ (omega arith) (λ i b. bit_mod (parts set) i b ∙ bit_parts set i ∙ places_of (bit set) i)

pub tasks_with : (set tasks : ℕ) (test : ℕ → Bool) → set ≡ set_of 64 test → tasks ≡ set_of 16 (λ i. any_place (λ p. bit set (16 * p + i)))
    → (i : ℕ) → i < 16 → bit tasks i ≡ any_place (λ p. test (16 * p + i))
tasks_with set tasks test e f i b =
    ap (λ (n : ℕ). bit n i) f ∙ bit_set 16 _ i b
    ∙ place_ext _ _ (λ p c. ap (λ (n : ℕ). bit n (16 * p + i)) e ∙ bit_set 64 test (16 * p + i) (omega arith))

-- ---- where every slot is asked
pub of_all : (p : ℕ → Bool) (set : ℕ) → set ≡ set_of 64 (λ s. bit 18446744073709551615 s && p s) → set ≡ set_of 64 p
of_all p set e = e ∙ set_ext 64 _ p (λ k b. ap (λ (c : Bool). c && p k) (bit_first 64 k ∙ lt-ltb k 64 b))
