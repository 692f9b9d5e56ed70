-- The set of the slots whose own set has a member, and how it narrows where a slot's own set has become empty.
use Rattle.std.proofs.Common.{◌≡◌, ℕ, zero, suc, ◌-◌, ◌^◌, ◌<◌, Bool, true, false, not, ◌&&◌, eqb, ltb, List, length, get_or, set, sym, refl, ap, ◌∙◌, arith, get_or-set_other, get_or-set_same, ltb-true, lt-ltb, eq-eqb, ne_eqb}
use native.Mathlib.Decide.{ℕ_discrete}
use lib.Pow.{pow-lt}
use lib.Bits.{bit_and}
use Rattle.graph.specs.Words.{bit, set_of}
use Rattle.graph.proofs.Facts.{clash}
use Rattle.graph.proofs.Bits.{bit_and_lem, bit_not, bit_zero}
use Rattle.graph.proofs.Sets.{bit_set}
use Rattle.machine.proofs.Gathering.{bit_power}

-- ---- one member less, as the code says it
pub without_one : (x s k : ℕ) → s < 64 → k < 64 → bit (bit_and x (18446744073709551615 - 2 ^ s)) k ≡ (bit x k && not (eqb k s))
without_one x s k h l =
    bit_and_lem x (18446744073709551615 - 2 ^ s) k
    ∙ ap (λ (b : Bool). bit x k && b) (bit_not 64 (2 ^ s) k (pow-lt h) l ∙ ap not (bit_power s k))

-- a slot goes only where its own set has become empty
module _ (among s own k : ℕ) where
  pub narrow_none : (own ≡ 0 → ⊥) → bit among k ≡ (bit among k && not (eqb k s && eqb own 0))
  narrow_none d = sym (ap (λ (c : Bool). bit among k && not (eqb k s && c)) (ne_eqb own 0 d) ∙ go (bit among k) (eqb k s))
    where
      go : (a b : Bool) → (a && not (b && false)) ≡ a
      go true true = refl
      go true false = refl
      go false b = refl

  pub narrow_one : (x : ℕ) → s < 64 → k < 64 → own ≡ 0 → x ≡ 2 ^ s → bit (bit_and among (18446744073709551615 - x)) k ≡ (bit among k && not (eqb k s && eqb own 0))
  narrow_one x h l z e =
      ap (λ (y : ℕ). bit (bit_and among (18446744073709551615 - y)) k) e
      ∙ without_one among s k h l
      ∙ sym (ap (λ (c : Bool). bit among k && not (eqb k s && c)) (eq-eqb own 0 z) ∙ go (bit among k) (eqb k s))
    where
      go : (a b : Bool) → (a && not (b && true)) ≡ (a && not b)
      go a true = refl
      go a false = refl

-- ---- JUST THE SLOTS WHOSE SET HAS A MEMBER are in `among`
abbrev pub HasSome : List ℕ → ℕ → Type 0
HasSome sets among = (s : ℕ) → s < 64 → bit among s ≡ ltb 0 (get_or sets s 0)

pub some_all : (live : ℕ) (sets : List ℕ) (among : ℕ) → ((s : ℕ) → s < 64 → bit live s ≡ false → get_or sets s 0 ≡ 0)
    → among ≡ set_of 64 (λ s. bit live s && ltb 0 (get_or sets s 0)) → HasSome sets among
some_all live sets among h e s b =
    ap (λ (n : ℕ). bit n s) e ∙ bit_set 64 (λ s. bit live s && ltb 0 (get_or sets s 0)) s b ∙ go (bit live s) refl
  where
    go : (c : Bool) → bit live s ≡ c → (c && ltb 0 (get_or sets s 0)) ≡ ltb 0 (get_or sets s 0)
    go true q = refl
    go false q = sym (ap (ltb 0) (h s b q))

-- such a slot's set has a member
pub some_here : (sets : List ℕ) (among : ℕ) → HasSome sets among → (s : ℕ) → s < 64 → bit among s ≡ true → 0 < get_or sets s 0
some_here sets among h s b e = ltb-true 0 (get_or sets s 0) (sym (h s b) ∙ e)

-- none is left
pub none_left : (sets : List ℕ) (among : ℕ) → HasSome sets among → among ≡ 0 → (s : ℕ) → s < 64 → get_or sets s 0 ≡ 0
none_left sets among h z s b = go (get_or sets s 0) (sym (h s b) ∙ ap (λ (n : ℕ). bit n s) z ∙ bit_zero s)
  where
    go : (n : ℕ) → ltb 0 n ≡ false → n ≡ 0
    go zero e = refl
    go (suc n) e = absurd (clash (lt-ltb 0 (suc n) (omega arith)) e)

module _ (sets : List ℕ) (among next s rest : ℕ) (h : HasSome sets among) (here : bit among s ≡ true) (room : s < length sets)
    (less : (k : ℕ) → k < 64 → bit next k ≡ (bit among k && not (eqb k s && eqb rest 0))) where
  any : (n : ℕ) → not (eqb n 0) ≡ ltb 0 n
  any zero = refl
  any (suc n) = ap not (ne_eqb (suc n) 0 (λ z. omega arith)) ∙ sym (lt-ltb 0 (suc n) (omega arith))

  -- the set of slot s is another
  pub some_set : HasSome (set sets s rest) next
  some_set k b = less k b ∙ elim (ℕ_discrete k s) [
    | yes q ↦
        ap (λ (c : Bool). bit among k && not (c && eqb rest 0)) (eq-eqb k s q)
        ∙ ap (λ (c : Bool). c && not (eqb rest 0)) (ap (bit among) q ∙ here)
        ∙ any rest
        ∙ sym (ap (λ (j : ℕ). ltb 0 (get_or (set sets s rest) j 0)) q ∙ ap (ltb 0) (get_or-set_same sets s rest 0 room))
    | no q ↦
        ap (λ (c : Bool). bit among k && not (c && eqb rest 0)) (ne_eqb k s q)
        ∙ same (bit among k)
        ∙ h k b
        ∙ sym (ap (ltb 0) (get_or-set_other sets s k rest 0 q))
  ]
    where
      same : (c : Bool) → (c && true) ≡ c
      same true = refl
      same false = refl
