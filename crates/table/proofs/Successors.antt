-- The successors to which edges were added, and that rows of sixteen bits are known by their edges.
use mathlib.Core.Path.{◌≡◌, refl, sym, ap, subst, ◌∙◌}
use mathlib.Core.Logic.{◌⊎◌, inl, inr, ⊎_elim}
use mathlib.Core.Bool.{true}
use mathlib.Core.List.{List, [], ◌∷◌}
use Prim.Native.Nat.{ℕ, zero, suc, ◌+◌, ◌/◌, ◌%◌, ◌^◌, ◌≤◌, ◌<◌}
use native.Mathlib.Omega.{arith}
use native.Mathlib.Nat.{div-one, div-eq_of_lt}
use native.Mathlib.Decide.{ℕ_discrete, dec_lt}
use lib.ListN.{length, get_or, length-set}
use lib.Seq.{ext_get_or, get_or-set_same, get_or-set_other}
use lib.Bits.{bit_or, or_lt}
use lib.Pow.{pow-lt, pow_mono, pow_pos, shr-shr}
use borrow.Author.Tests.{eqb-true, eq-eqb}
use Rattle.graph.specs.Words.{bit, is_in}
use Rattle.graph.specs.Graph.{edge}
use Rattle.graph.proofs.Facts.{clash, first_in, other_in, tail_in, past_end}
use Rattle.table.specs.Memory.{no_succ}
use Rattle.table.specs.Reading.{add_edge}
use Rattle.table.proofs.Bits.{digit, bit_zero, edge_added, zeros_at, edge_new, edge_old}
use Rattle.table.proofs.Ascending.{empty}

unfoldable pub add_all : List ℕ → List ℕ → List ℕ
add_all l [] = l
add_all l (k ∷ ks) = add_all (add_edge l k) ks

-- sixteen numbers of sixteen bits
pub record Rows (l : List ℕ) : Type 0 where
  pub many : length l ≡ 16
  pub small : (f : ℕ) → get_or l f 0 < 2 ^ 16

pub add_rows : (l : List ℕ) (k : ℕ) → k < 256 → Rows l → Rows (add_edge l k)
unfolding add_edge
add_rows l k h g = record {
  many = length-set l (k / 16) _ ∙ g.many;
  small = λ f.
      let n = g.many in
      elim (ℕ_discrete f (k / 16)) [
        | yes q ↦ rw (q, get_or-set_same l (k / 16) (bit_or (get_or l (k / 16) 0) (2 ^ (k % 16))) 0 (omega arith))
            (or_lt 16 (get_or l (k / 16) 0) (2 ^ (k % 16)) (g.small (k / 16)) (pow-lt {j = 16} (omega arith)))
        | no q ↦ rw (get_or-set_other l (k / 16) f (bit_or (get_or l (k / 16) 0) (2 ^ (k % 16))) 0 q) (g.small f)
      ];
}

pub record Added (l ks : List ℕ) : Type 0 where
  pub rows : Rows (add_all l ks)
  pub edges : (x : ℕ) → edge (add_all l ks) (x / 16) (x % 16) ≡ true → (edge l (x / 16) (x % 16) ≡ true) ⊎ (is_in x ks ≡ true)
  pub kept : (u w : ℕ) → edge l u w ≡ true → edge (add_all l ks) u w ≡ true
  pub there : (x : ℕ) → is_in x ks ≡ true → edge (add_all l ks) (x / 16) (x % 16) ≡ true

pub added : (l ks : List ℕ) → Rows l → ((k : ℕ) → is_in k ks ≡ true → k < 256) → Added l ks
unfolding add_all
added l [] g h = record { rows = g; edges = λ x e. inl e; kept = λ u w e. e; there = λ x e. absurd (clash e (empty x)) }
added l (k ∷ ks) g h =
    let n = g.many in
    let b = h k (first_in k ks) in
    let in16 : k / 16 < length l = omega arith in
    let i = added (add_edge l k) ks (add_rows l k b g) (λ x e. h x (tail_in x k ks e)) in
    record {
      rows = i.rows;
      edges = λ x e. ⊎_elim
          (λ z. ⊎_elim (λ o. inl o) (λ o. inr (ap (λ (c : ℕ). is_in c (k ∷ ks)) (key_is x k o.0 o.1) ∙ first_in k ks)) (edge_added l k (x / 16) (x % 16) in16 z))
          (λ z. inr (tail_in x k ks z)) (i.edges x e);
      kept = λ x y z. i.kept x y (edge_old l k x y in16 z);
      there = λ x y. elim (ℕ_discrete x k) [
        | yes q ↦ rw q (i.kept (k / 16) (k % 16) (edge_new l k in16))
        | no q ↦ i.there x (sym (other_in x k ks q) ∙ y)
      ];
    }
  where
    key_is : (x k : ℕ) → x / 16 ≡ k / 16 → x % 16 ≡ k % 16 → x ≡ k
    key_is x k a b = omega arith

-- a number is known by its bits
digit_suc : (a j : ℕ) → digit a (suc j) ≡ digit (a / 2) j
unfolding digit
digit_suc a j = let e : suc j ≡ 1 + j = omega arith in ap (λ (k : ℕ). a / 2 ^ k % 2) e ∙ ap (λ (n : ℕ). n % 2) (sym (shr-shr a 1 j))

digit_zero : (a : ℕ) → digit a 0 ≡ a % 2
unfolding digit
digit_zero a = ap (λ (n : ℕ). n % 2) (div-one a)

pub by_digits : (n a b : ℕ) → a < 2 ^ n → b < 2 ^ n → ((j : ℕ) → j < n → digit a j ≡ digit b j) → a ≡ b
by_digits zero a b ha hb h = omega arith
by_digits (suc n) a b ha hb h =
    let i = by_digits n (a / 2) (b / 2) (omega arith) (omega arith) (λ j l. sym (digit_suc a j) ∙ h (suc j) (omega arith) ∙ digit_suc b j) in
    let z = sym (digit_zero a) ∙ h 0 (omega arith) ∙ digit_zero b in
    omega arith

pub digit_by : (a b j : ℕ) → (bit a j ≡ true → bit b j ≡ true) → (bit b j ≡ true → bit a j ≡ true) → digit a j ≡ digit b j
unfolding bit digit
digit_by a b j f g = go (ℕ_discrete (digit a j) 1) (ℕ_discrete (digit b j) 1)
  where
    go : Dec (digit a j ≡ 1) → Dec (digit b j ≡ 1) → digit a j ≡ digit b j
    go (yes x) d = x ∙ sym (eqb-true (digit b j) 1 (f (eq-eqb (digit a j) 1 x)))
    go (no x) (yes y) = eqb-true (digit a j) 1 (g (eq-eqb (digit b j) 1 y)) ∙ sym y
    go (no x) (no y) = omega arith

-- a number below 2 ^ n has no bit from n on
bit_under : (n x j : ℕ) → x < 2 ^ n → bit x j ≡ true → j < n
unfolding bit
bit_under n x j h e = elim (dec_lt j n) [
  | yes l ↦ l
  | no l ↦
      let p : 2 ^ n ≤ 2 ^ j = pow_mono (omega arith) in
      let z : x / 2 ^ j ≡ 0 = div-eq_of_lt (omega arith) in
      let q = eqb-true (x / 2 ^ j % 2) 1 e in
      absurd (omega arith)
]

-- both ends of an edge are below sixteen
pub edge_under : (l : List ℕ) → Rows l → (u w : ℕ) → edge l u w ≡ true → (u < 16) × (w < 16)
unfolding edge
edge_under l g u w e = (under (dec_lt u 16), bit_under 16 (get_or l u 0) w (g.small u) e)
  where
    under : Dec (u < 16) → u < 16
    under (yes h) = h
    under (no h) = let n = g.many in absurd (bit_zero w (subst (λ (x : ℕ). bit x w ≡ true) (past_end l u 0 (omega arith)) e))

pub same_rows : (a b : List ℕ) → Rows a → Rows b → ((u w : ℕ) → u < 16 → w < 16 → edge a u w ≡ true → edge b u w ≡ true)
    → ((u w : ℕ) → u < 16 → w < 16 → edge b u w ≡ true → edge a u w ≡ true) → a ≡ b
unfolding edge
same_rows a b ga gb f g = ext_get_or 0 a b (ga.many ∙ sym gb.many) (λ u l.
    let n = ga.many in
    by_digits 16 (get_or a u 0) (get_or b u 0) (ga.small u) (gb.small u) (λ w h. digit_by (get_or a u 0) (get_or b u 0) w (f u w (omega arith) h) (g u w (omega arith) h)))

pub no_rows : Rows no_succ
unfolding no_succ
no_rows = record { many = refl; small = λ f. rw (zeros_at 16 f) (pow_pos 16) }
