-- The sums from each vertex, reckoned backwards: one is right when all that it leads to are.
use mathlib.Core.Path.{◌≡◌, refl, sym, ap, ◌∙◌}
use mathlib.Core.Logic.{⊎_elim}
use mathlib.Core.Bool.{Bool, true, false}
use mathlib.Core.List.{List}
use Prim.Native.Nat.{ℕ, ◌+◌, ◌^◌, ◌≤◌, ◌<◌}
use native.Mathlib.Omega.{arith}
use lib.ListN.{length, get_or, set, length-set, replicate}
use lib.Seq.{get_or-set_same, get_or-set_other, ext_get_or}
use Rattle.graph.specs.Words.{pick, bit, largest}
use Rattle.graph.specs.Graph.{edge, acyclic, longest_from}
use Rattle.graph.proofs.Facts.{clash}
use Rattle.graph.proofs.Bits.{bit_zero}
use Rattle.graph.proofs.Narrow.{largest_same}
use Rattle.chains.proofs.Sixteen.{from_many, full, without, without_new, without_less}
use Rattle.chains.proofs.Chains.{sums_right}
use Rattle.chains.proofs.Tails.{sums_small}

-- what holds while the vertices of `left` are not reckoned yet
pub record Reckoned (succ times : List ℕ) (left : ℕ) (sums : List ℕ) : Type 0 where
  pub bits : left < 2 ^ 16
  pub size : length sums ≡ 16
  pub right : (x : ℕ) → x < 16 → bit left x ≡ false → get_or sums x 0 ≡ get_or (longest_from 16 (edge succ) (λ u. get_or times u 0) 16) x 0

pub none_reckoned : (succ times : List ℕ) → Reckoned succ times 65535 (replicate 16 0)
none_reckoned succ times = record { bits = omega arith; size = refl; right = λ x b o. absurd (clash (full x b) o) }

module _ (succ times : List ℕ) (passes : acyclic succ ≡ true) where
  abbrev all : List ℕ
  all = longest_from 16 (edge succ) (λ u. get_or times u 0) 16

  pub all_reckoned : (left : ℕ) (sums : List ℕ) → Reckoned succ times left sums → left ≡ 0 → sums ≡ all
  all_reckoned left sums r z =
      ext_get_or 0 sums all (r.size ∙ sym (from_many 16 (edge succ) (λ u. get_or times u 0) 15))
      (λ i b. r.right i (omega (arith, r.size)) (ap (λ (n : ℕ). bit n i) z ∙ bit_zero i))

  module _ (left : ℕ) (sums : List ℕ) (r : Reckoned succ times left sums) (u : ℕ) (b : u < 16) (here : bit left u ≡ true)
      (leads : (w : ℕ) → edge succ u w ≡ true → bit left w ≡ false)
      (after time : ℕ) (h : after ≡ largest 16 (λ w. pick (bit (get_or succ u 0) w) (get_or sums w 0) 0)) (t : time ≡ get_or times u 0) where
    pub reckons : after + time ≡ get_or all u 0
    unfolding edge
    reckons =
        let e : largest 16 (λ w. pick (edge succ u w) (get_or sums w 0) 0) ≡ largest 16 (λ w. pick (edge succ u w) (get_or all w 0) 0) =
        largest_same 16 _ _ (λ w c. go w c (edge succ u w) refl) in
        omega (arith, sums_right 16 succ (λ x. get_or times x 0) (omega arith) (omega arith) passes u b)
      where
        go : (w : ℕ) → w < 16 → (d : Bool) → edge succ u w ≡ d → pick d (get_or sums w 0) 0 ≡ pick d (get_or all w 0) 0
        go w c true e = r.right w c (leads w e)
        go w c false e = refl

    pub reckons_small : ((x : ℕ) → get_or times x 0 < 4294967296) → after + time ≤ 68719476736
    reckons_small small = omega (arith, reckons, sums_small 16 (edge succ) (λ x. get_or times x 0) 4294967295 (λ x c. omega (arith, small x)) 16 u)

    pub reckoned_less : without left u < left
    reckoned_less = without_less left u b here

    pub reckoned_next : Reckoned succ times (without left u) (set sums u (after + time))
    reckoned_next = record {
      bits = omega (arith, reckoned_less, r.bits);
      size = length-set sums u (after + time) ∙ r.size;
      right = λ x c o. ⊎_elim
          (λ s. get_or-set_other sums u x (after + time) 0 (λ e. clash here (ap (bit left) (sym e) ∙ s)) ∙ r.right x c s)
          (λ e. rw e (get_or-set_same sums u (after + time) 0 (omega (arith, r.size)) ∙ reckons))
          (without_new left u b r.bits x o);
    }
