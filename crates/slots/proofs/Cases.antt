-- The cases that the code tells apart, each with what the rules say of it.
use mathlib.Core.Path.{◌≡◌, refl, sym, ap, ◌∙◌}
use mathlib.Core.Bool.{Bool, true, false, ◌||◌, not, not-not}
use mathlib.Core.List.{List}
use Prim.Native.Nat.{ℕ, ◌+◌, ◌≤◌, ◌<◌, min}
use native.Mathlib.Omega.{arith}
use native.Mathlib.Numerals.{add-one}
use native.Mathlib.Decide.{ℕ_discrete, dec_lt}
use lib.Dec.{eqb}
use borrow.Author.Tests.{lt-ltb, le-ltb, le-leb, lt-leb, eq-eqb, ne_eqb, eqb-true}
use Rattle.graph.specs.Words.{flag, bit, sum, all, set_of}
use Rattle.graph.specs.Graph.{edge, held_back}
use Rattle.graph.proofs.Facts.{all_at, all_of, off_when, sum_none, sum_at}
use Rattle.graph.proofs.Sets.{bit_set}
use Rattle.graph.proofs.Held.{held_by_set}
use Rattle.table.specs.declared.Task.{Task}
use Rattle.slots.specs.Slots.{at, cost_at, nothing_left, work_left, within_cost, used, clear, whole_behind, job_fits, zero_place}
use Rattle.slots.proofs.Behind.{all_same}

-- ---- a sum, as a loop adds it up
pub sum_next : (n : ℕ) (f : ℕ → ℕ) → sum (n + 1) f ≡ sum n f + f n
unfolding sum
sum_next n f = ap (λ (k : ℕ). sum k f) (add-one n)

-- it is 0 exactly if each number is
pub sum_zero : (n : ℕ) (f : ℕ → ℕ) → eqb (sum n f) 0 ≡ all n (λ u. eqb (f u) 0)
sum_zero n f = elim (ℕ_discrete (sum n f) 0) [
  | yes e ↦ eq-eqb (sum n f) 0 e ∙ sym (all_of n _ (λ u b. eq-eqb (f u) 0 (omega (arith, sum_at n f u b))))
  | no d ↦ ne_eqb (sum n f) 0 d ∙ sym (off_when _ (λ h. d (sum_none n f (λ u b. eqb-true (f u) 0 (all_at n _ h u b)))))
]

-- ---- what remains of a slot
module _ (rest : List ℕ) (s : ℕ) where
  pub none_past : 64 ≤ s → true ≡ nothing_left rest s
  unfolding nothing_left
  none_past h = rw (le-leb 64 s h) refl

  pub none_left : s < 64 → all 16 (λ u. eqb (at rest s u) 0) ≡ nothing_left rest s
  unfolding nothing_left
  none_left h = rw (lt-leb 64 s h) refl

  -- ---- its work
  pub work_past : 64 ≤ s → 0 ≡ work_left rest s
  unfolding work_left
  work_past h = rw (le-ltb s 64 h) refl

  pub work_sum : s < 64 → sum 16 (at rest s) ≡ work_left rest s
  unfolding work_left
  work_sum h = rw (lt-ltb s 64 h) refl

  -- none is left exactly if nothing remains
  pub no_work_lem : eqb (work_left rest s) 0 ≡ nothing_left rest s
  no_work_lem = elim (dec_lt s 64) [
    | yes b ↦ ap (λ (w : ℕ). eqb w 0) (sym (work_sum b)) ∙ sum_zero 16 (at rest s) ∙ none_left b
    | no b ↦ let h : 64 ≤ s = omega arith in ap (λ (w : ℕ). eqb w 0) (sym (work_past h)) ∙ none_past h
  ]

-- ---- a place of zeros
module _ (live : Bool) (work : ℕ) (rest : List ℕ) (s : ℕ) where
  pub zero_live : live ≡ true → false ≡ zero_place live work rest s
  unfolding zero_place
  zero_live e = rw e refl

  pub zero_work : live ≡ false → (work ≡ 0 → ⊥) → false ≡ zero_place live work rest s
  unfolding zero_place
  zero_work e d = rw (e, ne_eqb work 0 d) refl

  pub zero_rest : live ≡ false → work ≡ 0 → nothing_left rest s ≡ zero_place live work rest s
  unfolding zero_place
  zero_rest e q = rw (e, eq-eqb work 0 q) refl

-- ---- a live job: a clause fails, or all hold but the last, which decides
module _ (a : Task) (costs : List ℕ) (left work : ℕ) (rest : List ℕ) (s : ℕ) where
  pub no_ticks : left < 1 → false ≡ job_fits a costs left work rest s
  unfolding job_fits
  no_ticks h = rw (lt-leb 1 left h) refl

  module _ (h₁ : 1 ≤ left) where
    pub too_many : a.d ≤ left → false ≡ job_fits a costs left work rest s
    unfolding job_fits
    too_many h = rw (le-leb 1 left h₁, le-ltb left a.d h) refl

    module _ (h₂ : left < a.d) where
      pub all_finished : work ≡ 0 → false ≡ job_fits a costs left work rest s
      unfolding job_fits
      all_finished h = rw (le-leb 1 left h₁, lt-ltb left a.d h₂, eq-eqb work 0 h) refl

      module _ (h₃ : work ≡ 0 → ⊥) where
        pub differs : (work ≡ work_left rest s → ⊥) → false ≡ job_fits a costs left work rest s
        unfolding job_fits
        differs h = rw (le-leb 1 left h₁, lt-ltb left a.d h₂, ne_eqb work 0 h₃, ne_eqb work (work_left rest s) h) refl

        module _ (h₄ : work ≡ work_left rest s) where
          -- past the sixty-fourth there is no work
          pub slot_past : 64 ≤ s → false ≡ job_fits a costs left work rest s
          slot_past h = absurd (h₃ (h₄ ∙ sym (work_past rest s h)))

          pub above_cost : within_cost costs rest s ≡ false → false ≡ job_fits a costs left work rest s
          unfolding job_fits
          above_cost h = rw (le-leb 1 left h₁, lt-ltb left a.d h₂, ne_eqb work 0 h₃, eq-eqb work (work_left rest s) h₄, h) refl

          pub last_clause : within_cost costs rest s ≡ true → whole_behind a costs rest s ≡ job_fits a costs left work rest s
          unfolding job_fits
          last_clause h = rw (le-leb 1 left h₁, lt-ltb left a.d h₂, ne_eqb work 0 h₃, eq-eqb work (work_left rest s) h₄, h) refl

-- the sets that the code has at hand tell which vertices are clear
pub whole_behind_lem : (a : Task) (costs rest : List ℕ) (s v unfinished behind : ℕ) → v ≡ used a.v → unfinished ≡ set_of 16 (λ u. not (eqb (at rest s u) 0))
    → behind ≡ set_of 16 (held_back (min v 16) (edge a.succ) (λ u. flag (bit unfinished u)))
    → all v (λ u. not (bit behind u) || eqb (at rest s u) (cost_at costs s u)) ≡ whole_behind a costs rest s
unfolding whole_behind clear held_back
whole_behind_lem a costs rest s v unfinished behind e o h =
    let m : min v 16 ≡ used a.v = omega arith in
    rw e (all_same (used a.v) _ _ (λ u b. ap (λ (x : Bool). x || eqb (at rest s u) (cost_at costs s u)) (clear_bit m u (omega arith))))
  where
    clear_bit : min v 16 ≡ used a.v → (u : ℕ) → u < 16 → not (bit behind u) ≡ clear a rest s u
    clear_bit m u b =
        ap (λ (n : ℕ). not (bit n u)) h
        ∙ ap not (bit_set 16 (held_back (min v 16) (edge a.succ) (λ u. flag (bit unfinished u))) u b)
        ∙ ap (λ (n : ℕ). not (held_back n (edge a.succ) (λ u. flag (bit unfinished u)) u)) m
        ∙ ap not (held_by_set (used a.v) (edge a.succ) (at rest s) unfinished (omega arith) o u)
        ∙ not-not _
