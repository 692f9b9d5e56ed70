-- Step 4 by numbers in a choice: `place_in` is `name_at` the other way round, so a place of the four rows is in the list of the places of a choice just if
-- its number is in the choice; what step 4 makes of the places (proofs/Taken.antt) is what it makes of the numbers.
use Rattle.std.proofs.Common.{◌≡◌, ℕ, zero, suc, ◌+◌, ◌-◌, ◌*◌, ◌/◌, ◌%◌, ◌<◌, Bool, true, ◌&&◌, eqb, ltb, List, get_or, sym, refl, ap, ◌∙◌, ap₂, arith, eq-eqb, ne_eqb}
use native.Mathlib.Decide.{ℕ_discrete}
use Rattle.graph.specs.Words.{flag, pick, row_from, row, is_in, Distinct}
use Rattle.graph.proofs.Facts.{sum_same}
use Rattle.machine.specs.declared.State.{State}
use Rattle.machine.specs.States.{remaining}
use Rattle.machine.specs.Steps.{task_in, age_in, vertex_in, name_at, run_of}
use Rattle.machine.specs.Rows.{place_in}
use Rattle.machine.proofs.Index.{name_task, name_age, name_vertex, name_of, slot_name}
use Rattle.machine.proofs.Filling.{row_ext}
use Rattle.machine.proofs.Taken.{run_in}

pub name_of_place : (c : ℕ) → c < 1024 → name_at (place_in c) ≡ c
unfolding task_in age_in vertex_in
name_of_place c b = slot_name (c / 64) (c / 16 % 4) (c % 16) (omega arith) (omega arith) (omega arith) ∙ name_of c

place_of_lem : (i p u : ℕ) → p < 4 → u < 16 → place_in (64 * i + 16 * p + u) ≡ 256 * p + 16 * i + u
unfolding task_in age_in vertex_in
place_of_lem i p u a b = let x = name_task i p u a b in let y = name_age i p u a b in let z = name_vertex i p u a b in omega arith

by_parts : (k : ℕ) → 256 * (k / 256) + 16 * (k / 16 % 16) + k % 16 ≡ k
by_parts k = omega arith

pub place_of_name : (k : ℕ) → k < 1024 → place_in (name_at k) ≡ k
unfolding name_at
place_of_name k b = place_of_lem (k / 16 % 16) (k / 256) (k % 16) (omega arith) (omega arith) ∙ by_parts k

its_name : (s u : ℕ) → s < 64 → u < 16 → name_at (16 * s + u) ≡ 64 * (s % 16) + 16 * (s / 16) + u
its_name s u b c =
    let e : 16 * s + u ≡ 256 * (s / 16) + 16 * (s % 16) + u = omega arith in
    ap name_at e ∙ slot_name (s % 16) (s / 16) u (omega arith) (omega arith) c

module _ (f : ℕ → ℕ) (small : (j : ℕ) → f j < 1024) where
  same_test : (k j : ℕ) → k < 1024 → eqb k (place_in (f j)) ≡ eqb (name_at k) (f j)
  same_test k j b = elim (ℕ_discrete (name_at k) (f j)) [
    | yes e ↦ eq-eqb k (place_in (f j)) (sym (place_of_name k b) ∙ ap place_in e) ∙ sym (eq-eqb (name_at k) (f j) e)
    | no d ↦ ne_eqb k (place_in (f j)) (λ e. d (ap name_at e ∙ name_of_place (f j) (small j))) ∙ sym (ne_eqb (name_at k) (f j) d)
  ]

  from_in : (n i k : ℕ) → k < 1024 → is_in k (row_from n i (λ j. place_in (f j))) ≡ is_in (name_at k) (row_from n i f)
  unfolding row_from is_in
  from_in zero i k b = refl
  from_in (suc n) i k b =
      ap (λ (c : Bool). pick c true (is_in k (row_from n (suc i) (λ j. place_in (f j))))) (same_test k i b)
      ∙ ap (λ (c : Bool). pick (eqb (name_at k) (f i)) true c) (from_in n (suc i) k b)

  from_distinct : (n i : ℕ) → Distinct (row_from n i f) → Distinct (row_from n i (λ j. place_in (f j)))
  unfolding row_from Distinct
  from_distinct zero i d = d
  from_distinct (suc n) i d = (
    from_in n (suc i) (place_in (f i)) (let h = small i in omega arith)
        ∙ ap (λ (c : ℕ). is_in c (row_from n (suc i) f)) (name_of_place (f i) (small i)) ∙ d.0,
    from_distinct n (suc i) d.1,
  )

  module _ (n : ℕ) where
    pub in_places : (k : ℕ) → k < 1024 → is_in k (row n (λ j. place_in (f j))) ≡ is_in (name_at k) (row n f)
    unfolding row
    in_places k b = from_in n 0 k b

    pub places_distinct : Distinct (row n f) → Distinct (row n (λ j. place_in (f j)))
    unfolding row
    places_distinct d = from_distinct n 0 d

    -- how many vertices of slot s run
    run_same : (rest : List ℕ) (st : State) → st.remaining ≡ rest → (s : ℕ) → s < 64
        → run_in (row n (λ j. place_in (f j))) rest s ≡ run_of st (s % 16) (s / 16) (row n f)
    unfolding run_in run_of remaining
    run_same rest st h s b = sum_same 16 _ _ (λ u c.
        let e : name_at (16 * s + u) ≡ 64 * (s % 16) + 16 * (s / 16) + u = its_name s u b c in
        let g : 16 * s + u ≡ 256 * (s / 16) + 16 * (s % 16) + u = omega arith in
        ap₂ (λ (x y : Bool). flag (x && y))
        (in_places (16 * s + u) (omega arith) ∙ ap (λ (k : ℕ). is_in k (row n f)) e)
        (ap (λ (m : List ℕ). ltb 0 (get_or m (16 * s + u) 0)) (sym h) ∙ ap (λ (k : ℕ). ltb 0 (get_or st.remaining k 0)) g))

    pub rest_by_name : (rest left : List ℕ) → left ≡ row 1024 (λ k. pick (is_in k (row n (λ j. place_in (f j)))) (get_or rest k 0 - 1) (get_or rest k 0))
        → left ≡ row 1024 (λ k. pick (is_in (name_at k) (row n f)) (get_or rest k 0 - 1) (get_or rest k 0))
    rest_by_name rest left e = e ∙ row_ext 1024 0 _ _ (λ k b. ap (λ (c : Bool). pick c (get_or rest k 0 - 1) (get_or rest k 0)) (in_places k b))

    pub work_by_name : (rest before work : List ℕ) → work ≡ row 64 (λ s. get_or before s 0 - run_in (row n (λ j. place_in (f j))) rest s)
        → (st : State) → st.remaining ≡ rest → work ≡ row 64 (λ s. get_or before s 0 - run_of st (s % 16) (s / 16) (row n f))
    work_by_name rest before work e st h = e ∙ row_ext 64 0 _ _ (λ s b. ap (λ (m : ℕ). get_or before s 0 - m) (run_same rest st h s b))
