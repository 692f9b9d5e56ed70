-- WHICH STATES FIT, BY ROWS: the rules of specs/Rows.antt, slot by slot, say of a state taken apart what specs/Fitting.antt says of it.
use Rattle.std.proofs.Common.{◌≡◌, ℕ, ◌+◌, ◌-◌, ◌*◌, ◌%◌, ◌<◌, ◌≤◌, Bool, true, false, not, ◌&&◌, ◌||◌, eqb, ltb, leb, get_or, sym, refl, ap, ◌∙◌, arith, le-ltb, lt-ltb, eq-eqb, ne_eqb, eqb-true, le-leb}
use mathlib.Core.Path.{fun_ext}
use native.Mathlib.Nat.{min-eq_left}
use native.Mathlib.Decide.{ℕ_discrete, dec_lt}
use borrow.Author.Tests.{lt-leb}
use Rattle.graph.specs.Words.{pick, sum, all}
use Rattle.graph.proofs.Facts.{all_same}
use Rattle.table.specs.declared.Table.{Table}
use Rattle.table.specs.Memory.{task, vertices, D, succ, edge_in, cost}
use Rattle.table.specs.Good.{GoodTask}
use Rattle.slots.specs.Slots as slots
use Rattle.slots.proofs.Cases as cases
use Rattle.slots.proofs.Cases.{sum_zero}
use Rattle.machine.specs.declared.State.{State}
use Rattle.machine.specs.States.{live, remaining, work_of, left}
use Rattle.machine.specs.Steps.{clear}
use Rattle.machine.specs.Fitting.{within_cost, nothing_left, whole_behind, work_agrees, fits_job, zero_place}

leb_zero : (r : ℕ) → leb r 0 ≡ eqb r 0
leb_zero r = elim (ℕ_discrete r 0) [
  | yes e ↦ le-leb r 0 (omega arith) ∙ sym (eq-eqb r 0 e)
  | no e ↦ lt-leb r 0 (omega arith) ∙ sym (ne_eqb r 0 e)
]

-- ticks left up to D minus 1
soon_same : (l d : ℕ) → 1 ≤ d → ltb l d ≡ leb l (d - 1)
soon_same l d h = elim (dec_lt l d) [
  | yes b ↦ lt-ltb l d b ∙ sym (le-leb l (d - 1) (omega arith))
  | no b ↦ le-ltb l d (omega arith) ∙ sym (lt-leb l (d - 1) (omega arith))
]

-- the clauses in the code's order and in the rule's: where the stored work is the sum, it is 0 exactly if nothing remains
nothing : (b : Bool) → (b && false) ≡ false
nothing true = refl
nothing false = refl

shuffle : (x z n w c h : Bool) → (w ≡ true → z ≡ n) → (x && not z && w && c && h) ≡ (x && c && not n && h && w)
shuffle x z n false c h e = rw (nothing (x && not z), nothing (x && c && not n && h)) refl
shuffle x z n true c h e = rw (e refl) (go x n c h)
  where
    go : (x n c h : Bool) → (x && not n && true && c && h) ≡ (x && c && not n && h && true)
    go false n c h = refl
    go true true true h = refl
    go true true false h = refl
    go true false true true = refl
    go true false true false = refl
    go true false false h = refl

module _ (st : State) (i p : ℕ) (b : i < 16) (c : p < 4) where
  abbrev at_slot : ℕ
  at_slot = 16 * p + i

  -- what remains of the slot's vertices is what remains of the job's
  rests : (λ (u : ℕ). get_or st.remaining (16 * at_slot + u) 0) ≡ remaining st i p
  unfolding remaining
  rests = fun_ext (λ u. let z : 16 * at_slot + u ≡ 256 * p + 16 * i + u = omega arith in ap (λ (k : ℕ). get_or st.remaining k 0) z)

  none_same : slots.nothing_left st.remaining at_slot ≡ nothing_left st i p
  unfolding nothing_left
  none_same = sym (cases.none_left st.remaining at_slot (omega arith)) ∙ ap (λ (f : ℕ → ℕ). all 16 (λ u. eqb (f u) 0)) rests

  sum_same : slots.work_left st.remaining at_slot ≡ sum 16 (remaining st i p)
  sum_same = sym (cases.work_sum st.remaining at_slot (omega arith)) ∙ ap (sum 16) rests

  agrees_same : eqb (work_of st i p) (slots.work_left st.remaining at_slot) ≡ work_agrees st i p
  unfolding work_agrees
  agrees_same = ap (eqb (work_of st i p)) sum_same

  no_work_lem : work_agrees st i p ≡ true → eqb (work_of st i p) 0 ≡ nothing_left st i p
  unfolding work_agrees nothing_left
  no_work_lem e = ap (λ (w : ℕ). eqb w 0) (eqb-true (work_of st i p) (sum 16 (remaining st i p)) e) ∙ sum_zero 16 (remaining st i p)

  -- a place without a job
  pub zero_same : slots.zero_place (live st i p) (work_of st i p) st.remaining at_slot ≡ zero_place st i p
  unfolding slots.zero_place zero_place
  zero_same = rw none_same refl

  -- ---- a job of a good table's task
  module _ (t : Table) (good : GoodTask t i) where
    cost_same : (u : ℕ) → u < 16 → slots.cost_at t.costs at_slot u ≡ cost t i u
    unfolding cost
    cost_same u d = let z : (16 * at_slot + u) % 256 ≡ 16 * i + u = omega arith in ap (λ (k : ℕ). get_or t.costs k 0) z

    within_one : (u : ℕ) → u < 16 → Dec (u < vertices t i)
        → leb (remaining st i p u) (cost t i u) ≡ pick (ltb u (vertices t i)) (leb (remaining st i p u) (cost t i u)) (eqb (remaining st i p u) 0)
    within_one u d (yes l) = rw (lt-ltb u (vertices t i) l) refl
    within_one u d (no l) = rw (le-ltb u (vertices t i) (omega arith), good.unused u (omega arith) d) (leb_zero (remaining st i p u))

    within_same : slots.within_cost t.costs st.remaining at_slot ≡ within_cost t st i p
    unfolding slots.within_cost within_cost
    within_same =
        ap (λ (f : ℕ → ℕ). all 16 (λ u. leb (f u) (slots.cost_at t.costs at_slot u))) rests
        ∙ all_same 16 _ _ (λ u d. ap (leb (remaining st i p u)) (cost_same u d) ∙ within_one u d (dec_lt u (vertices t i)))

    clear_same : (u : ℕ) → slots.clear (task t i) st.remaining at_slot u ≡ clear t st i p u
    unfolding slots.clear clear edge_in vertices succ
    clear_same u = rw (min-eq_left good.v_high, rests) refl

    whole_same : slots.whole_behind (task t i) t.costs st.remaining at_slot ≡ whole_behind t st i p
    unfolding slots.whole_behind whole_behind vertices
    whole_same =
        rw (min-eq_left good.v_high)
        (all_same (vertices t i) _ _ (λ u d.
        ap (λ (x : Bool). x || eqb (get_or st.remaining (16 * at_slot + u) 0) (slots.cost_at t.costs at_slot u)) (clear_same u)
        ∙ ap (λ (f : ℕ → ℕ). clear t st i p u || eqb (f u) (slots.cost_at t.costs at_slot u)) rests
        ∙ ap (λ (k : ℕ). clear t st i p u || eqb (remaining st i p u) k) (cost_same u (let h = good.v_high in omega arith))))

    -- THE RULES OF A JOB AGREE
    pub job_same : slots.job_fits (task t i) t.costs (left st i p) (work_of st i p) st.remaining at_slot ≡ fits_job t st i p
    unfolding slots.job_fits fits_job D
    job_same =
        rw (soon_same (left st i p) (D t i) good.D_low, agrees_same, within_same, whole_same)
        (shuffle (leb 1 (left st i p) && leb (left st i p) (D t i - 1)) (eqb (work_of st i p) 0) (nothing_left st i p) (work_agrees st i p) (within_cost t st i p) (whole_behind t st i p) no_work_lem)
