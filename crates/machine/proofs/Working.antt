-- THE STORED WORK (document 02, M-104): each step keeps each job's "equal to the sum of its vertices' remainings", whatever is chosen; and then the
-- finish test, which reads it alone, asks whether nothing remains. A release stores the costs added up; a vertex that runs takes one off both sides;
-- closing a gap moves work and remainings together.
use Rattle.std.proofs.Common.{◌≡◌, ℕ, ◌+◌, ◌-◌, ◌*◌, ◌<◌, Bool, true, false, ◌&&◌, eqb, ltb, List, sym, refl, ap, ◌∙◌, arith, le-ltb, lt-ltb}
use native.Mathlib.Decide.{dec_lt}
use Rattle.graph.specs.Words.{flag, pick, sum, is_in}
use Rattle.graph.proofs.Facts.{sum_same, sum_none, sum_add}
use Rattle.table.specs.declared.Table.{Table}
use Rattle.table.specs.Memory.{cost}
use Rattle.slots.proofs.Cases.{sum_zero}
use Rattle.machine.specs.declared.Phase.{Phase}
use Rattle.machine.specs.declared.State.{State}
use Rattle.machine.specs.States.{live, remaining, work_of, zeros}
use Rattle.machine.specs.Steps.{is_new, released, run_of, worked, finishes, ended}
use Rattle.machine.specs.Fitting.{nothing_left}
use Rattle.machine.proofs.Index.{released_remaining, released_work, worked_remaining, worked_work, going, was, was_live, closed_in, closed_out, ended_work, ended_remaining, zeros_remaining, zeros_work}

-- each job's stored work is the sum of what remains of its vertices
abbrev pub WorkKept : State → Type 0
WorkKept st = (i p : ℕ) → i < 16 → p < 4 → work_of st i p ≡ sum 16 (remaining st i p)

-- ---- a state of zeros
pub zeros_keep : (c : ℕ) (f : Phase) → WorkKept (zeros c f)
zeros_keep c f i p b h = zeros_work c f i p ∙ sym (sum_none 16 (remaining (zeros c f) i p) (λ u l. zeros_remaining c f i p u))

-- ---- step 1
pub released_keep : (t : Table) (st : State) (named : ℕ) → WorkKept st → WorkKept (released t st named)
released_keep t st named k i p b h = released_work t st named i b p h ∙ go (is_new st named i p) refl
  where
    go : (c : Bool) → is_new st named i p ≡ c → pick c (sum 16 (cost t i)) (work_of st i p) ≡ sum 16 (remaining (released t st named) i p)
    go true e = sum_same 16 (cost t i) (remaining (released t st named) i p)
        (λ u l. sym (released_remaining t st named i b p h u l ∙ ap (λ (c : Bool). pick c (cost t i u) (remaining st i p u)) e))
    go false e = k i p b h ∙ sum_same 16 (remaining st i p) (remaining (released t st named) i p)
        (λ u l. sym (released_remaining t st named i b p h u l ∙ ap (λ (c : Bool). pick c (cost t i u) (remaining st i p u)) e))

-- ---- step 4: what remains and what ran is what remained
one_vertex : (c : Bool) (r : ℕ) → pick c (r - 1) r + flag (c && ltb 0 r) ≡ r
unfolding flag
one_vertex true r = elim (dec_lt 0 r) [
  | yes b ↦ let e : r - 1 + 1 ≡ r = omega arith in rw (lt-ltb 0 r b) e
  | no b ↦ let e : r - 1 + 0 ≡ r = omega arith in rw (le-ltb 0 r (omega arith)) e
]
one_vertex false r = omega arith

module _ (t : Table) (st : State) (named : ℕ) (chosen : List ℕ) where
  pub run_off : (i p : ℕ) → i < 16 → p < 4 → sum 16 (remaining (worked t st named chosen) i p) + run_of st i p chosen ≡ sum 16 (remaining st i p)
  unfolding run_of
  run_off i p b h =
      sum_add 16 (remaining (worked t st named chosen) i p) (λ u. flag (is_in (64 * i + 16 * p + u) chosen && ltb 0 (remaining st i p u))) (remaining st i p)
      (λ u l.
      ap (λ (x : ℕ). x + flag (is_in (64 * i + 16 * p + u) chosen && ltb 0 (remaining st i p u))) (worked_remaining t st named chosen i b p h u l)
      ∙ one_vertex (is_in (64 * i + 16 * p + u) chosen) (remaining st i p u))

  pub worked_keep : WorkKept st → WorkKept (worked t st named chosen)
  worked_keep k i p b h =
      let w = worked_work t st named chosen i b p h in
      let r = run_off i p b h in
      let q = k i p b h in
      omega arith

-- ---- step 5
pub ended_keep : (st : State) → WorkKept st → WorkKept (ended st)
ended_keep st k i q b h = ended_work st i b q h ∙ elim (dec_lt q (going st i)) [
  | yes l ↦
      closed_in st i q (λ p. work_of st i p) 0 l ∙ k i (was st i q) b (was_live st i q l).0
      ∙ sum_same 16 (remaining st i (was st i q)) (remaining (ended st) i q)
      (λ u m. sym (ended_remaining st i b q h u m ∙ closed_in st i q (λ p. remaining st i p u) 0 l))
  | no l ↦
      closed_out st i q (λ p. work_of st i p) 0 (omega arith)
      ∙ sym (sum_none 16 (remaining (ended st) i q) (λ u m. ended_remaining st i b q h u m ∙ closed_out st i q (λ p. remaining st i p u) 0 (omega arith)))
]

-- THE FINISH TEST by the stored work asks whether nothing remains
pub finish_test : (st : State) → WorkKept st → (i p : ℕ) → i < 16 → p < 4 → finishes st i p ≡ (live st i p && nothing_left st i p)
unfolding finishes nothing_left
finish_test st k i p b h = ap (λ (c : Bool). live st i p && c) (ap (λ (w : ℕ). eqb w 0) (k i p b h) ∙ sum_zero 16 (remaining st i p))
