-- A STATE TAKEN APART, STEP BY STEP: what each step makes of its rows is what the definition says of the state.
use Rattle.std.proofs.Common.{◌≡◌, ℕ, ◌+◌, ◌-◌, ◌*◌, ◌/◌, ◌%◌, ◌<◌, true, ◌&&◌, ltb, List, length, get_or, sym, refl, ap, ◌∙◌}
use Rattle.graph.specs.Words.{flag, bit, sum, row, is_in}
use Rattle.table.specs.declared.Table.{Table}
use Rattle.machine.specs.declared.State.{State}
use Rattle.machine.specs.declared.rows.Rows.{Rows}
use Rattle.machine.specs.States.{live, deadline, remaining}
use Rattle.machine.specs.Steps.{released, left_at, run_of, worked}
use Rattle.machine.specs.Rows.{fresh_in, taken_apart, ticks_of, begun, rest_begun, state_after, with_run, rest_run, rows_after}
use Rattle.machine.proofs.Apart.{Apart, apart}
use Rattle.machine.proofs.Begun.{Begun, begun_at, deadline_at, mid_rest, mid_left, rows_worked}

-- what a run takes off goes by what remains alone
run_same : (a b : State) → a.remaining ≡ b.remaining → (work chosen : List ℕ)
    → row 64 (λ s. get_or work s 0 - run_of a (s % 16) (s / 16) chosen) ≡ row 64 (λ s. get_or work s 0 - run_of b (s % 16) (s / 16) chosen)
unfolding run_of remaining
run_same a b e work chosen =
    ap (λ (l : List ℕ). row 64 (λ s. get_or work s 0 - sum 16 (λ u. flag (is_in (64 * (s % 16) + 16 * (s / 16) + u) chosen && ltb 0 (get_or l (256 * (s / 16) + 16 * (s % 16) + u) 0))))) e

module _ (t : Table) (st : State) (named : ℕ) (many : length st.tasks ≡ 16) where
  abbrev at_first : Rows
  at_first = taken_apart st

  abbrev mid : Rows
  mid = begun t named st.remaining (taken_apart st)

  abbrev rest : List ℕ
  rest = rest_begun t named st.remaining (taken_apart st)

  pub its_rows : Apart st at_first.live at_first.deadlines at_first.waits
  its_rows = apart st many _ _ _ refl refl refl

  its_step : Begun t st named (fresh_in at_first.live named) at_first.deadlines at_first.waits mid.deadlines mid.waits rest mid.work
  its_step = record { ends = refl; rests = refl; costs = refl; sums = refl }

  pub mid_lives : (i p : ℕ) → i < 16 → p < 4 → bit mid.live (16 * p + i) ≡ live (released t st named) i p
  mid_lives = begun_at t st named _ _ _ _ _ _ _ _ its_rows refl its_step

  pub mid_deadlines : (i p : ℕ) → i < 16 → p < 4 → live (released t st named) i p ≡ true → get_or mid.deadlines (16 * p + i) 0 ≡ deadline (released t st named) i p
  mid_deadlines = deadline_at t st named _ _ _ _ _ _ _ _ its_rows refl its_step

  pub mid_remaining : (released t st named).remaining ≡ rest
  mid_remaining = mid_rest t st named _ _ _ _ _ _ _ _ its_rows refl its_step

  pub mid_ticks : ticks_of mid ≡ row 64 (left_at (released t st named))
  mid_ticks = mid_left t st named _ _ _ _ _ _ _ _ its_rows refl its_step

  -- STEP 4
  pub after_run : (chosen : List ℕ) → state_after (with_run chosen rest mid) (rest_run chosen rest) ≡ worked t (released t st named) named chosen
  unfolding rows_after
  after_run chosen =
      rows_worked t st named _ _ _ _ _ _ _ _ its_rows refl its_step chosen _ _ refl (λ other e. run_same (state_after mid rest) other (rest_of ∙ sym e) mid.work chosen)
    where
      rest_of : (state_after mid rest).remaining ≡ rest
      rest_of = refl

  pub ran_rows : (chosen : List ℕ) → (rest_run chosen rest ≡ (worked t (released t st named) named chosen).remaining) × ((with_run chosen rest mid).work ≡ (worked t (released t st named) named chosen).work)
  unfolding rows_after
  ran_rows chosen = (ap (λ (s : State). s.remaining) (after_run chosen), ap (λ (s : State). s.work) (after_run chosen))
