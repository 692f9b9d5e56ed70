-- From one state: the writing of a legal run is accepted; and what is accepted is the writing of one.
use mathlib.Core.Path.{◌≡◌, refl, sym, ap, subst, ◌∙◌}
use mathlib.Core.Logic.{◌⊎◌, inl, inr}
use mathlib.Core.Bool.{Bool, true, false}
use mathlib.Core.List.{List, [], ◌∷◌, ◌++◌}
use Prim.Native.Nat.{ℕ, zero, suc, ◌+◌, ◌^◌, ◌≤◌, ◌<◌}
use native.Mathlib.Omega.{arith}
use native.Mathlib.Decide.{ℕ_discrete, dec_lt}
use lib.ListN.{length, get_or, drop, length-drop, drop_of_length-le}
use lib.Dec.{eqb}
use Rattle.graph.proofs.Facts.{clash}
use Rattle.table.specs.declared.Table.{Table}
use Rattle.table.specs.declared.Outcome.TheVariants.{Read}
use Rattle.table.specs.Reading.{read}
use Rattle.machine.specs.declared.Phase.{Phase}
use Rattle.machine.specs.declared.Phase.TheVariants.{Running, Stopped}
use Rattle.machine.specs.declared.State.{State}
use Rattle.machine.specs.declared.Ticked.{Ticked}
use Rattle.machine.specs.Steps.{released}
use Rattle.machine.specs.Fitting.{fits}
use Rattle.machine.specs.Ticking.{advance}
use Rattle.machine.proofs.Cases.{beyond, too_soon, Admitted}
use Rattle.machine.proofs.Fitted.{InRange}
use Rattle.journal.specs.declared.Progress.{Progress}
use Rattle.journal.specs.declared.Ruling.{Ruling}
use Rattle.journal.specs.Rows.{row_set, row_end, listed, is_stopped, fault}
use Rattle.journal.specs.Judging.{judge_rows, ruling}
use Rattle.journal.specs.Runs.{Tick, tick_with, answer_of, LegalTick, LegalRun, last_answer, keys_of, row_bytes, writing}
use Rattle.journal.proofs.Going.{legal_row, refused_row, over_end, over_refused, not_over, rows_over, rows_step}
use Rattle.journal.proofs.Passing.{Passes, passes, in_whole, the_mark, each, listed_keys, listed_legal}
use Rattle.journal.proofs.Written.{row_bytes_lem, set_is, listed_is, whole_row, after_row}
use Rattle.journal.proofs.Ticks.{Answers, fine, miss, advance_answers, same_advance, admitted_tick, legal_admitted, legal_tick, keeps_fitting}
use Rattle.journal.proofs.Lawful.{same_members, not_refused}

end_after : (s : List ℕ) (at : ℕ) → at + 5 ≤ row_end s at
unfolding row_end
end_after s at = omega arith

module _ (file : List ℕ) (well : (read file).outcome ≡ Read) where
  abbrev t : Table
  t = (read file).table

  -- what is kept from row to row
  abbrev pub Fit : State → Type 0
  Fit st = (fits t st ≡ true) × InRange st

  running_phase : (p : Phase) → is_stopped p ≡ false → p ≡ Running
  unfolding is_stopped
  running_phase Running e = refl
  running_phase (Stopped k) e = absurd (clash refl e)

  -- a legal tick leaves the machine stopped exactly if it missed
  by_answer : (z : Ticked) → Answers z → is_stopped z.state.phase ≡ eqb (answer_of z) 34
  by_answer z (fine a b) = b ∙ sym (ap (λ (n : ℕ). eqb n 34) a)
  by_answer z (miss a b) = b ∙ sym (ap (λ (n : ℕ). eqb n 34) a)

  runs : (st : State) → st.phase ≡ Running → is_stopped st.phase ≡ false
  unfolding is_stopped
  runs st e = ap is_stopped e

  module _ (st : State) (x : Tick) (l : LegalTick file st x) where
    answers : Answers (tick_with file st x)
    answers = subst Answers (sym (legal_tick file well st x l)) (advance_answers t st x.named x.chosen (runs st (legal_admitted file well st x l).running))

    stopped_is : is_stopped (tick_with file st x).state.phase ≡ eqb (answer_of (tick_with file st x)) 34
    stopped_is = by_answer (tick_with file st x) answers

    still_fits : Fit st → Fit (tick_with file st x).state
    still_fits f = keeps_fitting file well st x f.0 f.1 l.bits l.choice

  -- ---- A LEGAL RUN, WRITTEN, IS ACCEPTED
  abbrev accept : ℕ → Bool → Ruling
  accept n b = record { number = 0; place = 0; row = 0; rows = n; missed = b }

  abbrev at : ℕ → ℕ → State → Progress
  at next rows st = record { number = 0; next = next; rows = rows; state = st }

  -- one row of it
  module _ (x : Tick) (s : List ℕ) (next rows : ℕ) (st : State) (rest : List ℕ) (l : LegalTick file st x)
      (e : drop next s ≡ row_bytes x.named (keys_of x.chosen) ++ rest) where
    same_state : (advance t st (row_set s next) (listed s next)).state ≡ (tick_with file st x).state
    same_state =
        ap (λ (n : ℕ). (advance t st n (listed s next)).state) (set_is x.named (keys_of x.chosen) s next rest e)
        ∙ ap (λ (k : List ℕ). (advance t st x.named k).state) (listed_is x.named (keys_of x.chosen) s next rest e)
        ∙ same_advance t st x.named (keys_of x.chosen) x.chosen (λ k b. same_members t (released t st x.named) x.chosen l.choice k)
        ∙ sym (ap (λ (z : Ticked). z.state) (legal_tick file well st x l))

    row_steps : judge_rows t s (length s) (at next rows st) ≡ judge_rows t s (length s) (at (row_end s next) (rows + 1) (tick_with file st x).state)
    row_steps =
        rows_step t s (length s) (at next rows st) (not_over (length s) (at next rows st) within refl)
        ∙ ap (judge_rows t s (length s)) (legal_row t s (at next rows st)
        (not_refused t st x.named x.chosen (legal_admitted file well st x l) l.choice s next rest e)
        ∙ ap (at (row_end s next) (rows + 1)) same_state)
      where
        within : next < length s
        within = let h = whole_row x.named (keys_of x.chosen) s next rest e in let k = end_after s next in omega arith

  pub run_judged : (run : List Tick) (s : List ℕ) (next rows was : ℕ) (st : State) → Fit st → is_stopped st.phase ≡ eqb was 34
      → drop next s ≡ writing run → LegalRun file st run
      → ruling (judge_rows t s (length s) (at next rows st)) ≡ accept (rows + length run) (eqb (last_answer file st was run) 34)
  unfolding writing LegalRun last_answer ruling
  run_judged [] s next rows was st fit stop e legal =
      let n : length (drop next s) ≡ 0 = ap length e in
      let l = length-drop next s in
      let z : rows ≡ rows + 0 = omega arith in
      ap ruling (rows_over t s (length s) (at next rows st) (over_end (length s) (at next rows st) (omega arith)))
      ∙ ap (λ (b : Bool). accept rows b) stop ∙ ap (λ (k : ℕ). accept k (eqb was 34)) z
  run_judged (x ∷ run) s next rows was st fit stop e legal =
      let z : rows + 1 + length run ≡ rows + suc (length run) = omega arith in
      ap ruling (row_steps x s next rows st (writing run) legal.0 e)
      ∙ run_judged run s (row_end s next) (rows + 1) (answer_of (tick_with file st x)) (tick_with file st x).state
      (still_fits st x legal.0 fit) (stopped_is st x legal.0)
      (after_row x.named (keys_of x.chosen) s next (writing run) e) legal.1
      ∙ ap (λ (k : ℕ). accept k (eqb (last_answer file (tick_with file st x).state (answer_of (tick_with file st x)) run) 34)) z

  -- ---- WHAT IS ACCEPTED IS THE WRITING OF A LEGAL RUN
  module _ (s : List ℕ) (bytes : (k : ℕ) → get_or s k 0 < 256) where
    -- one row that passes is a legal tick
    module _ (next : ℕ) (st : State) (fit : Fit st) (p : Passes t st s next) where
      abbrev tick_of : Tick
      tick_of = record { named = row_set s next; chosen = listed s next }

      bits : row_set s next < 2 ^ 16
      unfolding row_set
      bits = let a = bytes (next + 2) in let b = bytes (next + 3) in omega arith

      admitted : Admitted (λ u z. listed s next) t st (row_set s next)
      unfolding beyond too_soon
      admitted = record { fitting = fit.0; running = running_phase st.phase p.runs; tasks = p.tasks; free = p.free }

      moves : tick_with file st tick_of ≡ advance t st (row_set s next) (listed s next)
      moves = admitted_tick file well st tick_of admitted

      taken : (z : Ticked) → Answers z → (answer_of z ≡ 0) ⊎ (answer_of z ≡ 34)
      taken z (fine a b) = inl a
      taken z (miss a b) = inr a

      lawful : LegalTick file st tick_of
      lawful = record {
        bits = bits;
        taken = subst (λ (z : Ticked). (answer_of z ≡ 0) ⊎ (answer_of z ≡ 34)) (sym moves)
            (taken (advance t st (row_set s next) (listed s next)) (advance_answers t st (row_set s next) (listed s next) p.runs));
        choice = listed_legal t st s next p;
      }

      its_bytes : row_bytes (row_set s next) (keys_of (listed s next)) ++ drop (row_end s next) s ≡ drop next s
      its_bytes =
          ap (λ (k : List ℕ). row_bytes (row_set s next) k ++ drop (row_end s next) s) (listed_keys t st s next p)
          ∙ sym (row_bytes_lem s next bytes (in_whole t st s next p) (the_mark t st s next p).0 (the_mark t st s next p).1 (λ j h. ((each t st s next p j h).1, (each t st s next p j h).2)))

    pub judged_run : (k next rows : ℕ) (st : State) → Fit st → next ≤ length s → length s ≤ k + next
        → (judge_rows t s (length s) (at next rows st)).number ≡ 0
        → (run : List Tick) × LegalRun file st run × (writing run ≡ drop next s)
    unfolding writing LegalRun
    judged_run zero next rows st fit h k e = ([], tt, sym (drop_of_length-le s {i = next} (omega arith)))
    judged_run (suc n) next rows st fit h k e = elim (dec_lt next (length s)) [
      | no q ↦ ([], tt, sym (drop_of_length-le s {i = next} (omega arith)))
      | yes q ↦
          let go = rows_step t s (length s) (at next rows st) (not_over (length s) (at next rows st) q refl) in
          elim (ℕ_discrete (fault t st s next) 0) [
            | no d ↦
                let r = refused_row t s (at next rows st) d in
                let o = go ∙ ap (judge_rows t s (length s)) r ∙ rows_over t s (length s) _ (over_refused (length s) _ d) in
                absurd (d (sym (ap (λ (z : Progress). z.number) o) ∙ e))
            | yes d ↦
                let p = passes t st s next d in
                let x = tick_of next st fit p in
                let l = lawful next st fit p in
                let b = in_whole t st s next p in
                let f = end_after s next in
                let m = go ∙ ap (judge_rows t s (length s)) (legal_row t s (at next rows st) d ∙ ap (at (row_end s next) (rows + 1)) (sym (ap (λ (z : Ticked). z.state) (moves next st fit p)))) in
                let r = judged_run n (row_end s next) (rows + 1) (tick_with file st x).state (still_fits st x l fit) b (omega arith) (sym (ap (λ (z : Progress). z.number) m) ∙ e) in
                (x ∷ r.0, (l, r.1), ap (λ (z : List ℕ). row_bytes (row_set s next) (keys_of (listed s next)) ++ z) r.2 ∙ its_bytes next st fit p)
          ]
    ]
