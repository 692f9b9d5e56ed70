-- A legal tick by the machine's steps: the judge's state is the one that the tick hands back, and it is stopped exactly after a miss.
use mathlib.Core.Path.{◌≡◌, refl, sym, ap, subst, ◌∙◌}
use mathlib.Core.Logic.{◌⊎◌, inl, inr, ⊎_elim}
use mathlib.Core.Bool.{Bool, true, false, ◌&&◌}
use mathlib.Core.List.{List, [], ◌∷◌}
use Prim.Native.Nat.{ℕ, ◌+◌, ◌*◌, ◌-◌, ◌/◌, ◌%◌, ◌^◌, ◌<◌}
use native.Mathlib.Omega.{arith}
use lib.ListN.{get_or}
use lib.Dec.{ltb}
use borrow.Author.Tests.{leb-false, ltb-false}
use Rattle.graph.specs.Words.{flag, pick, bit, row, those_below, is_in, first_or, lowest_or}
use Rattle.graph.proofs.Facts.{clash, sum_same}
use Rattle.graph.proofs.Members.{held_below}
use Rattle.table.specs.declared.Table.{Table}
use Rattle.table.specs.declared.Outcome.TheVariants.{Read}
use Rattle.table.specs.Reading.{read}
use Rattle.machine.specs.declared.Phase.TheVariants.{Stopped}
use Rattle.machine.specs.declared.State.{State}
use Rattle.machine.specs.declared.Ticked.{Ticked}
use Rattle.machine.specs.States.{wait, remaining, zeros}
use Rattle.machine.specs.Steps.{name_at, released, run_of, worked, ended, finished, missed, Legal}
use Rattle.machine.specs.Fitting.{fits}
use Rattle.machine.specs.Ticking.{ticked, judged, advance_to, advance, refuse, tick_on}
use Rattle.machine.proofs.Index.{released_phase, worked_phase, ended_phase}
use Rattle.machine.proofs.Lowest.{lowest_cases}
use Rattle.machine.proofs.Cases.{beyond, too_soon, Admitted, Case, unfit, halted, no_task_past, early, misses, goes_on_lem, cases, admitted_advances}
use Rattle.machine.proofs.Fitted.{InRange}
use Rattle.machine.proofs.Files.{tick_fits}
use Rattle.machine.proofs.Refusing.{on_table}
use Rattle.journal.specs.Rows.{is_stopped}
use Rattle.journal.specs.Runs.{Tick, tick_with, answer_of, LegalTick}
use Rattle.machine.proofs.Filling.{row_ext}

-- ---- steps 4 to 6 answer 0 and go on, or 34 and stop
pub data Answers (x : Ticked) : Type 0 where
  fine : answer_of x ≡ 0 → is_stopped x.state.phase ≡ false → Answers x
  miss : answer_of x ≡ 34 → is_stopped x.state.phase ≡ true → Answers x

module _ (t : Table) (st : State) (named : ℕ) (chosen : List ℕ) where
  abbrev after : State
  after = worked t (released t st named) named chosen

  same_phase : (ended after).phase ≡ st.phase
  same_phase = ended_phase after ∙ worked_phase t (released t st named) named chosen ∙ released_phase t st named

  pub advance_answers : is_stopped st.phase ≡ false → Answers (advance t st named chosen)
  unfolding advance advance_to judged ticked zeros answer_of is_stopped
  advance_answers r = ⊎_elim
      (λ q. subst Answers (sym q.2) (stops q.0))
      (λ q. subst Answers (sym q.1) goes)
      (lowest_cases 16 (missed (ended after)) (λ i. ticked 34 i chosen (finished after) (zeros (ended after).clock (Stopped i))) (ticked 0 255 chosen (finished after) (ended after)))
    where
      stops : (i : ℕ) → Answers (ticked 34 i chosen (finished after) (zeros (ended after).clock (Stopped i)))
      stops i = miss refl refl

      goes : Answers (ticked 0 255 chosen (finished after) (ended after))
      goes = fine refl (ap is_stopped same_phase ∙ r)

-- ---- the state depends on the members of the choice alone
judged_state : (a b : List ℕ) (done : ℕ) (st : State) → (judged a done st).state ≡ (judged b done st).state
unfolding judged lowest_or first_or ticked
judged_state a b done st = go (those_below 16 (missed st))
  where
    go : (l : List ℕ) → (first_or l (λ i. ticked 34 i a done (zeros st.clock (Stopped i))) (ticked 0 255 a done st)).state
        ≡ (first_or l (λ i. ticked 34 i b done (zeros st.clock (Stopped i))) (ticked 0 255 b done st)).state
    go [] = refl
    go (i ∷ l) = refl

same_work : (t : Table) (st : State) (named : ℕ) (a b : List ℕ) → ((k : ℕ) → k < 1024 → is_in k a ≡ is_in k b) → worked t st named a ≡ worked t st named b
unfolding worked run_of name_at
same_work t st named a b same = rw (rest, work) refl
  where
    rest : row 1024 (λ k. pick (is_in (name_at k) a) (get_or st.remaining k 0 - 1) (get_or st.remaining k 0))
        ≡ row 1024 (λ k. pick (is_in (name_at k) b) (get_or st.remaining k 0 - 1) (get_or st.remaining k 0))
    rest = row_ext 1024 0 _ _ (λ k h. ap (λ (c : Bool). pick c (get_or st.remaining k 0 - 1) (get_or st.remaining k 0)) (same (name_at k) (omega arith)))

    work : row 64 (λ s. get_or st.work s 0 - run_of st (s % 16) (s / 16) a) ≡ row 64 (λ s. get_or st.work s 0 - run_of st (s % 16) (s / 16) b)
    work = row_ext 64 0 _ _ (λ s h. ap (λ (n : ℕ). get_or st.work s 0 - n) (sum_same 16 _ _ (λ u l.
        ap (λ (c : Bool). flag (c && ltb 0 (remaining st (s % 16) (s / 16) u))) (same (64 * (s % 16) + 16 * (s / 16) + u) (omega arith)))))

pub same_advance : (t : Table) (st : State) (named : ℕ) (a b : List ℕ) → ((k : ℕ) → k < 1024 → is_in k a ≡ is_in k b)
    → (advance t st named a).state ≡ (advance t st named b).state
unfolding advance advance_to
same_advance t st named a b same =
    judged_state a b _ _
    ∙ ap (λ (w : State). (judged b (finished w) (ended w)).state) (same_work t (released t st named) named a b same)

-- ---- a tick that is not refused was admitted
module _ (choose : Table → State → List ℕ) (t : Table) (st : State) (named : ℕ) where
  refused_number : (n k : ℕ) → answer_of (refuse st n 0 k) ≡ n
  unfolding answer_of refuse
  refused_number n k = refl

  pub taken_admitted : (answer_of (tick_on choose t st named) ≡ 0) ⊎ (answer_of (tick_on choose t st named) ≡ 34) → Admitted choose t st named
  taken_admitted h = go (tick_on choose t st named) (cases choose t st named) h
    where
      never : {X : Type 0} (x : Ticked) (n k : ℕ) → (n ≡ 0 → ⊥) → (n ≡ 34 → ⊥) → x ≡ refuse st n 0 k → (answer_of x ≡ 0) ⊎ (answer_of x ≡ 34) → X
      never x n k a b q h = let e = ap answer_of q ∙ refused_number n k in ⊎_elim (λ z. absurd (a (sym e ∙ z))) (λ z. absurd (b (sym e ∙ z))) h

      go : (x : Ticked) → Case choose t st named x → (answer_of x ≡ 0) ⊎ (answer_of x ≡ 34) → Admitted choose t st named
      go x (unfit e q) h = never x 30 255 (λ z. omega arith) (λ z. omega arith) q h
      go x (halted e k p q) h = never x 32 255 (λ z. omega arith) (λ z. omega arith) q h
      go x (no_task_past e p i l q) h = never x 31 i (λ z. omega arith) (λ z. omega arith) q h
      go x (early e p n i l q) h = never x 33 i (λ z. omega arith) (λ z. omega arith) q h
      go x (misses a i l q) h = a
      go x (goes_on_lem a n q) h = a

and_false : (a b : Bool) → a && b ≡ false → a ≡ true → b ≡ false
and_false true b h e = h
and_false false b h e = absurd (clash e refl)

-- what was admitted names tasks of the table, and none that has to wait
module _ (choose : Table → State → List ℕ) (t : Table) (st : State) (named : ℕ) (bits : named < 2 ^ 16) (ok : Admitted choose t st named) where
  pub named_tasks : (i : ℕ) → bit named i ≡ true → i < t.n
  unfolding beyond
  named_tasks i e = leb-false t.n i (and_false (bit named i) _ (ok.tasks i (held_below named i bits e)) e)

  pub named_free : (i : ℕ) → bit named i ≡ true → wait st i ≡ 0
  unfolding too_soon
  named_free i e = let z = ltb-false 0 (wait st i) (and_false (bit named i) _ (ok.free i (named_tasks i e)) e) in omega arith

-- ---- on a file that is read
module _ (file : List ℕ) (well : (read file).outcome ≡ Read) (st : State) (x : Tick) where
  abbrev t : Table
  t = (read file).table

  on_file : tick_with file st x ≡ tick_on (λ u s. x.chosen) t st x.named
  unfolding tick_with
  on_file = on_table (λ u s. x.chosen) file st x.named well

  -- one that is admitted takes steps 4 to 6
  pub admitted_tick : Admitted (λ u s. x.chosen) t st x.named → tick_with file st x ≡ advance t st x.named x.chosen
  admitted_tick a = on_file ∙ admitted_advances (λ u s. x.chosen) t st x.named a

  pub legal_admitted : LegalTick file st x → Admitted (λ u s. x.chosen) t st x.named
  legal_admitted l =
      taken_admitted (λ u s. x.chosen) t st x.named
      (⊎_elim (λ e. inl (ap answer_of (sym on_file) ∙ e)) (λ e. inr (ap answer_of (sym on_file) ∙ e)) l.taken)

  pub legal_tick : LegalTick file st x → tick_with file st x ≡ advance t st x.named x.chosen
  legal_tick l = admitted_tick (legal_admitted l)

  -- it keeps the state fitting
  pub keeps_fitting : fits t st ≡ true → InRange st → x.named < 2 ^ 16 → Legal t (released t st x.named) x.chosen
      → (fits t (tick_with file st x).state ≡ true) × InRange (tick_with file st x).state
  unfolding tick_with
  keeps_fitting f r b l = tick_fits file well (λ u s. x.chosen) st r f x.named b l
