-- THE THEOREMS. The judge accepts every legal run so written and nothing else; of one run only; and the machine's own.
use mathlib.Core.Path.{◌≡◌, refl, sym, ap, subst, ◌∙◌}
use mathlib.Core.Logic.{⊎_elim}
use mathlib.Core.Bool.{Bool, true, false}
use mathlib.Core.List.{List}
use Prim.Native.Nat.{ℕ, ◌+◌, ◌^◌, ◌<◌}
use native.Mathlib.Omega.{arith}
use native.Mathlib.Decide.{ℕ_discrete}
use lib.ListN.{length, get_or}
use lib.Dec.{eqb}
use borrow.Author.Tests.{ne_eqb}
use Rattle.graph.specs.Words.{pick}
use Rattle.table.specs.declared.Outcome.{Outcome}
use Rattle.table.specs.declared.Outcome.TheVariants.{Read}
use Rattle.table.specs.declared.Table.{Table}
use Rattle.table.specs.Reading.{when_read, read}
use Rattle.table.proofs.Sound.{read_good}
use Rattle.machine.specs.declared.Phase.TheVariants.{Running}
use Rattle.machine.specs.declared.Opened.{Opened}
use Rattle.machine.specs.declared.Reply.{Reply}
use Rattle.machine.specs.declared.State.{State}
use Rattle.machine.specs.States.{zeros, opening}
use Rattle.machine.specs.Fitting.{fits}
use Rattle.machine.proofs.Fitted.{InRange}
use Rattle.machine.proofs.Keeping.{zeros_range, opened_fits}
use Rattle.machine.proofs.Files.{opening_read}
use Rattle.machine.proofs.Refusing.{refusal_number, refusal_stops, read_or_not, opening_reply}
use Rattle.journal.specs.declared.Progress.{Progress}
use Rattle.journal.specs.declared.Ruling.{Ruling}
use Rattle.journal.specs.Rows.{is_stopped}
use Rattle.journal.specs.Judging.{start, ruling, judge_on, unread, judge_read, judge}
use Rattle.journal.specs.Runs.{Tick, LegalRun, LegalFrom, last_answer, last_missed, writing}
use Rattle.journal.specs.Accepting.{accepted, EveryRun, NothingElse, Exactly, OneRun, OwnRuns}
use Rattle.journal.proofs.Judged.{run_judged, judged_run}
use Rattle.journal.proofs.Clocks.{zeros_alike, run_too}
use Rattle.journal.proofs.Own.{own_run_lem}
use Rattle.journal.proofs.Once as O

-- ---- reading
-- a file is opened exactly if it is read
opened_read : (file : List ℕ) (clock : ℕ) → (opening file clock).reply.number ≡ 0 → (read file).outcome ≡ Read
opened_read file clock e = ⊎_elim (λ o. o) (λ d.
    let n = (refusal_number (read file).outcome d).0 in
    let q = ap (λ (r : Reply). r.number) (opening_reply file clock) in
    absurd (omega arith)) (read_or_not (read file).outcome)

judge_reads : (file s : List ℕ) → (judge file s).number ≡ 0 → (read file).outcome ≡ Read
unfolding judge judge_read unread
judge_reads file s e = ⊎_elim (λ o. o) (λ d.
    let n = (refusal_number (read file).outcome d).0 in
    let q = ap (λ (r : Ruling). r.number) (refusal_stops (read file).outcome d unread (λ _. judge_on (read file).table s)) in
    absurd (omega arith)) (read_or_not (read file).outcome)

-- a refusal's ruling has its number
refused_number : (p : Progress) → (p.number ≡ 0 → ⊥) → (ruling p).number ≡ 0 → p.number ≡ 0
unfolding ruling
refused_number p d e = sym (ap (λ (b : Bool). pick b 0 p.number) (ne_eqb p.number 0 d)) ∙ sym (go (eqb p.number 0)) ∙ e
  where
    yes_ruling : Ruling
    yes_ruling = record { number = 0; place = 0; row = 0; rows = p.rows; missed = is_stopped p.state.phase }

    no_ruling : Ruling
    no_ruling = record { number = p.number; place = 0; row = p.rows; rows = 0; missed = false }

    go : (b : Bool) → (pick b yes_ruling no_ruling).number ≡ pick b 0 p.number
    go true = refl
    go false = refl

module _ (file : List ℕ) (well : (read file).outcome ≡ Read) where
  abbrev t : Table
  t = (read file).table

  pub judge_on_lem : (s : List ℕ) → judge file s ≡ judge_on t s
  unfolding judge judge_read
  judge_on_lem s = ap (λ (o : Outcome). when_read o unread (λ _. judge_on t s)) well

  fit : (c : ℕ) → c < 2 ^ 32 → (fits t (zeros c Running) ≡ true) × InRange (zeros c Running)
  fit c h = (opened_fits t (read_good file well) c h, zeros_range c Running h)

  -- the same run from another clock
  from_clock : (c d : ℕ) → c < 2 ^ 32 → d < 2 ^ 32 → (run : List Tick) → LegalRun file (zeros c Running) run
      → LegalRun file (zeros d Running) run × (last_answer file (zeros c Running) 0 run ≡ last_answer file (zeros d Running) 0 run)
  from_clock c d h k run l = run_too file well run (zeros c Running) (zeros d Running) 0 (fit c h) (fit d k) (zeros_alike c d Running) l

  opened_state : (c : ℕ) → (opening file c).state ≡ zeros c Running
  opened_state c = ap (λ (o : Opened). o.state) (opening_read file well c)

  accepts : (c : ℕ) → c < 2 ^ 32 → (run : List Tick) → LegalRun file (opening file c).state run → judge file (writing run) ≡ accepted file c run
  unfolding judge_on start accepted last_missed zeros is_stopped
  accepts c h run l =
      let l₀ = subst (λ (z : State). LegalRun file z run) (opened_state c) l in
      let m = from_clock c 0 h (omega arith) run l₀ in
      let r = run_judged file well run (writing run) 0 0 0 (zeros 0 Running) (fit 0 (omega arith)) refl refl m.0 in
      let n : 0 + length run ≡ length run = omega arith in
      judge_on_lem (writing run) ∙ r
      ∙ ap (λ (k : ℕ). says k (eqb (last_answer file (zeros 0 Running) 0 run) 34)) n
      ∙ ap (λ (k : ℕ). says (length run) (eqb k 34)) (sym m.1)
      ∙ ap (λ (z : State). says (length run) (eqb (last_answer file z 0 run) 34)) (sym (opened_state c))
    where
      says : ℕ → Bool → Ruling
      says k b = record { number = 0; place = 0; row = 0; rows = k; missed = b }

  rejects_none : (s : List ℕ) → ((k : ℕ) → get_or s k 0 < 2 ^ 8) → (judge file s).number ≡ 0
      → (run : List Tick) × LegalRun file (zeros 0 Running) run × (writing run ≡ s)
  unfolding judge_on start
  rejects_none s bytes e =
      judged_run file well s (λ k. let h = bytes k in omega arith) (length s) 0 0 (zeros 0 Running) (fit 0 (omega arith)) (omega arith) (omega arith)
      (no_number _ (sym (ap (λ (r : Ruling). r.number) (judge_on_lem s)) ∙ e))
    where
      no_number : (p : Progress) → (ruling p).number ≡ 0 → p.number ≡ 0
      no_number p e = elim (ℕ_discrete p.number 0) [ yes h ↦ h | no h ↦ absurd (h (refused_number p h e)) ]

pub every_run : EveryRun
every_run file clock small run l = accepts file (opened_read file clock l.opened) clock small run l.ticks

pub nothing_else : NothingElse
nothing_else file s bytes e clock small =
    let well = judge_reads file s e in
    let r = rejects_none file well s bytes e in
    let o = opened_state file well clock in
    let l = (from_clock file well 0 clock (omega arith) small r.0 r.1).0 in
    let n : (opening file clock).reply.number ≡ 0 = ap (λ (z : Opened). z.reply.number) (opening_read file well clock) in
    let f : LegalFrom file clock r.0 = record { opened = n; ticks = subst (λ (z : State). LegalRun file z r.0) (sym o) l } in
    (r.0, f, r.2, ap (judge file) (sym r.2) ∙ every_run file clock small r.0 f)

pub exactly : Exactly
unfolding accepted
exactly file s bytes clock small n = (
  (λ a.
      let r = nothing_else file s bytes a.0 clock small in
      (r.0, r.1, sym (ap (λ (z : Ruling). z.rows) r.3) ∙ a.1, r.2)),
  (λ r.
      let e = ap (judge file) (sym r.3) ∙ every_run file clock small r.0 r.1 in
      (ap (λ (z : Ruling). z.number) e, ap (λ (z : Ruling). z.rows) e ∙ r.2)),
)

pub one_run : OneRun
one_run file c d run other l m e = O.one_run file run other _ _ l.ticks m.ticks e

pub own_runs : OwnRuns
own_runs file clock small opened sets h = every_run file clock small _ (record { opened = opened; ticks = own_run_lem file (opened_read file clock opened) sets _ h })
