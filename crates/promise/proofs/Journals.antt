-- AN ACCEPTED TABLE with an accepted journal has no miss: a legal tick of a safe state is answered 0 and leads to a safe state.
use mathlib.Core.Path.{◌≡◌, refl, sym, ap, subst, ◌∙◌}
use mathlib.Core.Bool.{true}
use mathlib.Core.List.{List, [], ◌∷◌}
use Prim.Native.Nat.{ℕ, ◌^◌, ◌<◌}
use native.Mathlib.Omega.{arith}
use lib.Dec.{eqb}
use Rattle.graph.specs.Words.{bit}
use Rattle.table.specs.declared.Table.{Table}
use Rattle.table.specs.declared.Outcome.TheVariants.{Read}
use Rattle.table.specs.Reading.{read}
use Rattle.machine.specs.declared.State.{State}
use Rattle.machine.specs.declared.Ticked.{Ticked}
use Rattle.machine.specs.States.{wait, opening}
use Rattle.machine.specs.Steps.{released, worked, ended, finished}
use Rattle.machine.specs.Ticking.{ticked, advance, tick_on}
use Rattle.machine.proofs.Cases.{Admitted, admitted_advances}
use Rattle.journal.specs.declared.Ruling.{Ruling}
use Rattle.journal.specs.Runs.{Tick, tick_with, answer_of, LegalTick, LegalRun, last_answer, last_missed}
use Rattle.journal.specs.Accepting as A
use Rattle.journal.proofs.Ticks.{legal_admitted, named_tasks, named_free}
use Rattle.journal.proofs.Accepts.{nothing_else}
use Rattle.promise.specs.Runs.{table_of, taking}
use Rattle.promise.specs.Demand3.{OldAccepts, SharpAccepts, none}
use Rattle.promise.specs.Journals.{EachAnswered0, NoMissInRuns, NoMissInJournals}
use Rattle.promise.proofs.Certified.{Certified, Backed, old_backed}
use Rattle.promise.proofs.Sharpened.{sharp_backed}
use Rattle.promise.proofs.Costs.{stated_drawn}
use Rattle.promise.proofs.Moves.{opens, ticks}
use Rattle.promise.proofs.Safe as S
use Rattle.promise.proofs.Safe.{Safe, opened_safe}

module _ (file : List ℕ) (well : (read file).outcome ≡ Read) (spare : ℕ → ℕ) (cert : Certified (table_of file) spare) where
  abbrev t : Table
  t = table_of file

  module _ (st : State) (p : Safe t st) (x : Tick) (l : LegalTick file st x) where
    ok : Admitted (λ u s. x.chosen) t st x.named
    unfolding table_of
    ok = legal_admitted file well st x l

    tasks : (i : ℕ) → bit x.named i ≡ true → i < t.n
    tasks = named_tasks (λ u s. x.chosen) t st x.named l.bits ok

    free : (i : ℕ) → bit x.named i ≡ true → wait st i ≡ 0
    free = named_free (λ u s. x.chosen) t st x.named l.bits ok

    on_file : tick_with file st x ≡ tick_on (λ u s. x.chosen) t st x.named
    unfolding tick_with
    on_file = ticks file well (λ u s. x.chosen) st x.named

    goes : tick_with file st x ≡ ticked 0 255 x.chosen (finished (worked t (released t st x.named) x.named x.chosen))
        (ended (worked t (released t st x.named) x.named x.chosen))
    unfolding advance taking table_of
    goes = on_file ∙ admitted_advances (λ u s. x.chosen) t st x.named ok
        ∙ S.goes t spare cert st p x.named tasks free t.costs (stated_drawn t t.costs (λ k b. refl)) x.chosen l.choice

    answered : answer_of (tick_with file st x) ≡ 0
    unfolding answer_of ticked
    answered = ap (λ (z : Ticked). z.answer.reply.number) goes

    next_safe : Safe t (tick_with file st x).state
    unfolding ticked taking table_of
    next_safe = subst (Safe t) (sym (ap (λ (z : Ticked). z.state) goes))
        (S.after_safe t spare cert st p x.named tasks free t.costs (stated_drawn t t.costs (λ k b. refl)) x.chosen l.choice)

  all_answered : (run : List Tick) (st : State) → Safe t st → LegalRun file st run → EachAnswered0 file st run
  unfolding LegalRun EachAnswered0
  all_answered [] st p l = tt
  all_answered (x ∷ run) st p l = (answered st p x l.0, all_answered run (tick_with file st x).state (next_safe st p x l.0) l.1)

  opened : (c : ℕ) → c < 2 ^ 32 → Safe t (opening file c).state
  opened c small = rw (opens file well c) (opened_safe t cert.good c small)

pub no_miss_in_runs_by : (Accepts : List ℕ → Type 0) (spare : Table → ℕ → ℕ) → Backed Accepts spare → NoMissInRuns Accepts
no_miss_in_runs_by Accepts spare backed file v c small run l =
    let b = backed file v in
    all_answered file b.0 (spare (table_of file)) b.1 run _ (opened file b.0 (spare (table_of file)) b.1 c small) l.ticks

last_0 : (file : List ℕ) (run : List Tick) (st : State) → EachAnswered0 file st run → last_answer file st 0 run ≡ 0
unfolding EachAnswered0 last_answer
last_0 file [] st h = refl
last_0 file (x ∷ run) st h = ap (λ (n : ℕ). last_answer file (tick_with file st x).state n run) h.0 ∙ last_0 file run (tick_with file st x).state h.1

pub no_miss_in_journals_by : (Accepts : List ℕ → Type 0) → NoMissInRuns Accepts → NoMissInJournals Accepts
unfolding A.accepted last_missed
no_miss_in_journals_by Accepts runs file s bytes v e =
    let r = nothing_else file s bytes e 0 (omega arith) in
    ap (λ (z : Ruling). z.missed) r.3 ∙ ap (λ (n : ℕ). eqb n 34) (last_0 file r.0 _ (runs file v 0 (omega arith) r.0 r.1))

pub no_miss_in_runs : NoMissInRuns OldAccepts
no_miss_in_runs = no_miss_in_runs_by OldAccepts none old_backed

pub no_miss_in_runs_sharp : NoMissInRuns SharpAccepts
no_miss_in_runs_sharp = no_miss_in_runs_by SharpAccepts none sharp_backed

pub no_miss_in_journals : NoMissInJournals OldAccepts
no_miss_in_journals = no_miss_in_journals_by OldAccepts no_miss_in_runs

pub no_miss_in_journals_sharp : NoMissInJournals SharpAccepts
no_miss_in_journals_sharp = no_miss_in_journals_by SharpAccepts no_miss_in_runs_sharp
