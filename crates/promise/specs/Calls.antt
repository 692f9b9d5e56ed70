-- DEMAND 3 OVER THE FUNCTIONS' CONTRACTS, as the checker reads them from the source: where the function of a verdict, `open`, `tick` and
-- `tick_in_place` return what their contracts allow, demand 3's promises hold of the states and answers that they returned. An engineer who believes
-- that each call returned within its contract needs no more. No definition of the tick is named here but step 1's (`released`), since the promise of
-- the chains speaks of the state within a tick, its releases made. Proved in proofs/Called.
--
-- The promises are plain ones, and not only "it is not otherwise". The contracts of `verdict_of`, `open` and `tick` are equations, each between
-- the result and what a definition computes. The contract of `tick_in_place`, which is lent a state, is an assertion about memory: it says that
-- its two equations hold, and hands out no proof of them. But answers and states are built from numbers, so that whether two are equal is found by
-- comparing them; where it is asserted that they are equal the comparison cannot find otherwise, so it gives the equation itself (proofs/Same).
use Rattle.std.specs.Prelude.{◌≡◌, true, List, ℕ, suc, ◌+◌, ◌-◌, ◌^◌, ◌≤◌, ◌<◌}
use seplogic.Ra.Ura.{Ura}
use base.Logic.{SProp}
use prog.Memory.{Memory}
use prog.Routine.{Routine}
use types.Logic.{Logic}
use contract.Monad.{Fun}
use contract.Lifetimes.{Lfts}
use denote.Triple.Entry.{Args}
use denote.Triple.Clauses.{AtExit}
use borrow.Fn.Kinds.{Dens, ended_of}
use Rattle.graph.specs.Words.{bit}
use Rattle.table.specs.declared.Table.{Table}
use Rattle.table.specs.Memory.{D}
use Rattle.verdict.specs.declared.Verdict.{Verdict}
use Rattle.verdict.proofs.verdict_of.Kinds as verdict-kinds
use Rattle.verdict.proofs.verdict_of.Reads as verdict-reads
use Rattle.sharp.proofs.sharp_of.Kinds as sharp-kinds
use Rattle.sharp.proofs.sharp_of.Reads as sharp-reads
use Rattle.machine.specs.declared.State.{State}
use Rattle.machine.specs.declared.Opened.{Opened}
use Rattle.machine.specs.declared.Answer.{Answer}
use Rattle.machine.specs.declared.Ticked.{Ticked}
use Rattle.machine.proofs.open.Kinds as open-kinds
use Rattle.machine.proofs.open.Reads as open-reads
use Rattle.machine.proofs.State.tick.Kinds as tick-kinds
use Rattle.machine.proofs.State.tick.Reads as tick-reads
use Rattle.machine.specs.contracts.tick_in_place as in_place
use Rattle.machine.specs.Steps.{released}
use Rattle.promise.specs.Runs.{table_of, Sporadic}
use Rattle.promise.specs.Demand3.{Within, EachAnswered, Ends}

-- WHAT A CALL MAY RETURN, a record for each function. It says that there was a call: lifetimes for the references that it was lent (`lifetimes`),
-- its arguments (`args`) and what was lent as it stands at the return (`exit`). It says which arguments those are: a slice is the list of its bytes
-- at the call, a number and a state are themselves. And it says that the contract allows the result (`allowed`): with these arguments and this result
-- what stands under `ensures` in the source holds.
-- `verdict_of` on a file's bytes
pub record Judges (file : List ℕ) (v : Verdict) : Type 1 where
  pub lifetimes : Lfts 1
  pub args : Dens lifetimes verdict-kinds.ps
  pub exit : AtExit (ended_of 1 verdict-kinds.ps verdict-kinds.r) lifetimes
  pub bytes : args.0.now ≡ file
  pub allowed : verdict-reads.Post lifetimes args v exit

-- `sharp_of` on a file's bytes
pub record SharpJudges (file : List ℕ) (v : Verdict) : Type 1 where
  pub lifetimes : Lfts 1
  pub args : Dens lifetimes sharp-kinds.ps
  pub exit : AtExit (ended_of 1 sharp-kinds.ps sharp-kinds.r) lifetimes
  pub bytes : args.0.now ≡ file
  pub allowed : sharp-reads.Post lifetimes args v exit

-- `open` on a file's bytes and a clock
pub record Opens (file : List ℕ) (clock : ℕ) (o : Opened) : Type 1 where
  pub lifetimes : Lfts 1
  pub args : Dens lifetimes open-kinds.ps
  pub exit : AtExit (ended_of 1 open-kinds.ps open-kinds.r) lifetimes
  pub bytes : args.0.now ≡ file
  pub clock_is : args.1.0 ≡ clock
  pub allowed : open-reads.Post lifetimes args o exit

-- `tick` of a state, on a file's bytes and a release set
pub record Ticks (file : List ℕ) (st : State) (named : ℕ) (x : Ticked) : Type 1 where
  pub lifetimes : Lfts 1
  pub args : Dens lifetimes tick-kinds.ps
  pub exit : AtExit (ended_of 1 tick-kinds.ps tick-kinds.r) lifetimes
  pub self_is : args.0 ≡ st
  pub bytes : args.1.0.now ≡ file
  pub named_is : args.1.1.0 ≡ named
  pub allowed : tick-reads.Post lifetimes args x exit

-- `tick_in_place` on a state that it is lent: a is its answer, and next is the lent state at the return. The checker reads this contract as an
-- assertion about memory, in any model of its logic: a type of resources with its algebra and the logic over it, and what memory and routines are
-- in it. The contract allows the return where the assertion holds of some resource in some model. Which they are does not matter, so nothing more
-- is asked of them: the less is asked here, the more calls the promises cover.
pub record Moves (file : List ℕ) (st : State) (named : ℕ) (a : Answer) (next : State) : Type 2 where
  pub lifetimes : Lfts 2
  pub args : Args in_place.signature lifetimes
  pub exit : AtExit in_place.ended lifetimes
  pub state_is : args.0.now ≡ st
  pub bytes : args.1.0.now ≡ file
  pub named_is : args.1.1.0 ≡ named
  pub next_is : exit.0.now ≡ next
  pub Resource : Type 1
  pub algebra : Ura Resource
  pub 𝓛 : Logic algebra
  pub memory : Memory → SProp algebra
  pub routines : Routine → Fun algebra
  pub resource : Resource
  pub allowed : ((in_place.clauses 𝓛 memory routines lifetimes args).ensures tt a exit).holds resource

-- A STEP: one tick of a state, by value or in place, with its answer and the state after it
pub data Step (file : List ℕ) (st : State) (named : ℕ) (a : Answer) (next : State) : Type 2 where
  by_value : (x : Ticked) → Ticks file st named x → x.answer ≡ a → x.state ≡ next → Step file st named a next
  on_lent : Moves file st named a next → Step file st named a next

-- A RUN of N ticks: `open` on the file and the clock, whatever it answered; then tick x, for each x < N, on the state that the call before it
-- left, with the release set named x. Each may be by value or in place. The three functions are given for every number, but nothing is asked of
-- states past the last call, nor of release sets and answers from N on: they belong to no call.
pub record Run (file : List ℕ) (clock N : ℕ) : Type 2 where
  pub opened : Opened
  pub opens : Opens file clock opened
  -- the state before tick x
  pub state : ℕ → State
  pub first : state 0 ≡ opened.state
  pub named : ℕ → ℕ
  pub answer : ℕ → Answer
  pub steps : (x : ℕ) → x < N → Step file (state x) (named x) (answer x) (state (suc x))

-- A VERDICT THAT ACCEPTS, by what its function returned: `verdict_of` on the file, with number 0
pub record SaidYes (file : List ℕ) : Type 1 where
  pub said : Verdict
  pub judges : Judges file said
  pub yes : said.number ≡ 0

-- the sharp verdict: `sharp_of` on the file, with number 0
pub record SharpSaidYes (file : List ℕ) : Type 1 where
  pub said : Verdict
  pub judges : SharpJudges file said
  pub yes : said.number ≡ 0

-- WHAT IS PROMISED of a run of N ticks: demand 3's promises, of the states and answers that the calls returned
pub record CallsKept (t : Table) (spare : ℕ → ℕ) (named : ℕ → ℕ) (state : ℕ → State) (answer : ℕ → Answer) (N : ℕ) : Type 0 where
  -- within each tick, its releases made and nothing run: no chain of a live job is longer than its ticks left, it stems from a release, and of two of one
  -- task the older is due a period or more before the younger
  pub within : (x : ℕ) → x < N → Within t spare named x (released t (state x) (named x))
  -- each call is answered 0
  pub answered : EachAnswered answer N
  -- in true time: a job that one of the calls released ends before its deadline, where the run goes as far; and it is live in no tick after that, up to the
  -- last call's
  pub finished : (i a : ℕ) → a < N → bit (named a) i ≡ true → a + D t i ≤ N
      → (y : ℕ) × (a ≤ y) × (y < a + D t i) × Ends t (λ x. released t (state x) (named x)) answer (N - 1) i a y

-- THE DEMAND OVER THE CONTRACTS: a file that a verdict's function accepts, opened at any clock of 32 bits and ticked N times with spaced releases,
-- each call returning what its contract allows: the promises hold of the run. Yes says that the verdict's function accepts; spare is the time that
-- each job keeps free, as in specs/Demand3.
abbrev pub CallsDemand3 : (List ℕ → Type 1) → (Table → ℕ → ℕ) → Type 2
CallsDemand3 Yes spare =
    (file : List ℕ) → Yes file
    → (clock : ℕ) → clock < 2 ^ 32
    → (N : ℕ) (run : Run file clock N) → Sporadic (table_of file) run.named N
    → CallsKept (table_of file) (spare (table_of file)) run.named run.state run.answer N

-- AND OF RELEASES THAT NOBODY SPACED, any sets of sixteen bits: no tick is answered 34
abbrev pub CallsNever34 : (List ℕ → Type 1) → Type 2
CallsNever34 Yes =
    (file : List ℕ) → Yes file
    → (clock : ℕ) → clock < 2 ^ 32
    → (N : ℕ) (run : Run file clock N) → ((x : ℕ) → x < N → run.named x < 2 ^ 16)
    → (x : ℕ) → x < N → (run.answer x).reply.number ≡ 34 → ⊥
