-- SPACING IN TRUE TIME, for every file that is read, accepted or not. Document 01, "Errors that look right": "Spacing found by subtracting
-- a stored release tick: wrong after an idle spell longer than the clock's round." The machine's spacing is right after any idle spell, and while jobs of
-- the task are live: "The task keeps its wait apart from its jobs" (M-109).
use Rattle.std.specs.Prelude.{◌≡◌, ◌⊎◌, true, List, ℕ, ◌+◌, ◌≤◌, ◌<◌}
use Rattle.graph.specs.Words.{bit}
use Rattle.table.specs.declared.Table.{Table}
use Rattle.table.specs.declared.Outcome.TheVariants.{Read}
use Rattle.table.specs.Memory.{T}
use Rattle.table.specs.Reading.{read}
use Rattle.machine.specs.declared.State.{State}
use Rattle.machine.specs.declared.Ticked.{Ticked}
use Rattle.machine.specs.States.{wait}
use Rattle.machine.specs.Ticking.{tick_by}
use Rattle.promise.specs.Demand3.{EachAnswered}
use Rattle.promise.specs.Runs.{table_of, Plan, stated, state_at, answer_at}

-- A STATED RUN, as demand 3 counts its ticks, all answered 0 before tick x; whatever is chosen. (A refused tick leaves the state as it was.)
abbrev pub AnsweredBefore : List ℕ → ℕ → Plan → ℕ → Type 0
AnsweredBefore file clock plan x = EachAnswered (answer_at stated file clock plan) x

-- THE WAIT of task i before tick x
pub record TrueWait (t : Table) (rel : ℕ → ℕ) (x i wait : ℕ) : Type 0 where
  -- it runs until T after each release, or longer
  pub long_enough : (a : ℕ) → a < x → bit (rel a) i ≡ true → a + T t i ≤ x + wait
  -- and no longer than until T after one of them
  pub no_longer : 1 ≤ wait → (a : ℕ) × (a < x) × (bit (rel a) i ≡ true) × (a + T t i ≡ x + wait)

abbrev pub TrueWaits : Type 0
TrueWaits =
    (file : List ℕ) → (read file).outcome ≡ Read
    → (clock : ℕ) (plan : Plan) (x : ℕ) → AnsweredBefore file clock plan x
    → (i : ℕ) → i < 16 → TrueWait (table_of file) plan.rel x i (wait (state_at stated file clock plan x) i)

-- task i was released less than T ticks before tick x
abbrev pub ReleasedWithin : Table → (ℕ → ℕ) → ℕ → ℕ → Type 0
ReleasedWithin t rel x i = (a : ℕ) × (a < x) × (bit (rel a) i ≡ true) × (x < a + T t i)

-- A NEXT TICK, with any release set and any choice
pub record Spaces (t : Table) (rel : ℕ → ℕ) (x named : ℕ) (answer : Ticked) : Type 0 where
  -- where it is refused with 33, the task that is named was released within its T
  pub refused : answer.answer.reply.number ≡ 33
      → (bit named answer.answer.reply.task ≡ true) × ReleasedWithin t rel x answer.answer.reply.task
  -- where it goes on, with 0 or with 34, no task of its release set was
  pub taken : (answer.answer.reply.number ≡ 0) ⊎ (answer.answer.reply.number ≡ 34)
      → (i : ℕ) → i < 16 → bit named i ≡ true → ReleasedWithin t rel x i → ⊥

abbrev pub TrueSpacing : Type 0
TrueSpacing =
    (file : List ℕ) → (read file).outcome ≡ Read
    → (clock : ℕ) (plan : Plan) (x : ℕ) → AnsweredBefore file clock plan x
    → (choose : Table → State → List ℕ) (named : ℕ)
    → Spaces (table_of file) plan.rel x named (tick_by choose file (state_at stated file clock plan x) named)
