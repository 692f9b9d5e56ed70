-- RUNS OF A FILE, tick by tick, as demand 3 speaks of them: document 01, "For demand 3, a legal tick is ..", and document 02, M-108, "Steps that
-- end early", and M-109, "Deadlines longer than the period". Ticks are counted 0, 1, 2, .. in true time, which does not wrap; the machine's clock does.
use Rattle.std.specs.Prelude.{◌≡◌, true, List, ℕ, zero, suc, ◌+◌, ◌≤◌, ◌<◌, get_or}
use Rattle.graph.specs.Words.{bit}
use Rattle.table.specs.declared.Table.{Table}
use Rattle.table.specs.Memory.{T}
use Rattle.table.specs.Reading.{read}
use Rattle.machine.specs.declared.State.{State}
use Rattle.machine.specs.declared.Answer.{Answer}
use Rattle.machine.specs.declared.Ticked.{Ticked}
use Rattle.machine.specs.States.{opening}
use Rattle.machine.specs.Steps.{released, worked, own_choice, Legal}
use Rattle.machine.specs.Ticking.{advance_to, tick_by, tick}

-- the table that reading finds in a file
unfoldable pub table_of : List ℕ → Table
table_of file = (read file).table

-- A PLAN says of each tick x what is released, what it takes, and what runs
pub record Plan : Type 0 where
  -- the release set: bit i is task i
  pub rel : ℕ → ℕ
  -- the times of the jobs that are released: each vertex's at sixteen times task plus vertex
  pub times : ℕ → List ℕ
  -- the vertices that run, each as 64 * task + 16 * age place + vertex; age places are counted "once the tick's releases are made" (M-109)
  pub choice : ℕ → List ℕ

-- SPACING in the first N ticks, in true time and not by the machine's own waits
pub record Sporadic (t : Table) (rel : ℕ → ℕ) (N : ℕ) : Type 0 where
  -- a release set names only tasks of the file
  pub tasks : (x i : ℕ) → x < N → bit (rel x) i ≡ true → i < t.n
  -- of two releases of one task, at ticks x and y, the later comes at least its period T after the earlier
  pub apart : (i x y : ℕ) → x < y → y < N → bit (rel x) i ≡ true → bit (rel y) i ≡ true → x + T t i ≤ y

-- STEP 1 WITH OTHER TIMES: "Each named task becomes live, its costs remaining", where the costs are these. It reads those of named tasks alone, for their
-- new jobs: the jobs that are live already go on with what they drew.
unfoldable pub taking : Table → List ℕ → Table
taking t times = record { m = t.m; n = t.n; tasks = t.tasks; costs = times }

-- A KIND OF RUN: which times jobs may take, and the tick: on a file, a state, a release set, times and the vertices that run
pub record Kind : Type 1 where
  pub Times : Table → List ℕ → Type 0
  pub tick : List ℕ → State → ℕ → List ℕ → List ℕ → Ticked

-- STATED: each vertex takes its cost, and the tick is document 01's, with its refusals, and the plan's choice in step 3
abbrev pub stated : Kind
stated = record { Times = λ t times. times ≡ t.costs; tick = λ file st named times chosen. tick_by (λ t s. chosen) file st named }

-- EARLY (M-108): "at each release every vertex gets a time of its own, at least 1 and at most its cost (0 where the cost is 0)"
pub record Drawn (t : Table) (times : List ℕ) : Type 0 where
  pub most : (k : ℕ) → k < 256 → get_or times k 0 ≤ get_or t.costs k 0
  pub least : (k : ℕ) → k < 256 → 1 ≤ get_or t.costs k 0 → 1 ≤ get_or times k 0

-- "unknown to the scheduler until it ends": what is available goes by what has ended, as it stands in step 2, and the choice is any legal
-- one, so also one that knows no times. Only step 1 differs; steps 4 to 6 are document 01's. (That a state fits its table is not asked: what remains
-- is not the table's costs.) Each job draws times of its own, also where one of its task is live already.
abbrev pub early : Kind
early = record {
  Times = Drawn;
  tick = λ file st named times chosen. advance_to chosen (worked (table_of file) (released (taking (table_of file) times) st named) named chosen);
}

-- THE RUN of a file from a clock by a plan
module _ (kind : Kind) (file : List ℕ) (clock : ℕ) (plan : Plan) where
  -- tick x on a state
  unfoldable pub tick_at : ℕ → State → Ticked
  tick_at x st = kind.tick file st (plan.rel x) (plan.times x) (plan.choice x)

  -- the state before tick x: at first "an idle machine", "a state just opened, at any clock"; later what the tick before hands back
  unfoldable pub state_at : ℕ → State
  state_at zero = (opening file clock).state
  state_at (suc x) = (tick_at x (state_at x)).state

  -- the state within tick x, after step 1: its releases are made, and nothing has run
  unfoldable pub mid_at : ℕ → State
  mid_at x = released (taking (table_of file) (plan.times x)) (state_at x) (plan.rel x)

  -- what tick x answers
  unfoldable pub answer_at : ℕ → Answer
  answer_at x = (tick_at x (state_at x)).answer

  -- before tick x every choice was legal
  abbrev pub LegalBefore : ℕ → Type 0
  LegalBefore x = (y : ℕ) → y < x → Legal (table_of file) (mid_at y) (plan.choice y)

-- THE MACHINE'S OWN RUN: the tick that chooses the first m in rank
module _ (file : List ℕ) (clock : ℕ) (rel : ℕ → ℕ) where
  unfoldable pub own_state : ℕ → State
  own_state zero = (opening file clock).state
  own_state (suc x) = (tick file (own_state x) (rel x)).state

  unfoldable pub own_mid : ℕ → State
  own_mid x = released (table_of file) (own_state x) (rel x)

  unfoldable pub own_answer : ℕ → Answer
  own_answer x = (tick file (own_state x) (rel x)).answer

  -- by its own choices and the stated costs it is the run of a plan (`own_is_planned`, proofs/OwnRun.antt)
  unfoldable pub own_plan : Plan
  own_plan = record { rel = rel; times = λ x. (table_of file).costs; choice = λ x. own_choice (table_of file) (own_mid x) }
