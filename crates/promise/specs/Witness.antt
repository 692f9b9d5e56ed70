-- DEMAND 3 IS NOT EMPTY, with several live jobs of a task (document 02, M-109): two files in which D is four times T and the smallest margin is 0, clocks that
-- wrap, and runs that meet all that the demand asks. In the first, with stated costs, three jobs of a task are live at once and choices differ from the
-- machine's own; in the second, where steps end early, a younger job of a task ends before an older one.
use Rattle.std.specs.Prelude.{◌≡◌, true, false, List, [], ◌∷◌, ℕ, ◌+◌, ◌*◌, ◌^◌, ◌≤◌, ◌<◌, get_or, pos}
use Rattle.graph.specs.Words.{bit, is_in}
use Rattle.table.specs.Memory.{D, T}
use Rattle.verdict.specs.Verdicts.{verdict}
use Rattle.machine.specs.States.{jobs_of, left}
use Rattle.machine.specs.Steps.{own_choice}
use Rattle.promise.specs.Runs.{table_of, Plan, Sporadic, stated, early, Drawn, mid_at, answer_at, LegalBefore}
use Rattle.promise.specs.Demand3.{Kept, OldAccepts, none}

-- four ticks before the clock's round is full
unfoldable pub late_clock : ℕ
late_clock = 4294967292

-- THREE AT ONCE: one processor and two tasks of one vertex each. Task 0: D 8, T 2, cost 1; task 1: D 8, T 8, cost 4.
unfoldable pub file_long : List ℕ
file_long =
    0x54 ∷ 0x42 ∷ 1 ∷ 2
    ∷ 0x54 ∷ 0x4B ∷ 1 ∷ 0 ∷ 8 ∷ 0 ∷ 0 ∷ 0 ∷ 2 ∷ 0 ∷ 0 ∷ 0 ∷ 1 ∷ 0 ∷ 0 ∷ 0
    ∷ 0x54 ∷ 0x4B ∷ 1 ∷ 0 ∷ 8 ∷ 0 ∷ 0 ∷ 0 ∷ 8 ∷ 0 ∷ 0 ∷ 0 ∷ 4 ∷ 0 ∷ 0 ∷ 0 ∷ []

-- task 0 is released every other tick, task 1 at the first
unfoldable pub long_releases : ℕ → ℕ
long_releases x = get_or (3 ∷ 0 ∷ 1 ∷ 0 ∷ 1 ∷ 0 ∷ 1 ∷ 0 ∷ []) x 0

-- of equal ticks left task 1, 64, goes first, until it ends; then the oldest job of task 0, at age place 0, in each tick
unfoldable pub long_choices : ℕ → List ℕ
long_choices x = get_or ((64 ∷ []) ∷ (64 ∷ []) ∷ (64 ∷ []) ∷ (64 ∷ []) ∷ (0 ∷ []) ∷ (0 ∷ []) ∷ (0 ∷ []) ∷ (0 ∷ []) ∷ []) x []

unfoldable pub long_plan : Plan
long_plan = record { rel = long_releases; times = λ x. (table_of file_long).costs; choice = long_choices }

pub record Witness : Type 0 where
  -- what the demand asks: an accepted file, a clock, releases that are spaced, and legal choices
  pub accepted : OldAccepts file_long
  pub small : late_clock < 2 ^ 32
  pub sporadic : (N : ℕ) → Sporadic (table_of file_long) long_releases N
  pub legal : LegalBefore stated file_long late_clock long_plan 8
  -- what it promises
  pub kept : (x : ℕ) → x ≤ 8
      → Kept (table_of file_long) (none (table_of file_long)) long_releases (mid_at stated file_long late_clock long_plan) (answer_at stated file_long late_clock long_plan) x
  -- that it is no idle run: the margin is 0, D is four times T, the clock wraps
  pub tight : (verdict file_long).margin ≡ pos 0
  pub long : D (table_of file_long) 0 ≡ 4 * T (table_of file_long) 0
  pub wraps : 2 ^ 32 < late_clock + 8
  -- in tick 0 the machine would choose task 0; the run chooses task 1, with as many ticks left
  pub otherwise : (is_in 0 (own_choice (table_of file_long) (mid_at stated file_long late_clock long_plan 0)) ≡ true) × (is_in 0 (long_choices 0) ≡ false)
  -- within tick 4 three jobs of task 0 are live
  pub three : jobs_of (mid_at stated file_long late_clock long_plan 4) 0 ≡ 3

-- A YOUNGER JOB ENDS FIRST: three processors and one task of one vertex, D 8, T 2, cost 4
unfoldable pub file_wide : List ℕ
file_wide = 0x54 ∷ 0x42 ∷ 3 ∷ 1 ∷ 0x54 ∷ 0x4B ∷ 1 ∷ 0 ∷ 8 ∷ 0 ∷ 0 ∷ 0 ∷ 2 ∷ 0 ∷ 0 ∷ 0 ∷ 4 ∷ 0 ∷ 0 ∷ 0 ∷ []

unfoldable pub wide_releases : ℕ → ℕ
wide_releases x = get_or (1 ∷ 0 ∷ 1 ∷ 0 ∷ 1 ∷ []) x 0

-- the first job draws all of its cost, the second one tick, the third two; where nothing is released nothing is drawn, and any times will do
unfoldable pub wide_times : ℕ → List ℕ
wide_times x = get_or ((4 ∷ []) ∷ (4 ∷ []) ∷ (1 ∷ []) ∷ (4 ∷ []) ∷ (2 ∷ []) ∷ []) x (4 ∷ [])

-- in tick 2 the jobs at age places 0 and 1 run
unfoldable pub wide_choices : ℕ → List ℕ
wide_choices x = get_or ((0 ∷ []) ∷ (0 ∷ []) ∷ (0 ∷ 16 ∷ []) ∷ (0 ∷ []) ∷ (0 ∷ []) ∷ (0 ∷ []) ∷ []) x []

unfoldable pub wide_plan : Plan
wide_plan = record { rel = wide_releases; times = wide_times; choice = wide_choices }

pub record EarlyWitness : Type 0 where
  -- what the demand asks: besides, times that are drawn within the costs
  pub accepted : OldAccepts file_wide
  pub small : late_clock < 2 ^ 32
  pub sporadic : (N : ℕ) → Sporadic (table_of file_wide) wide_releases N
  pub drawn : (x : ℕ) → Drawn (table_of file_wide) (wide_times x)
  pub legal : LegalBefore early file_wide late_clock wide_plan 10
  -- what it promises
  pub kept : (x : ℕ) → x ≤ 10
      → Kept (table_of file_wide) (none (table_of file_wide)) wide_releases (mid_at early file_wide late_clock wide_plan) (answer_at early file_wide late_clock wide_plan) x
  pub tight : (verdict file_wide).margin ≡ pos 0
  pub wraps : 2 ^ 32 < late_clock + 10
  -- within tick 2 two jobs of task 0 are live, released at ticks 0 and 2
  pub two : (jobs_of (mid_at early file_wide late_clock wide_plan 2) 0 ≡ 2)
      × (left (mid_at early file_wide late_clock wide_plan 2) 0 0 + 2 ≡ 0 + D (table_of file_wide) 0)
      × (left (mid_at early file_wide late_clock wide_plan 2) 0 1 + 2 ≡ 2 + D (table_of file_wide) 0)
  -- one of them ends in tick 2; within tick 3 there is one, and it is that of tick 0
  pub younger_first : (bit (answer_at early file_wide late_clock wide_plan 2).finished 0 ≡ true)
      × (jobs_of (mid_at early file_wide late_clock wide_plan 3) 0 ≡ 1)
      × (left (mid_at early file_wide late_clock wide_plan 3) 0 0 + 3 ≡ 0 + D (table_of file_wide) 0)
