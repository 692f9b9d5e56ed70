-- DEMAND 3 IS NOT EMPTY: a file whose smallest margin is 0, a clock that wraps, and a run of 30 ticks that meets all that the
-- demand asks, in which choices differ from the machine's own.
use Rattle.std.specs.Prelude.{◌≡◌, true, false, List, [], ◌∷◌, ◌++◌, ℕ, ◌+◌, ◌^◌, ◌≤◌, ◌<◌, get_or, take, pos}
use Rattle.graph.specs.Words.{bit, sum, flag, is_in}
use Rattle.verdict.specs.Verdicts.{verdict}
use Rattle.machine.specs.Steps.{availables, own_choice}
use Rattle.promise.specs.Runs.{table_of, Plan, Sporadic, stated, mid_at, answer_at, LegalBefore}
use Rattle.promise.specs.Demand3.{Kept, OldAccepts, none}
use Rattle.examples.specs.Examples.{file_a}

-- six ticks before the clock's round is full
unfoldable pub some_clock : ℕ
some_clock = 4294967290

-- thirteen ticks of a run: both tasks are released at the first, task 1 again at the seventh
unfoldable pub round_releases : List ℕ
round_releases = 3 ∷ 0 ∷ 0 ∷ 0 ∷ 0 ∷ 0 ∷ 2 ∷ 0 ∷ 0 ∷ 0 ∷ 0 ∷ 0 ∷ 0 ∷ []

-- what each tick chooses, a vertex as 64 times task plus vertex (each job is its task's oldest); of equal ticks left the higher vertex first. At the
-- seventh task 1's vertex 1, 65, passes vertex 0, 64
unfoldable pub round_choices : List (List ℕ)
round_choices =
    (65 ∷ 64 ∷ []) ∷ (65 ∷ 64 ∷ []) ∷ (0 ∷ []) ∷ (0 ∷ []) ∷ (2 ∷ 1 ∷ []) ∷ (1 ∷ [])
    ∷ (1 ∷ 65 ∷ []) ∷ (65 ∷ 64 ∷ []) ∷ (64 ∷ []) ∷ [] ∷ [] ∷ [] ∷ [] ∷ []

-- twice that, and the first four ticks of a third time; from tick 30 on nothing is released
unfoldable pub some_releases : ℕ → ℕ
some_releases x = get_or (round_releases ++ round_releases ++ take 4 round_releases) x 0

unfoldable pub some_choices : ℕ → List ℕ
some_choices x = get_or (round_choices ++ round_choices ++ take 4 round_choices) x []

unfoldable pub some_plan : Plan
some_plan = record { rel = some_releases; times = λ x. (table_of file_a).costs; choice = some_choices }

-- the vertices available within tick x, and what the machine itself would choose
abbrev pub available_at : ℕ → List ℕ
available_at x = availables (table_of file_a) (mid_at stated file_a some_clock some_plan x)

abbrev pub own_at : ℕ → List ℕ
own_at x = own_choice (table_of file_a) (mid_at stated file_a some_clock some_plan x)

pub record Witness : Type 0 where
  -- what the demand asks: an accepted file, a clock, releases that are spaced, and legal choices
  pub accepted : OldAccepts file_a
  pub small : some_clock < 2 ^ 32
  pub sporadic : (N : ℕ) → Sporadic (table_of file_a) some_releases N
  pub legal : LegalBefore stated file_a some_clock some_plan 30
  -- what it promises
  pub kept : (x : ℕ) → x ≤ 30 → Kept (table_of file_a) (none (table_of file_a)) some_releases (mid_at stated file_a some_clock some_plan) (answer_at stated file_a some_clock some_plan) x
  -- that it is no idle run: the margin is 0, the clock wraps, each task is released three times or more
  pub tight : (verdict file_a).margin ≡ pos 0
  pub wraps : 2 ^ 32 < some_clock + 30
  pub often : (i : ℕ) → i < (table_of file_a).n → 3 ≤ sum 30 (λ x. flag (bit (some_releases x) i))
  -- in tick 0 vertex 0 of task 0, which is available, is passed over
  pub passed_over : (is_in 0 (available_at 0) ≡ true) × (is_in 0 (some_choices 0) ≡ false)
  -- in tick 6 the machine would choose task 1's vertex 0, 64; the run chooses another with as many ticks left
  pub otherwise : (is_in 64 (own_at 6) ≡ true) × (is_in 64 (some_choices 6) ≡ false)
