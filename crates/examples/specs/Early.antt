-- DEMAND 3 IS NOT EMPTY WHERE STEPS END EARLY (document 02, M-108): the same file, a clock that wraps, and a run of 26 ticks in which times are drawn
-- below the costs and a choice differs from the machine's own.
use Rattle.std.specs.Prelude.{◌≡◌, true, false, List, [], ◌∷◌, ◌++◌, ℕ, ◌+◌, ◌^◌, ◌≤◌, ◌<◌, get_or, replicate, take}
use Rattle.graph.specs.Words.{bit, is_in}
use Rattle.table.specs.Memory.{cost}
use Rattle.machine.specs.Steps.{availables, own_choice}
use Rattle.promise.specs.Runs.{table_of, Plan, Sporadic, early, Drawn, mid_at, answer_at, LegalBefore}
use Rattle.promise.specs.Demand3.{Kept, OldAccepts, none}
use Rattle.examples.specs.Examples.{file_a}
use Rattle.examples.specs.Witness.{some_clock}

-- times for table A: three vertices of task 0, whose costs are 2, 3 and 1, and two of task 1, whose costs are 2 and 2
unfoldable pub times_a : ℕ → ℕ → ℕ → ℕ → ℕ → List ℕ
times_a a b c d e = a ∷ b ∷ c ∷ (replicate 13 0 ++ (d ∷ e ∷ []))

-- where nothing is released nothing is drawn: any times will do
unfoldable pub at_least : List ℕ
at_least = times_a 1 1 1 1 1

-- twelve ticks of a run: task 1 is released at the first and the seventh, task 0 at the sixth
unfoldable pub early_round : List ℕ
early_round = 2 ∷ 0 ∷ 0 ∷ 0 ∷ 0 ∷ 1 ∷ 2 ∷ 0 ∷ 0 ∷ 0 ∷ 0 ∷ 0 ∷ []

-- what the releases draw: task 1 takes 2 and 1, then 1 and 2; task 0 takes 1, 2 and 1
unfoldable pub early_draws : List (List ℕ)
early_draws =
    times_a 1 1 1 2 1 ∷ at_least ∷ at_least ∷ at_least ∷ at_least ∷ times_a 1 2 1 1 1
    ∷ times_a 1 1 1 1 2 ∷ at_least ∷ at_least ∷ at_least ∷ at_least ∷ at_least ∷ []

-- what each tick chooses; at the eighth task 0's vertex 2 passes vertex 1, which has as many ticks left
unfoldable pub early_picks : List (List ℕ)
early_picks =
    (65 ∷ 64 ∷ []) ∷ (64 ∷ []) ∷ [] ∷ [] ∷ [] ∷ (0 ∷ [])
    ∷ (65 ∷ 64 ∷ []) ∷ (65 ∷ 2 ∷ []) ∷ (1 ∷ []) ∷ (1 ∷ []) ∷ [] ∷ [] ∷ []

-- twice that, and the first two ticks of a third time; from tick 26 on nothing is released
unfoldable pub early_releases : ℕ → ℕ
early_releases x = get_or (early_round ++ early_round ++ take 2 early_round) x 0

unfoldable pub early_times : ℕ → List ℕ
early_times x = get_or (early_draws ++ early_draws ++ take 2 early_draws) x at_least

unfoldable pub early_choices : ℕ → List ℕ
early_choices x = get_or (early_picks ++ early_picks ++ take 2 early_picks) x []

unfoldable pub early_plan : Plan
early_plan = record { rel = early_releases; times = early_times; choice = early_choices }

pub record EarlyWitness : Type 0 where
  -- what the demand asks: an accepted file, a clock, releases that are spaced, times that are drawn within the costs, and legal choices
  pub accepted : OldAccepts file_a
  pub small : some_clock < 2 ^ 32
  pub sporadic : (N : ℕ) → Sporadic (table_of file_a) early_releases N
  pub drawn : (x : ℕ) → Drawn (table_of file_a) (early_times x)
  pub legal : LegalBefore early file_a some_clock early_plan 26
  -- what it promises
  pub kept : (x : ℕ) → x ≤ 26 → Kept (table_of file_a) (none (table_of file_a)) early_releases (mid_at early file_a some_clock early_plan) (answer_at early file_a some_clock early_plan) x
  -- that it is no idle run: the clock wraps
  pub wraps : 2 ^ 32 < some_clock + 26
  -- the release of tick 5 draws 1 for vertex 0, whose cost is 2: so vertex 1, which waits for it, is available in tick 6
  pub sooner : (get_or (early_times 5) 0 0 ≡ 1) × (cost (table_of file_a) 0 0 ≡ 2) × (is_in 1 (availables (table_of file_a) (mid_at early file_a some_clock early_plan 6)) ≡ true)
  -- in tick 7 the machine would choose task 0's vertex 1; the run chooses another with as many ticks left
  pub otherwise : (is_in 1 (own_choice (table_of file_a) (mid_at early file_a some_clock early_plan 7)) ≡ true) × (is_in 1 (early_choices 7) ≡ false)
  -- and the job is finished in tick 9, with 4 of its 6 ticks of cost
  pub ends : bit (answer_at early file_a some_clock early_plan 9).finished 0 ≡ true
