-- What the code works on, for the contracts of its parts: the rows of a table's tasks and its tails, in one row as the costs are.
use Rattle.std.specs.Prelude.{◌≡◌, Bool, true, false, ℕ, ◌+◌, ◌*◌, ◌-◌, ◌^◌, ◌<◌, min, ltb, get_or, ℤ, pos, ◌-ℤ◌}
use Rattle.table.specs.declared.Table.{Table}
use Rattle.table.specs.Memory.{vertices, D, T}
use Rattle.verdict.specs.Verdicts.{vol, len, up_to}
use Rattle.sharp.specs.declared.gathering.Gathering.{Gathering}
use Rattle.sharp.specs.Sharp.{tail_of}
use Rattle.sharp.specs.Closed.{due_by}

pub record Gathered (t : Table) (x : Gathering) : Type 0 where
  pub costs_are : x.costs.now ≡ t.costs
  pub tail_is : (i u : ℕ) → i < t.n → u < 16 → get_or x.tails.now (16 * i + u) 0 ≡ tail_of t i u
  pub m_is : x.m ≡ t.m
  pub n_is : x.n ≡ t.n
  pub T_is : (i : ℕ) → i < t.n → get_or x.periods i 0 ≡ T t i
  pub v_is : (i : ℕ) → i < t.n → get_or x.counts i 0 ≡ vertices t i
  -- from n on they are 0
  pub deadlines_are : x.deadlines ≡ up_to t.n (D t)
  pub vols_are : x.vols ≡ up_to t.n (vol t)
  pub lens_are : x.lens ≡ up_to t.n (len t)

-- the sharp due work for task k by the rows, and its margin
unfoldable pub due_in : Gathering → ℕ → ℕ
due_in x k = due_by x.costs.now x.tails.now x.counts x.periods x.n (get_or x.deadlines k 0)

unfoldable pub margin_in : Gathering → ℕ → ℤ
margin_in x k =
    pos (x.m * get_or x.deadlines k 0) -ℤ pos ((x.m - 1) * min (get_or x.lens k 0) (2 ^ 53) + min (due_in x k) (2 ^ 53))

-- whether the longest chain of task k exceeds its deadline; no task's does; task k is the lowest whose does
abbrev pub late_in : Gathering → ℕ → Bool
late_in x k = ltb (get_or x.deadlines k 0) (get_or x.lens k 0)

abbrev pub NoneLate : Gathering → Type 0
NoneLate x = (k : ℕ) → k < x.n → late_in x k ≡ false

abbrev pub FirstLate : Gathering → ℕ → Type 0
FirstLate x k = (k < x.n) × (late_in x k ≡ true) × ((j : ℕ) → j < k → late_in x j ≡ false)
