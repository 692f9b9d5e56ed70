-- What the rows of a table's tasks are within: so no sum or product of them wraps, and there is a task.
use Rattle.std.specs.Prelude.{List, ℕ, ◌+◌, ◌*◌, ◌≤◌, ◌<◌, get_or}

abbrev pub InRange : ℕ → List ℕ → List ℕ → List ℕ → List ℕ → Type 0
InRange n deadlines periods counts costs =
    (1 ≤ n) × (n ≤ 16)
    × ((i : ℕ) → i < n
    → (get_or deadlines i 0 ≤ 1000000) × (1 ≤ get_or periods i 0) × (get_or periods i 0 ≤ 1000000) × (get_or counts i 0 ≤ 16)
    × ((u : ℕ) → u < get_or counts i 0 → get_or costs (16 * i + u) 0 ≤ 1000000))
