-- How the code goes about a task's due work: what one vertex asks for over all h, without a walk over h. Theorem `part_is`, proofs/Sums.antt,
-- says that it is the sum of the definition.
use Rattle.std.specs.Prelude.{List, ℕ, ◌+◌, ◌*◌, ◌-◌, ◌/◌, ◌%◌, get_or, ltb}
use Rattle.graph.specs.Words.{pick, sum}
use Rattle.verdict.specs.Verdicts.{rounded_up}

-- 0 + 1 + .. + (r - 1)
unfoldable pub below : ℕ → ℕ
below r = (r * r - r) / 2

-- the sum of y - h · t over the h with h · t below y: as many terms as y divided by t, rounded up
unfoldable pub ramp : ℕ → ℕ → ℕ
ramp y t = rounded_up y t * y - t * below (rounded_up y t)

-- the sum of the smaller of c and y - h · t: where c is no more than y, the first (y - c) / t + 1 terms are c, and those that are left fall
unfoldable pub part : ℕ → ℕ → ℕ → ℕ
part c t y = pick (ltb y c) (ramp y t) (((y - c) / t + 1) * c + ramp ((y - c) % t + c - t) t)

-- what v vertices ask for, whose costs and tails lie in two rows from the place `at` on
unfoldable pub asked_from : List ℕ → List ℕ → ℕ → ℕ → ℕ → ℕ → ℕ
asked_from costs tails at v d t = sum v (λ u. part (get_or costs (at + u) 0) t (d - get_or tails (at + u) 0))

-- what n tasks ask for: a task has sixteen places of the rows
unfoldable pub due_by : List ℕ → List ℕ → List ℕ → List ℕ → ℕ → ℕ → ℕ
due_by costs tails counts periods n d = sum n (λ i. asked_from costs tails (16 * i) (get_or counts i 0) d (get_or periods i 0))
