-- The writer's tests 3 to 7 on the table itself, in file order, each at the place that its field has in the file, as the code makes
-- them. Nobody has to believe them: they refuse "exactly as a reader would for the bytes that the table stands for", which is how
-- the table's Writing.antt says it (theorem `checked_is`, proofs/Checks.antt).
use Rattle.std.specs.Prelude.{Bool, ◌&&◌, ◌||◌, not, List, [], ◌∷◌, ℕ, zero, suc, ◌+◌, ◌*◌, ◌/◌, ◌%◌, length, get_or, ltb, eqb, Result, Ok, Err}
use Rattle.graph.specs.Words.{pick, all, row, also_if, in_order}
use Rattle.graph.specs.Graph.{acyclic}
use Rattle.table.specs.declared.Task.{Task}
use Rattle.table.specs.declared.Table.{Table}
use Rattle.table.specs.declared.Outcome.{Outcome}
use Rattle.table.specs.declared.Outcome.TheVariants.{Read, Range, Ticks, Edge, Cycle}
use Rattle.table.specs.Memory.{task}
use Rattle.table.specs.Reading.{onward, ranged, not_under}

-- Each test answers the refusal, or the place after what it tested. The outcome that a reader has then:
unfoldable pub outcome_of : Result ℕ Outcome → Outcome
outcome_of (Ok next) = Read
outcome_of (Err o) = o

-- EDGES, vertex by vertex: the keys of vertex u's successors. `k` bits are to come, from bit w on; x has them.
unfoldable pub row_keys : ℕ → ℕ → ℕ → ℕ → List ℕ
row_keys zero u w x = []
row_keys (suc k) u w x = also_if (eqb (x % 2) 1) (16 * u + w) (row_keys k u (w + 1) (x / 2))

-- "all successor bits of the first v vertices", ascending: `edge_keys` (law `keys_are`)
unfoldable pub keys_of : ℕ → List ℕ → List ℕ
keys_of v succ = in_order v (λ u. row_keys 16 u 0 (get_or succ u 0))

-- how many they are; none where v is above sixteen
unfoldable pub edges_of : ℕ → List ℕ → ℕ
edges_of v succ = pick (ltb 16 v) 0 (length (keys_of v succ))

-- 6: "an end not below v, or from equal to to". The keys ascend, and each from is below v.
unfoldable pub edge_tested : ℕ → ℕ → ℕ → Result ℕ Outcome
edge_tested v key at = pick (ltb (key % 16) v && not (eqb (key / 16) (key % 16))) (Ok key) (Err (Edge at))

unfoldable pub edges_tested : ℕ → List ℕ → ℕ → Result ℕ Outcome
edges_tested v [] at = Ok at
edges_tested v (key ∷ ks) at = onward (edge_tested v key at) Err λ _. edges_tested v ks (at + 2)

-- 4: k costs from a slot of the row on; M-103: "for a cost, 4 now means above 1,000,000"
unfoldable pub costs_tested : List ℕ → ℕ → ℕ → ℕ → Result ℕ Outcome
costs_tested costs zero at slot = Ok at
costs_tested costs (suc k) at slot =
    onward (ranged Ticks 0 1000000 at (get_or costs slot 0)) Err λ _. costs_tested costs k (at + 4) (slot + 1)

-- 7: the graph of the first v vertices; what stands from v on is an unused entry
unfoldable pub used_rows : ℕ → List ℕ → List ℕ
used_rows v succ = row 16 (λ u. pick (ltb u v) (get_or succ u 0) 0)

-- A TASK at a place: v; e, "its range is tested before it is cut to a byte"; D; T and 5; its costs; its edges; 7 at the mark
unfoldable pub parts_tested : List ℕ → List ℕ → ℕ → ℕ → ℕ → Result ℕ Outcome
parts_tested succ costs slot at v =
    onward (costs_tested costs v (at + 12) slot) Err λ p.
    onward (edges_tested v (keys_of v succ) p) Err λ next. pick (acyclic (used_rows v succ)) (Ok next) (Err (Cycle at))

unfoldable pub task_tested : Task → List ℕ → ℕ → ℕ → Result ℕ Outcome
task_tested a costs slot at =
    onward (ranged Range 1 16 (at + 2) a.v) Err λ v.
    onward (ranged Range 0 120 (at + 3) (length (keys_of v a.succ))) Err λ _.
    onward (ranged Ticks 1 1000000 (at + 4) a.d) Err λ d.
    onward (not_under d (at + 8) (ranged Ticks 1 1000000 (at + 8) a.t)) Err λ _. parts_tested a.succ costs slot at v

-- THE TASKS, k of them from i on, "costs lie in one row of 256 numbers, sixteen a task"
unfoldable pub tasks_tested : Table → ℕ → ℕ → ℕ → Result ℕ Outcome
tasks_tested t zero i at = Ok at
tasks_tested t (suc k) i at =
    onward (task_tested (task t i) t.costs (16 * i) at) Err λ next. tasks_tested t k (i + 1) next

-- THE TABLE: m, n, then n tasks
unfoldable pub checked : Table → Result ℕ Outcome
checked t =
    onward (ranged Range 1 8 2 t.m) Err λ _.
    onward (ranged Range 1 16 3 t.n) Err λ n. tasks_tested t n 0 4

-- 10, entry by entry: "in a task the costs and successors of vertices from v on", here from vertex `from` on
unfoldable pub zero_from : List ℕ → List ℕ → ℕ → ℕ → Bool
zero_from succ costs slot from = all 16 (λ u. ltb u from || (eqb (get_or costs (slot + u) 0) 0 && eqb (get_or succ u 0) 0))

-- "those of tasks from n on" are zero wholly; `unused_zero` is this of all sixteen (law `unused_is`, proofs/UnusedLaws.antt)
unfoldable pub unused_in : Task → List ℕ → ℕ → Bool → Bool
unused_in a costs slot used =
    pick used (zero_from a.succ costs slot a.v) (eqb a.v 0 && eqb a.d 0 && eqb a.t 0 && zero_from a.succ costs slot 0)
