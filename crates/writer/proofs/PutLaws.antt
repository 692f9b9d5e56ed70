-- Laws of bytes that are put into a buffer part after part, for the writer's code.
use mathlib.Core.Path.{◌≡◌, refl, sym, ap, ◌∙◌}
use mathlib.Core.List.{List, [], ◌∷◌, ◌++◌, append_assoc}
use Prim.Native.Nat.{ℕ, zero, suc, ◌+◌, ◌*◌, ◌-◌, ◌/◌, ◌%◌, ◌≤◌, ◌<◌}
use native.Mathlib.Omega.{arith}
use native.Mathlib.Nat.{add-zero, zero-add, sub-zero}
use lib.ListN.{length, length-drop, get_or, set, take, drop}
use lib.Seq.{sets, sets-eq, get_or-take, get_or-drop, length-take-le, drop-drop}
use borrow.Rule.Slice.PartMut.{put_mid}
use Rattle.std.specs.Int.{w32, to_le_bytes}
use Rattle.graph.specs.Words.{join_from, in_order}
use Rattle.graph.proofs.Members.{Took}
use Rattle.table.specs.declared.Table.{Table}
use Rattle.table.specs.Memory.{task, vertices, D, T, succ, cost}
use Rattle.table.specs.Writing.{bytes4, edge_bytes, encode_task, encode}
use Rattle.checks.specs.Checking.{row_keys}
use Rattle.writer.specs.Putting.{cost_bytes, task_bytes}
use Rattle.checks.proofs.Keys.{keys_are}
use Rattle.checks.proofs.RowSteps.{row_took}
use Rattle.checks.proofs.TestLaws.{join_next, join_end, keys_from, keys_next}

-- ---- part after part
pub sets_sets : (xs ys l : List ℕ) (i : ℕ) → sets l i (xs ++ ys) ≡ sets (sets l i xs) (i + length xs) ys
sets_sets [] ys l i = ap (λ (j : ℕ). sets l j ys) (sym (add-zero i))
sets_sets (x ∷ xs) ys l i =
    let q : suc i + length xs ≡ i + suc (length xs) = omega arith in
    sets_sets xs ys (set l i x) (suc i) ∙ ap (λ (j : ℕ). sets (sets (set l i x) (suc i) xs) j ys) q

-- one part, and then the rest behind it
pub sets_then : (xs ys l l' : List ℕ) (i j : ℕ) → l' ≡ sets l i xs → j ≡ i + length xs → sets l' j ys ≡ sets l i (xs ++ ys)
sets_then xs ys l l' i j e q = rw (e, q) (sym (sets_sets xs ys l i))

-- at the front
pub sets_front : (xs l : List ℕ) → length xs ≤ length l → sets l 0 xs ≡ xs ++ drop (length xs) l
sets_front xs l h = let z : 0 + length xs ≡ length xs = omega arith in sets-eq xs l 0 (omega arith) ∙ ap (λ (n : ℕ). xs ++ drop n l) z

-- a part of the buffer that was written over
pub put_part : (a k : ℕ) (l ys vs : List ℕ) → ys ≡ vs → k ≡ length vs → a + length vs ≤ length l → put_mid a k l ys ≡ sets l a vs
put_part a k l ys vs e q h =
    rw e (ap (λ (z : List ℕ). take a l ++ (vs ++ z)) (drop-drop k a l ∙ ap (λ (n : ℕ). drop (a + n) l) q)
    ∙ sym (append_assoc (take a l) vs (drop (a + length vs) l)) ∙ sym (sets-eq vs l a h))

pub le_four : (x : ℕ) → to_le_bytes w32 x ≡ bytes4 x
unfolding bytes4
le_four x = refl

-- ---- costs from vertex u on
unfoldable pub costs_from : List ℕ → ℕ → ℕ → ℕ → List ℕ
costs_from costs slot v u = join_from (v - u) u (λ u. bytes4 (get_or costs (slot + u) 0))

pub costs_start : (costs : List ℕ) (slot v : ℕ) → costs_from costs slot v 0 ≡ cost_bytes costs slot v
unfolding costs_from cost_bytes in_order
costs_start costs slot v = ap (λ (k : ℕ). join_from k 0 (λ u. bytes4 (get_or costs (slot + u) 0))) (sub-zero v)

pub costs_next : (costs : List ℕ) (slot v u : ℕ) → u < v → costs_from costs slot v u ≡ bytes4 (get_or costs (slot + u) 0) ++ costs_from costs slot v (u + 1)
unfolding costs_from
costs_next costs slot v u h = join_next _ v u h

pub costs_last : (costs : List ℕ) (slot v u : ℕ) → v ≤ u → costs_from costs slot v u ≡ []
unfolding costs_from
costs_last costs slot v u h = join_end _ v u h

-- those of a part of the row
same_costs : (k j slot : ℕ) (l costs : List ℕ) → ((u : ℕ) → u < j + k → get_or l (0 + u) 0 ≡ get_or costs (slot + u) 0)
    → join_from k j (λ u. bytes4 (get_or l (0 + u) 0)) ≡ join_from k j (λ u. bytes4 (get_or costs (slot + u) 0))
unfolding join_from
same_costs zero j slot l costs h = refl
same_costs (suc k) j slot l costs h =
    ap (λ (x : ℕ). bytes4 x ++ join_from k (suc j) (λ u. bytes4 (get_or l (0 + u) 0))) (h j (omega arith))
    ∙ ap (λ (r : List ℕ). bytes4 (get_or costs (slot + j) 0) ++ r) (same_costs k (suc j) slot l costs (λ u b. h u (omega arith)))

pub part_costs : (costs : List ℕ) (slot n v : ℕ) → n ≡ v → slot + v ≤ length costs
    → cost_bytes (take n (drop slot costs)) 0 (length (take n (drop slot costs))) ≡ cost_bytes costs slot v
unfolding cost_bytes in_order
part_costs costs slot n v e h =
    let l = take n (drop slot costs) in
    let d = length-drop slot costs in
    let m : length l ≡ v = length-take-le n (drop slot costs) (omega arith) ∙ e in
    rw m (same_costs v 0 slot l costs (λ u b.
    ap (λ (i : ℕ). get_or l i 0) (zero-add u) ∙ get_or-take n (drop slot costs) u 0 (omega arith) ∙ get_or-drop slot costs u 0))

pub four_long : (x : ℕ) → length (bytes4 x) ≡ 4
unfolding bytes4
four_long x = refl

-- ---- the bytes of a vertex's edges: those of the edge to the lowest member of its set, and the rest
pub edge_then : (u x w y : ℕ) → Took x w y → edge_bytes (row_keys 16 u 0 x) ≡ (u ∷ w ∷ []) ++ edge_bytes (row_keys 16 u 0 y)
unfolding edge_bytes
edge_then u x w y t =
    let h = t.below in
    let a : (16 * u + w) / 16 ≡ u = omega arith in
    let b : (16 * u + w) % 16 ≡ w = omega arith in
    ap edge_bytes (row_took u x w y t) ∙ rw (a, b) refl

pub no_edges : edge_bytes [] ≡ []
unfolding edge_bytes
no_edges = refl

pub edges_join : (xs ys : List ℕ) → edge_bytes (xs ++ ys) ≡ edge_bytes xs ++ edge_bytes ys
unfolding edge_bytes
edges_join [] ys = refl
edges_join (k ∷ xs) ys = ap (λ (l : List ℕ). k / 16 ∷ k % 16 ∷ l) (edges_join xs ys)

-- the edges from vertex u on: those of u, and those from the next
pub rows_bytes : (v : ℕ) (succ : List ℕ) (u : ℕ) → u < v
    → edge_bytes (keys_from v succ u) ≡ edge_bytes (row_keys 16 u 0 (get_or succ u 0)) ++ edge_bytes (keys_from v succ (u + 1))
rows_bytes v succ u h = ap edge_bytes (keys_next v succ u h) ∙ edges_join (row_keys 16 u 0 (get_or succ u 0)) (keys_from v succ (u + 1))

-- ---- a task record
-- A TASK'S BYTES, PART BY PART, ARE WHAT IT STANDS FOR
pub task_bytes_lem : (t : Table) (i : ℕ) → encode_task t i ≡ task_bytes (task t i) t.costs (16 * i)
unfolding encode_task task_bytes cost_bytes vertices D T succ cost
task_bytes_lem t i = rw (← keys_are t i) (simp append_assoc)

-- ---- the tasks from i on
unfoldable pub tasks_from : Table → ℕ → List ℕ
tasks_from t i = join_from (t.n - i) i (encode_task t)

pub tasks_first : (t : Table) → tasks_from t 0 ≡ in_order t.n (encode_task t)
unfolding tasks_from in_order
tasks_first t = ap (λ (k : ℕ). join_from k 0 (encode_task t)) (sub-zero t.n)

pub tasks_then : (t : Table) (i : ℕ) → i < t.n → tasks_from t i ≡ task_bytes (task t i) t.costs (16 * i) ++ tasks_from t (i + 1)
unfolding tasks_from
tasks_then t i h = join_next (encode_task t) t.n i h ∙ ap (λ (l : List ℕ). l ++ join_from (t.n - (i + 1)) (i + 1) (encode_task t)) (task_bytes_lem t i)

pub tasks_done : (t : Table) (i : ℕ) → t.n ≤ i → tasks_from t i ≡ []
unfolding tasks_from
tasks_done t i h = join_end (encode_task t) t.n i h

-- ---- the file: its head, then its tasks
pub file_long : (t : Table) → length (encode t) ≡ 4 + length (in_order t.n (encode_task t))
unfolding encode
file_long t = omega arith
