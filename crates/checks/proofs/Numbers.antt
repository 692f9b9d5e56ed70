-- The writer's tests on the table pass, or refuse with one of 3 to 7.
use mathlib.Core.Bool.{Bool, true, false, ◌&&◌, not}
use mathlib.Core.List.{List, [], ◌∷◌}
use Prim.Native.Nat.{ℕ, zero, suc, ◌+◌, ◌*◌, ◌/◌, ◌%◌}
use lib.ListN.{length, get_or}
use lib.Dec.{ltb, leb, eqb}
use Rattle.graph.specs.Words.{pick}
use Rattle.graph.specs.Graph.{acyclic}
use Rattle.table.specs.declared.Task.{Task}
use Rattle.table.specs.declared.Table.{Table}
use Rattle.table.specs.declared.Outcome.{Outcome}
use Rattle.table.specs.declared.Outcome.TheVariants.{Read, Short, Mark, Range, Ticks, Order, Edge, Cycle, Extra}
use Rattle.std.specs.Prelude.{Result, Ok, Err}
use Rattle.table.specs.Memory.{task}
use Rattle.table.specs.Reading.{onward, ranged, not_under}
use Rattle.checks.specs.Checking.{keys_of, edge_tested, edges_tested, costs_tested, used_rows, parts_tested, task_tested, tasks_tested, checked}

-- one of the writer's own refusals
unfoldable pub OwnNumber : Outcome → Type 0
OwnNumber Read = ⊥
OwnNumber (Short p) = ⊥
OwnNumber (Mark p) = ⊥
OwnNumber (Range p) = Unit {0}
OwnNumber (Ticks p) = Unit {0}
OwnNumber (Order p) = Unit {0}
OwnNumber (Edge p) = Unit {0}
OwnNumber (Cycle p) = Unit {0}
OwnNumber (Extra p) = ⊥

abbrev pub OwnAnswer : Result ℕ Outcome → Type 0
OwnAnswer (Ok n) = Unit {0}
OwnAnswer (Err o) = OwnNumber o

then_own : (c : Result ℕ Outcome) → OwnAnswer c → (g : ℕ → Result ℕ Outcome) → ((n : ℕ) → OwnAnswer (g n)) → OwnAnswer (onward c Err g)
then_own (Ok n) h g k = k n
then_own (Err o) h g k = h

pick_own : (b : Bool) (x : ℕ) (o : Outcome) → OwnNumber o → OwnAnswer (pick b (Ok x) (Err o))
pick_own true x o h = tt
pick_own false x o h = h

range_own : (lo hi at x : ℕ) → OwnAnswer (ranged Range lo hi at x)
unfolding ranged OwnNumber
range_own lo hi at x = pick_own (leb lo x && leb x hi) x (Range at) tt

ticks_own : (lo at x : ℕ) → OwnAnswer (ranged Ticks lo 1000000 at x)
unfolding ranged OwnNumber
ticks_own lo at x = pick_own (leb lo x && leb x 1000000) x (Ticks at) tt

period_own : (d at x : ℕ) → OwnAnswer (not_under d at (ranged Ticks 1 1000000 at x))
unfolding not_under OwnNumber
period_own d at x = go (ranged Ticks 1 1000000 at x) (ticks_own 1 at x)
  where
    go : (f : Result ℕ Outcome) → OwnAnswer f → OwnAnswer (not_under d at f)
    go (Ok t) h = pick_own (leb d (4 * t)) t (Order at) tt
    go (Err o) h = h

costs_own : (costs : List ℕ) (k at slot : ℕ) → OwnAnswer (costs_tested costs k at slot)
unfolding costs_tested
costs_own costs zero at slot = tt
costs_own costs (suc k) at slot = then_own (ranged Ticks 0 1000000 at (get_or costs slot 0)) (ticks_own 0 at (get_or costs slot 0)) _ (λ _. costs_own costs k (at + 4) (slot + 1))

edges_own : (v : ℕ) (ks : List ℕ) (at : ℕ) → OwnAnswer (edges_tested v ks at)
unfolding edges_tested edge_tested OwnNumber
edges_own v [] at = tt
edges_own v (k ∷ ks) at =
    let b = ltb (k % 16) v && not (eqb (k / 16) (k % 16)) in
    then_own (pick b (Ok k) (Err (Edge at))) (pick_own b k (Edge at) tt) _ (λ _. edges_own v ks (at + 2))

parts_own : (succ costs : List ℕ) (slot at v : ℕ) → OwnAnswer (parts_tested succ costs slot at v)
unfolding parts_tested OwnNumber
parts_own succ costs slot at v =
    then_own (costs_tested costs v (at + 12) slot) (costs_own costs v (at + 12) slot) _ (λ p.
    then_own (edges_tested v (keys_of v succ) p) (edges_own v (keys_of v succ) p) _ (λ n. pick_own (acyclic (used_rows v succ)) n (Cycle at) tt))

task_own : (a : Task) (costs : List ℕ) (slot at : ℕ) → OwnAnswer (task_tested a costs slot at)
unfolding task_tested
task_own a costs slot at =
    then_own (ranged Range 1 16 (at + 2) a.v) (range_own 1 16 (at + 2) a.v) _ (λ v.
    then_own (ranged Range 0 120 (at + 3) (length (keys_of v a.succ))) (range_own 0 120 (at + 3) (length (keys_of v a.succ))) _ (λ _.
    then_own (ranged Ticks 1 1000000 (at + 4) a.d) (ticks_own 1 (at + 4) a.d) _ (λ d.
    then_own (not_under d (at + 8) (ranged Ticks 1 1000000 (at + 8) a.t)) (period_own d (at + 8) a.t) _ (λ _. parts_own a.succ costs slot at v))))

tasks_own : (t : Table) (k i at : ℕ) → OwnAnswer (tasks_tested t k i at)
unfolding tasks_tested
tasks_own t zero i at = tt
tasks_own t (suc k) i at = then_own (task_tested (task t i) t.costs (16 * i) at) (task_own (task t i) t.costs (16 * i) at) _ (λ n. tasks_own t k (i + 1) n)

pub checked_own : (t : Table) → OwnAnswer (checked t)
unfolding checked
checked_own t = then_own (ranged Range 1 8 2 t.m) (range_own 1 8 2 t.m) _ (λ _. then_own (ranged Range 1 16 3 t.n) (range_own 1 16 3 t.n) _ (λ n. tasks_own t n 0 4))
