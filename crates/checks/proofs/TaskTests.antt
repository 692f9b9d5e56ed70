-- Laws of the tests on a task and on the tasks in order, for the code.
use mathlib.Core.Path.{◌≡◌, refl, sym, ap, ◌∙◌}
use mathlib.Core.Bool.{Bool, true, false}
use mathlib.Core.List.{List}
use Prim.Native.Nat.{ℕ, suc, ◌+◌, ◌*◌, ◌≤◌, ◌<◌}
use native.Mathlib.Omega.{arith}
use lib.ListN.{length}
use borrow.Author.Tests.{le-leb, lt-leb}
use Rattle.graph.specs.Words.{pick}
use Rattle.graph.specs.Graph.{acyclic}
use Rattle.table.specs.declared.Task.{Task}
use Rattle.table.specs.declared.Table.{Table}
use Rattle.table.specs.declared.Outcome.{Outcome}
use Rattle.table.specs.declared.Outcome.TheVariants.{Range, Ticks, Order, Cycle}
use Rattle.std.specs.Prelude.{Ok, Err}
use Rattle.table.specs.Memory.{task}
use Rattle.table.specs.Reading.{ranged, not_under}
use Rattle.table.proofs.FieldLaws.{past, ranged_read}
use Rattle.checks.specs.Checking.{keys_of, edges_tested, costs_tested, used_rows, parts_tested, task_tested, tasks_tested, checked}
use Rattle.checks.proofs.TestLaws.{done, same_range, costs_next, edges_next}

-- ---- costs, edges, cycles
module _ (succ costs : List ℕ) (slot at v : ℕ) where
  pub parts_costs : (o : Outcome) → Err o ≡ costs_tested costs v (at + 12) slot → Err o ≡ parts_tested succ costs slot at v
  unfolding parts_tested
  parts_costs o h = rw (← h)

  module _ (p : ℕ) (hp : Ok p ≡ costs_tested costs v (at + 12) slot) where
    pub parts_edges : (o : Outcome) → Err o ≡ edges_tested v (keys_of v succ) p → Err o ≡ parts_tested succ costs slot at v
    unfolding parts_tested
    parts_edges o h = rw (← hp, ← h)

    module _ (next : ℕ) (hn : Ok next ≡ edges_tested v (keys_of v succ) p) where
      pub parts_go : acyclic (used_rows v succ) ≡ true → Ok next ≡ parts_tested succ costs slot at v
      unfolding parts_tested
      parts_go b = rw (← hp, ← hn, b)

      pub parts_cycle : acyclic (used_rows v succ) ≡ false → Err (Cycle at) ≡ parts_tested succ costs slot at v
      unfolding parts_tested
      parts_cycle b = rw (← hp, ← hn, b)

-- ---- a number x, equal to z, that was let through as y
pub let_through : (outside : ℕ → Outcome) (lo hi at x z y : ℕ) → x ≡ z → Ok y ≡ ranged (λ _. outside at) lo hi 0 x
    → (Ok z ≡ ranged outside lo hi at z) × (lo ≤ z) × (z ≤ hi) × (y ≡ z)
let_through outside lo hi at x z y q h =
    let k = h ∙ same_range outside lo hi at x z q in
    let r = ranged_read outside lo hi at z y (sym k) in
    let l = r.1 in
    let u = r.2 in
    (ap done r.0 ∙ k, omega arith, omega arith, sym r.0)

-- ---- the fields of a task, in order; x is the number that the code tests
module _ (a : Task) (costs : List ℕ) (slot at : ℕ) where
  pub bad_v : (x : ℕ) → x ≡ a.v → (o : Outcome) → Err o ≡ ranged (λ _. Range (at + 2)) 1 16 0 x → Err o ≡ task_tested a costs slot at
  unfolding task_tested
  bad_v x q o h = let k = h ∙ same_range Range 1 16 (at + 2) x a.v q in rw (← k)

  module _ (hv : Ok a.v ≡ ranged Range 1 16 (at + 2) a.v) where
    pub bad_e : (x : ℕ) → x ≡ length (keys_of a.v a.succ) → (o : Outcome) → Err o ≡ ranged (λ _. Range (at + 3)) 0 120 0 x → Err o ≡ task_tested a costs slot at
    unfolding task_tested
    bad_e x q o h = let k = h ∙ same_range Range 0 120 (at + 3) x (length (keys_of a.v a.succ)) q in rw (← hv, ← k)

    module _ (he : Ok (length (keys_of a.v a.succ)) ≡ ranged Range 0 120 (at + 3) (length (keys_of a.v a.succ))) where
      pub bad_d : (o : Outcome) → Err o ≡ ranged (λ _. Ticks (at + 4)) 1 1000000 0 a.d → Err o ≡ task_tested a costs slot at
      unfolding task_tested
      bad_d o h = let k = h ∙ same_range Ticks 1 1000000 (at + 4) a.d a.d refl in rw (← hv, ← he, ← k)

      module _ (hd : Ok a.d ≡ ranged Ticks 1 1000000 (at + 4) a.d) where
        pub bad_t : (o : Outcome) → Err o ≡ ranged (λ _. Ticks (at + 8)) 1 1000000 0 a.t → Err o ≡ task_tested a costs slot at
        unfolding task_tested not_under
        bad_t o h = let k = h ∙ same_range Ticks 1 1000000 (at + 8) a.t a.t refl in rw (← hv, ← he, ← hd, ← k)

        module _ (ht : Ok a.t ≡ ranged Ticks 1 1000000 (at + 8) a.t) where
          pub bad_order : 4 * a.t < a.d → Err (Order (at + 8)) ≡ task_tested a costs slot at
          unfolding task_tested not_under
          bad_order h = rw (← hv, ← he, ← hd, ← ht, lt-leb a.d (4 * a.t) h)

          pub then_parts : a.d ≤ 4 * a.t → parts_tested a.succ costs slot at a.v ≡ task_tested a costs slot at
          unfolding task_tested not_under
          then_parts h = rw (← hv, ← he, ← hd, ← ht, le-leb a.d (4 * a.t) h)

-- ---- where a task ends
pub task_next : (a : Task) (costs : List ℕ) (slot at n : ℕ) → Ok n ≡ task_tested a costs slot at → n ≤ at + 316
unfolding task_tested parts_tested
task_next a costs slot at n h =
    let v = past (ranged Range 1 16 (at + 2) a.v) _ n h in
    let e = past (ranged Range 0 120 (at + 3) (length (keys_of v.0 a.succ))) _ n v.2 in
    let d = past (ranged Ticks 1 1000000 (at + 4) a.d) _ n e.2 in
    let t = past (not_under d.0 (at + 8) (ranged Ticks 1 1000000 (at + 8) a.t)) _ n d.2 in
    let c = past (costs_tested costs v.0 (at + 12) slot) _ n t.2 in
    let g = past (edges_tested v.0 (keys_of v.0 a.succ) c.0) _ n c.2 in
    let v₁ = ranged_read Range 1 16 (at + 2) a.v v.0 (sym v.1) in
    let e₁ = ranged_read Range 0 120 (at + 3) (length (keys_of v.0 a.succ)) e.0 (sym e.1) in
    let c₁ = costs_next costs v.0 (at + 12) slot c.0 c.1 in
    let g₁ = edges_next v.0 (keys_of v.0 a.succ) c.0 g.0 g.1 in
    let l = last (acyclic (used_rows v.0 a.succ)) g.0 g.2 in
    let v₂ = v₁.2 in
    let e₀ = e₁.0 in
    let e₂ = e₁.2 in
    omega arith
  where
    last : (b : Bool) (m : ℕ) → Ok n ≡ pick b (Ok m) (Err (Cycle at)) → n ≡ m
    last true m h = cc
    last false m h = let z : ◌≡◌ {A = ℕ} 0 1 = cc in absurd (omega arith)

-- ---- the tasks in order
module _ (t : Table) (k j i at : ℕ) (e : k ≡ suc j) where
  pub tasks_stop : (o : Outcome) → Err o ≡ task_tested (task t i) t.costs (16 * i) at → Err o ≡ tasks_tested t k i at
  unfolding tasks_tested
  tasks_stop o h = rw (e, ← h)

  pub tasks_go : (n : ℕ) → Ok n ≡ task_tested (task t i) t.costs (16 * i) at → tasks_tested t j (i + 1) n ≡ tasks_tested t k i at
  unfolding tasks_tested
  tasks_go n h = rw (e, ← h)

pub tasks_end : (t : Table) (k i at : ℕ) → k ≡ 0 → Ok at ≡ tasks_tested t k i at
unfolding tasks_tested
tasks_end t k i at e = rw e

-- ---- the table
module _ (t : Table) where
  pub bad_m : (x : ℕ) → x ≡ t.m → (o : Outcome) → Err o ≡ ranged (λ _. Range 2) 1 8 0 x → Err o ≡ checked t
  unfolding checked
  bad_m x q o h = let k = h ∙ same_range Range 1 8 2 x t.m q in rw (← k)

  module _ (hm : Ok t.m ≡ ranged Range 1 8 2 t.m) where
    pub bad_n : (x : ℕ) → x ≡ t.n → (o : Outcome) → Err o ≡ ranged (λ _. Range 3) 1 16 0 x → Err o ≡ checked t
    unfolding checked
    bad_n x q o h = let k = h ∙ same_range Range 1 16 3 x t.n q in rw (← hm, ← k)

    pub then_tasks : Ok t.n ≡ ranged Range 1 16 3 t.n → tasks_tested t t.n 0 4 ≡ checked t
    unfolding checked
    then_tasks h = rw (← hm, ← h)
