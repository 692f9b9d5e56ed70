-- A table that the tests 3 to 7 let through: its counts are in their ranges.
use mathlib.Core.Path.{◌≡◌, refl, sym}
use Prim.Native.Nat.{ℕ, zero, suc, ◌+◌, ◌*◌, ◌≤◌, ◌<◌}
use native.Mathlib.Omega.{arith}
use native.Mathlib.Decide.{ℕ_discrete}
use lib.ListN.{length}
use Rattle.table.specs.declared.Task.{Task}
use Rattle.table.specs.declared.Table.{Table}
use Rattle.table.specs.declared.Outcome.{Outcome}
use Rattle.table.specs.declared.Outcome.TheVariants.{Range}
use Rattle.std.specs.Prelude.{Result, Ok, Err, IsOk}
use Rattle.table.specs.Memory.{task}
use Rattle.table.specs.Reading.{ranged}
use Rattle.checks.specs.Checking.{keys_of, task_tested, tasks_tested, checked}
use Rattle.table.proofs.FieldLaws.{past, ranged_read}

-- v and e of a task
pub record Counts (a : Task) : Type 0 where
  pub v_high : a.v ≤ 16
  pub e_high : length (keys_of a.v a.succ) ≤ 120

module _ (t : Table) where
  task_counts : (i at m : ℕ) → Ok m ≡ task_tested (task t i) t.costs (16 * i) at → Counts (task t i)
  unfolding task_tested
  task_counts i at m h =
      let a = task t i in
      let v = past (ranged Range 1 16 (at + 2) a.v) _ m h in
      let e = past (ranged Range 0 120 (at + 3) (length (keys_of v.0 a.succ))) _ m v.2 in
      let v₁ = ranged_read Range 1 16 (at + 2) a.v v.0 (sym v.1) in
      let e₁ = ranged_read Range 0 120 (at + 3) (length (keys_of v.0 a.succ)) e.0 (sym e.1) in
      let l : length (keys_of v.0 a.succ) ≤ 120 = rw e₁.0 e₁.2 in
      record { v_high = rw v₁.0 v₁.2; e_high = rw v₁.0 l }

  tasks_counts : (k i at m : ℕ) → Ok m ≡ tasks_tested t k i at → (j : ℕ) → i ≤ j → j < i + k → Counts (task t j)
  unfolding tasks_tested
  tasks_counts zero i at m h j l u = absurd (omega arith)
  tasks_counts (suc k) i at m h j l u =
      let p = past (task_tested (task t i) t.costs (16 * i) at) _ m h in
      elim (ℕ_discrete j i) [
        | yes e ↦ rw e (task_counts i at p.0 p.1)
        | no e ↦ tasks_counts k (i + 1) p.0 m p.2 j (omega arith) (omega arith)
      ]

  -- n, and the counts of each task
  passed : (m : ℕ) → Ok m ≡ checked t → (t.n ≤ 16) × ((i : ℕ) → i < t.n → Counts (task t i))
  unfolding checked
  passed m h =
      let a = past (ranged Range 1 8 2 t.m) _ m h in
      let b = past (ranged Range 1 16 3 t.n) _ m a.2 in
      let n = ranged_read Range 1 16 3 t.n b.0 (sym b.1) in
      let n₂ = n.2 in
      let q = n.0 in
      (omega arith, λ i l. tasks_counts b.0 0 4 m b.2 i (omega arith) (omega arith))

  of_ok : (c : Result ℕ Outcome) → IsOk c → (m : ℕ) × (Ok m ≡ c)
  of_ok (Ok m) h = (m, refl)
  of_ok (Err o) h = let z : ◌≡◌ {A = ℕ} 0 1 = cc in absurd (omega arith)

  pub passed_n : IsOk (checked t) → t.n ≤ 16
  passed_n h = let m = of_ok (checked t) h in (passed m.0 m.1).0

  pub passed_counts : IsOk (checked t) → (i : ℕ) → i < t.n → Counts (task t i)
  passed_counts h = let m = of_ok (checked t) h in (passed m.0 m.1).1
