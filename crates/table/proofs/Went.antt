-- A task, a table and a file that were read: each field and each part of them went well.
use mathlib.Core.Path.{◌≡◌, refl, ap}
use mathlib.Core.Bool.{true}
use mathlib.Core.List.{List}
use Prim.Native.Nat.{ℕ, ◌+◌, ◌*◌}
use lib.ListN.{length}
use lib.Dec.{eqb}
use borrow.Author.Tests.{eqb-true}
use Rattle.table.specs.declared.Table.{Table}
use Rattle.table.specs.declared.Outcome.{Outcome}
use Rattle.table.specs.declared.Outcome.TheVariants.{Read, Cycle, Extra}
use Rattle.table.specs.declared.Loaded.{Loaded}
use Rattle.std.specs.Prelude.{Ok}
use Rattle.table.specs.declared.TableRead.{TableRead}
use Rattle.graph.specs.Graph.{acyclic}
use Rattle.table.specs.Memory.{no_succ, no_costs, no_tasks, no_row}
use Rattle.table.specs.Numbers.{number}
use Rattle.table.specs.Reading.{TaskRead, EdgesRead, CostsRead, mark_at, byte_at, ticks_at, period_at, costs_at, edges_at, bad_task, parts_at, task_at, bad_table, tasks_at, table_at, refused, ending, read}
use Rattle.table.proofs.FieldViews.{bad_by, Between, mark_view, byte_view, ticks_view, Period, period_view, on_field, went, passed}

pub out_task : (o : Outcome) → (bad_task o).outcome ≡ o
unfolding bad_task
out_task o = refl

pub out_table : (o : Outcome) → (bad_table o).outcome ≡ o
unfolding bad_table
out_table o = refl

pub out_loaded : (o : Outcome) → (refused o).outcome ≡ o
unfolding refused
out_loaded o = refl

-- ---- a task
pub record TaskWent (s : List ℕ) (at : ℕ) (r : TaskRead) : Type 0 where
  pub x : ℕ
  pub v : ℕ
  pub e : ℕ
  pub d : ℕ
  pub t : ℕ
  pub mark_is : mark_at 0x4B s at ≡ Ok x
  pub v_is : byte_at 1 16 s (at + 2) ≡ Ok v
  pub v_range : Between 1 16 v
  pub e_is : byte_at 0 120 s (at + 3) ≡ Ok e
  pub e_range : Between 0 120 e
  pub d_is : ticks_at 1 s (at + 4) ≡ Ok d
  pub d_range : Between 1 1000000 d
  pub t_is : period_at d s (at + 8) ≡ Ok t
  pub t_range : Period d t
  pub costs_read : (costs_at s v (at + 12) 0 no_costs).outcome ≡ Read
  pub edges_read : (edges_at v s e (at + 12 + 4 * v) 0 no_succ).outcome ≡ Read
  pub no_cycle : acyclic (edges_at v s e (at + 12 + 4 * v) 0 no_succ).succ ≡ true
  pub task_is : r.task ≡ record { v = v; d = d; t = t; succ = (edges_at v s e (at + 12 + 4 * v) 0 no_succ).succ }
  pub costs_are : r.costs ≡ (costs_at s v (at + 12) 0 no_costs).costs
  pub next_is : r.next ≡ at + 12 + 4 * v + 2 * e

pub task_went : (s : List ℕ) (at : ℕ) (r : TaskRead) → r.outcome ≡ Read → r ≡ task_at s at → TaskWent s at r
unfolding task_at parts_at number
task_went s at r h q =
    let out : TaskRead → Outcome = λ (x : TaskRead). x.outcome in
    let g₁ = on_field out bad_task out_task (mark_at 0x4B s at) (mark_view 0x4B s at) _ r h q in
    let g₂ = on_field out bad_task out_task (byte_at 1 16 s (at + 2)) (byte_view 1 16 s (at + 2)) _ r h g₁.3 in
    let g₃ = on_field out bad_task out_task (byte_at 0 120 s (at + 3)) (byte_view 0 120 s (at + 3)) _ r h g₂.3 in
    let g₄ = on_field out bad_task out_task (ticks_at 1 s (at + 4)) (ticks_view 1 s (at + 4)) _ r h g₃.3 in
    let g₅ = on_field out bad_task out_task (period_at g₄.0 s (at + 8)) (period_view g₄.0 s (at + 8)) _ r h g₄.3 in
    let c : CostsRead = costs_at s g₂.0 (at + 12) 0 no_costs in
    let w₁ = went out bad_task out_task c.outcome _ r h g₅.3 in
    let g : EdgesRead = edges_at g₂.0 s g₃.0 (at + 12 + 4 * g₂.0) 0 no_succ in
    let w₂ = went out bad_task out_task g.outcome _ r h w₁.1 in
    let w₃ = passed out bad_task out_task (acyclic g.succ) _ (Cycle at) (bad_by (Cycle at) 6 refl) r h w₂.1 in
    record {
      x = g₁.0;
      v = g₂.0;
      e = g₃.0;
      d = g₄.0;
      t = g₅.0;
      mark_is = g₁.1;
      v_is = g₂.1;
      v_range = g₂.2;
      e_is = g₃.1;
      e_range = g₃.2;
      d_is = g₄.1;
      d_range = g₄.2;
      t_is = g₅.1;
      t_range = g₅.2;
      costs_read = w₁.0;
      edges_read = w₂.0;
      no_cycle = w₃.0;
      task_is = ap (λ (z : TaskRead). z.task) w₃.1;
      costs_are = ap (λ (z : TaskRead). z.costs) w₃.1;
      next_is = ap (λ (z : TaskRead). z.next) w₃.1;
    }

-- ---- a table: its head, and what its tasks are added to
unfoldable pub none_yet : ℕ → ℕ → Table
none_yet m n = record { m = m; n = n; tasks = no_tasks; costs = no_row }

pub record TableWent (s : List ℕ) (at : ℕ) (r : TableRead) : Type 0 where
  pub x : ℕ
  pub m : ℕ
  pub n : ℕ
  pub mark_is : mark_at 0x42 s at ≡ Ok x
  pub m_is : byte_at 1 8 s (at + 2) ≡ Ok m
  pub m_range : Between 1 8 m
  pub n_is : byte_at 1 16 s (at + 3) ≡ Ok n
  pub n_range : Between 1 16 n
  pub tasks_are : r ≡ tasks_at s n 0 (at + 4) (none_yet m n)

pub table_went : (s : List ℕ) (at : ℕ) (r : TableRead) → r.outcome ≡ Read → r ≡ table_at s at → TableWent s at r
unfolding table_at none_yet
table_went s at r h q =
    let out : TableRead → Outcome = λ (x : TableRead). x.outcome in
    let g₁ = on_field out bad_table out_table (mark_at 0x42 s at) (mark_view 0x42 s at) _ r h q in
    let g₂ = on_field out bad_table out_table (byte_at 1 8 s (at + 2)) (byte_view 1 8 s (at + 2)) _ r h g₁.3 in
    let g₃ = on_field out bad_table out_table (byte_at 1 16 s (at + 3)) (byte_view 1 16 s (at + 3)) _ r h g₂.3 in
    record {
      x = g₁.0;
      m = g₂.0;
      n = g₃.0;
      mark_is = g₁.1;
      m_is = g₂.1;
      m_range = g₂.2;
      n_is = g₃.1;
      n_range = g₃.2;
      tasks_are = g₃.3;
    }

-- ---- a file: its table, which ends where the file does
pub record FileWent (s : List ℕ) : Type 0 where
  pub table_read : (table_at s 0).outcome ≡ Read
  pub at_end : (table_at s 0).next ≡ length s
  pub table_is : (read s).table ≡ (table_at s 0).table

pub file_went : (s : List ℕ) → (read s).outcome ≡ Read → FileWent s
unfolding read ending number
file_went s h =
    let out : Loaded → Outcome = λ (x : Loaded). x.outcome in
    let r : TableRead = table_at s 0 in
    let w₁ = went out refused out_loaded r.outcome _ (read s) h refl in
    let w₂ = passed out refused out_loaded (eqb r.next (length s)) _ (Extra r.next) (bad_by (Extra r.next) 7 refl) (read s) h w₁.1 in
    record { table_read = w₁.0; at_end = eqb-true r.next (length s) w₂.0; table_is = ap (λ (x : Loaded). x.table) w₂.1 }
