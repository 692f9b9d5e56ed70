use mathlib.Core.Path.{◌≡◌, refl, ◌∙◌}
use Prim.Native.Nat.{◌+◌}
use native.Mathlib.Omega.{arith}
use Rattle.table.specs.declared.Outcome.TheVariants.{Read}
use Rattle.table.specs.Memory.{no_succ, zero_task, no_tasks, no_row}
use Rattle.table.specs.Reading.{bad_table, tasks_at}
use Rattle.table.proofs.Bits.{zeros_at}
use Rattle.table.proofs.TaskLaws.{head_read, table_stop, table_tasks, empty}
use Rattle.table.proofs.reading.table_at.Goals as goal

pub returns-in-Err : goal.returns-in-Err
returns-in-Err c = c.bad_table.ensures ∙ table_stop _ _ _ c.in-Err.ensures

pub overflow_add-at : goal.overflow_add-at
overflow_add-at c = omega (arith, (head_read _ _ _ c.in-Ok.ensures).0)

pub tasks_at-requires : goal.tasks_at-requires
tasks_at-requires c = ((head_read _ _ _ c.in-Ok.ensures).2, refl, refl, λ k h. zeros_at 256 k)

pub returns-in-Ok-tasks_at : goal.returns-in-Ok-tasks_at
unfolding no_tasks no_row zero_task no_succ
returns-in-Ok-tasks_at c =
    let h = c.in-Ok.head in
    let r : record { outcome = Read; next = c.in-Ok-tasks_at.next; table = c.tasks_at.new.table } ≡ tasks_at c.args.bytes.now h.n 0 (c.args.at + 4) (empty h) = c.in-Ok-tasks_at.ensures in
    r ∙ table_tasks _ _ _ c.in-Ok.ensures

pub returns-in-Err-tasks_at : goal.returns-in-Err-tasks_at
unfolding no_tasks no_row zero_task no_succ
returns-in-Err-tasks_at c =
    let h = c.in-Ok.head in
    let o = c.in-Err-tasks_at.outcome in
    let r : (o ≡ Read → ⊥) × (bad_table o ≡ tasks_at c.args.bytes.now h.n 0 (c.args.at + 4) (empty h)) = c.in-Err-tasks_at.ensures in
    c.bad_table-in-Err-tasks_at.ensures ∙ r.1 ∙ table_tasks _ _ _ c.in-Ok.ensures
