use mathlib.Core.Path.{◌≡◌, refl, ◌∙◌}
use Rattle.table.specs.declared.Outcome.TheVariants.{Read}
use Rattle.table.specs.Memory.{no_succ, zero_task, no_tasks, no_row}
use Rattle.table.specs.Reading.{bad_table, tasks_at}
use Rattle.table.proofs.Bits.{zeros_at}
use Rattle.table.proofs.TaskLaws.{head_read, table_tasks, empty, read_refused, read_stop, read_extra, read_got}
use Rattle.table.proofs.reading.read.Goals as goal

pub returns-in-Err : goal.returns-in-Err
returns-in-Err c = read_refused _ _ c.in-Err.ensures _ c.refusal.ensures

pub tasks_at-requires : goal.tasks_at-requires
tasks_at-requires c = ((head_read _ _ _ c.in-Ok.ensures).2, refl, refl, λ k h. zeros_at 256 k)

pub returns-then-end-bytes : goal.returns-then-end-bytes
unfolding no_tasks no_row zero_task no_succ
returns-then-end-bytes c =
    let h = c.in-Ok.head in
    let t = c.tasks_at.new.table in
    let r : record { outcome = Read; next = c.in-Ok-tasks_at.end; table = t } ≡ tasks_at c.args.bytes.now h.n 0 4 (empty h) = c.in-Ok-tasks_at.ensures in
    read_extra _ (record { outcome = Read; next = c.in-Ok-tasks_at.end; table = t }) (r ∙ table_tasks _ _ _ c.in-Ok.ensures) _ refl c.if-end-bytes.true c.refusal-then-end-bytes.ensures

pub returns : goal.returns
unfolding no_tasks no_row zero_task no_succ
returns c =
    let h = c.in-Ok.head in
    let t = c.tasks_at.new.table in
    let r : record { outcome = Read; next = c.in-Ok-tasks_at.end; table = t } ≡ tasks_at c.args.bytes.now h.n 0 4 (empty h) = c.in-Ok-tasks_at.ensures in
    read_got _ (record { outcome = Read; next = c.in-Ok-tasks_at.end; table = t }) (r ∙ table_tasks _ _ _ c.in-Ok.ensures) refl c.if-end-bytes.false

pub returns-in-Err-tasks_at : goal.returns-in-Err-tasks_at
unfolding no_tasks no_row zero_task no_succ bad_table
returns-in-Err-tasks_at c =
    let h = c.in-Ok.head in
    let o = c.in-Err-tasks_at.outcome in
    let r : (o ≡ Read → ⊥) × (bad_table o ≡ tasks_at c.args.bytes.now h.n 0 4 (empty h)) = c.in-Err-tasks_at.ensures in
    read_stop _ (bad_table o) (r.1 ∙ table_tasks _ _ _ c.in-Ok.ensures) _ r.0 c.refusal-in-Err-tasks_at.ensures
