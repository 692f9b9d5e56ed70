use mathlib.Core.Path.{◌≡◌, refl, ◌∙◌}
use Prim.Native.Nat.{◌+◌, ◌*◌}
use native.Mathlib.Omega.{arith}
use Rattle.table.specs.Memory.{no_succ}
use Rattle.table.proofs.FieldLaws.{handed, mark_read, byte_read, ticks_read, period_read}
use Rattle.table.proofs.PartLaws.{costs_within, told_ok}
use Rattle.table.proofs.TaskLaws.{task_mark, task_v, task_e, task_d, task_t, task_parts, task_refused, task_row, cycle_refused, row_costs, row_edges, row_cycle, row_got}
use Rattle.table.proofs.reading.task_at.Goals as goal

-- ---- the places lie within the input
pub overflow_add-at : goal.overflow_add-at
overflow_add-at c = omega (arith, mark_read _ _ _ _ c.in_ok-mark_at.ensures)

pub overflow_add-at-2 : goal.overflow_add-at-2
overflow_add-at-2 c = omega (arith, (byte_read _ _ _ _ _ c.in_ok-v.ensures).0)

pub overflow_add-at-3 : goal.overflow_add-at-3
overflow_add-at-3 c = omega (arith, (byte_read _ _ _ _ _ c.in_ok-e.ensures).0)

pub ticks_at-requires : goal.ticks_at-requires
ticks_at-requires c = omega (arith, (byte_read _ _ _ _ _ c.in_ok-e.ensures).0)

pub overflow_add-at-4 : goal.overflow_add-at-4
overflow_add-at-4 c = omega (arith, (ticks_read _ _ _ _ c.in_ok-d.ensures).0)

pub period_at-requires : goal.period_at-requires
period_at-requires c = omega (arith, (ticks_read _ _ _ _ c.in_ok-d.ensures).0)

pub overflow_add-at-5 : goal.overflow_add-at-5
overflow_add-at-5 c = omega (arith, (period_read _ _ _ _ c.in_ok-t.ensures).0)

pub costs_at-requires : goal.costs_at-requires
costs_at-requires c = let h = c.requires.0 in (
  (byte_read _ _ _ _ _ c.in_ok-v.ensures).2,
  omega (arith, (period_read _ _ _ _ c.in_ok-t.ensures).0),
  omega arith,
  c.requires.1,
)

pub overflow_add-from : goal.overflow_add-from
overflow_add-from c = omega (arith, (period_read _ _ _ _ c.in_ok-t.ensures).0)

pub overflow_add-from-2 : goal.overflow_add-from-2
overflow_add-from-2 c = omega (arith, c.from.ensures, (period_read _ _ _ _ c.in_ok-t.ensures).0)

pub edges_at-requires : goal.edges_at-requires
edges_at-requires c =
    let a = c.args in
    let p = (period_read _ _ _ _ c.in_ok-t.ensures).0 in
    let l = costs_within a.bytes.now c.in_ok-v.v (a.at + 12) (16 * a.i) a.costs.now (omega arith) (told_ok _ _ c.in_ok-costs_at.ensures.0) in
    ((byte_read _ _ _ _ _ c.in_ok-v.ensures).2, omega (arith, c.from.ensures), refl)

pub overflow_add-next : goal.overflow_add-next
overflow_add-next c = omega (arith, c.from.ensures, c.from-2.ensures, (period_read _ _ _ _ c.in_ok-t.ensures).0)

-- ---- refused at a field
pub returns-in_err-mark_at : goal.returns-in_err-mark_at
returns-in_err-mark_at c = task_refused _ _ (task_mark _ _ _ c.in_err-mark_at.ensures) _ (handed _ _ c.from_residual.ensures.1) _ _ _

pub returns-in_err-v : goal.returns-in_err-v
returns-in_err-v c = task_refused _ _ (task_v _ _ _ c.in_ok-mark_at.ensures _ c.in_err-v.ensures) _ (handed _ _ c.from_residual-in_err-v.ensures.1) _ _ _

pub returns-in_err-e : goal.returns-in_err-e
returns-in_err-e c =
    task_refused _ _ (task_e _ _ _ c.in_ok-mark_at.ensures _ c.in_ok-v.ensures _ c.in_err-e.ensures) _ (handed _ _ c.from_residual-in_err-e.ensures.1) _ _ _

pub returns-in_err-d : goal.returns-in_err-d
returns-in_err-d c =
    task_refused _ _ (task_d _ _ _ c.in_ok-mark_at.ensures _ c.in_ok-v.ensures _ c.in_ok-e.ensures _ c.in_err-d.ensures) _ (handed _ _ c.from_residual-in_err-d.ensures.1) _ _ _

pub returns-in_err-t : goal.returns-in_err-t
returns-in_err-t c =
    task_refused _ _ (task_t _ _ _ c.in_ok-mark_at.ensures _ c.in_ok-v.ensures _ c.in_ok-e.ensures _ c.in_ok-d.ensures _ c.in_err-t.ensures) _
    (handed _ _ c.from_residual-in_err-t.ensures.1) _ _ _

-- ---- refused at a part, and read
pub returns-in_err-costs_at : goal.returns-in_err-costs_at
returns-in_err-costs_at c =
    let a = c.args in
    let g = c.requires in
    let v = (byte_read _ _ _ _ _ c.in_ok-v.ensures).2 in
    let p = row_costs a.bytes.now a.at c.in_ok-v.v c.in_ok-e.e c.in_ok-d.d c.in_ok-t.t a.i a.costs.now g.0 v g.1 g.2 _ c.in_err-costs_at.ensures.0 in
    let q = task_parts _ _ _ c.in_ok-mark_at.ensures _ c.in_ok-v.ensures _ c.in_ok-e.ensures _ c.in_ok-d.ensures _ c.in_ok-t.ensures in
    task_refused _ _ (p.0 ∙ q, p.1) _ (handed _ _ c.from_residual-in_err-costs_at.ensures.1) _ _ _

pub returns-in_err-edges_at : goal.returns-in_err-edges_at
unfolding no_succ
returns-in_err-edges_at c =
    let a = c.args in
    let g = c.requires in
    let v = (byte_read _ _ _ _ _ c.in_ok-v.ensures).2 in
    let h = rw c.from.ensures at c.in_err-edges_at.ensures in
    let p = row_edges a.bytes.now a.at c.in_ok-v.v c.in_ok-e.e c.in_ok-d.d c.in_ok-t.t a.i a.costs.now g.0 v g.1 g.2 _ c.in_ok-costs_at.ensures.0 _ h.0 in
    let q = task_parts _ _ _ c.in_ok-mark_at.ensures _ c.in_ok-v.ensures _ c.in_ok-e.ensures _ c.in_ok-d.ensures _ c.in_ok-t.ensures in
    task_refused _ _ (p.0 ∙ q, p.1) _ (handed _ _ c.from_residual-in_err-edges_at.ensures.1) _ _ _

pub returns-then-not-is_acyclic : goal.returns-then-not-is_acyclic
unfolding no_succ
returns-then-not-is_acyclic c =
    let a = c.args in
    let g = c.requires in
    let v = (byte_read _ _ _ _ _ c.in_ok-v.ensures).2 in
    let h = rw c.from.ensures at c.in_ok-edges_at.ensures in
    let p = row_cycle a.bytes.now a.at c.in_ok-v.v c.in_ok-e.e c.in_ok-d.d c.in_ok-t.t a.i a.costs.now g.0 v g.1 g.2 _ c.in_ok-costs_at.ensures.0 _ h.0 _ h.1
    _ c.is_acyclic.ensures c.if-not-is_acyclic.true in
    let q = task_parts _ _ _ c.in_ok-mark_at.ensures _ c.in_ok-v.ensures _ c.in_ok-e.ensures _ c.in_ok-d.ensures _ c.in_ok-t.ensures in
    task_refused _ _ (p ∙ q, cycle_refused a.at) _ refl _ _ _

pub returns : goal.returns
unfolding no_succ
returns c =
    let a = c.args in
    let g = c.requires in
    let v = (byte_read _ _ _ _ _ c.in_ok-v.ensures).2 in
    let h = rw c.from.ensures at c.in_ok-edges_at.ensures in
    let n : a.at + 12 + 4 * c.from.result + 2 * c.from-2.result ≡ a.at + 12 + 4 * c.in_ok-v.v + 2 * c.in_ok-e.e = rw (c.from.ensures, c.from-2.ensures) refl in
    let p = row_got a.bytes.now a.at c.in_ok-v.v c.in_ok-e.e c.in_ok-d.d c.in_ok-t.t a.i a.costs.now g.0 v g.1 g.2 _ c.in_ok-costs_at.ensures.0 _ h.0 _ h.1
    _ c.is_acyclic.ensures c.if-not-is_acyclic.false (a.at + 12 + 4 * c.from.result + 2 * c.from-2.result) n _ c.in_ok-costs_at.ensures.1 in
    let q = task_parts _ _ _ c.in_ok-mark_at.ensures _ c.in_ok-v.ensures _ c.in_ok-e.ensures _ c.in_ok-d.ensures _ c.in_ok-t.ensures in
    task_row _ _ _ _ _ _ q p
