use mathlib.Core.Path.{◌≡◌, refl, ◌∙◌}
use Prim.Native.Nat.{◌+◌}
use native.Mathlib.Omega.{arith}
use lib.ListN.{length}
use Rattle.table.specs.declared.Outcome.TheVariants.{Range, Ticks}
use Rattle.table.proofs.FieldLaws.{handed}
use Rattle.checks.specs.Checking.{keys_of}
use Rattle.checks.proofs.TaskTests.{let_through, bad_v, bad_e, bad_d, bad_t, bad_order, then_parts}
use Rattle.checks.proofs.checking.check_task.Goals as goal

pub returns-in_err-ranged : goal.returns-in_err-ranged
returns-in_err-ranged c =
    let a = c.args in
    handed _ _ c.from_residual.ensures.1 ∙ bad_v a.task a.costs.now a.slot a.at _ c.from.ensures _ c.in_err-ranged.ensures

pub edge_count-requires : goal.edge_count-requires
edge_count-requires c =
    let v = let_through Range 1 16 (c.args.at + 2) _ c.args.task.v _ c.from.ensures c.in_ok-ranged.ensures in
    omega (arith, v.2, c.from-v.ensures)

pub returns-in_err-ranged-2 : goal.returns-in_err-ranged-2
returns-in_err-ranged-2 c =
    let a = c.args in
    let v = let_through Range 1 16 (a.at + 2) _ a.task.v _ c.from.ensures c.in_ok-ranged.ensures in
    let e : c.edge_count.result ≡ length (keys_of a.task.v a.task.succ) = rw c.from-v.ensures at c.edge_count.ensures.0 in
    handed _ _ c.from_residual-in_err-ranged-2.ensures.1 ∙ bad_e a.task a.costs.now a.slot a.at v.0 _ e _ c.in_err-ranged-2.ensures

pub returns-in_err-d : goal.returns-in_err-d
returns-in_err-d c =
    let a = c.args in
    let v = let_through Range 1 16 (a.at + 2) _ a.task.v _ c.from.ensures c.in_ok-ranged.ensures in
    let n : c.edge_count.result ≡ length (keys_of a.task.v a.task.succ) = rw c.from-v.ensures at c.edge_count.ensures.0 in
    let e = let_through Range 0 120 (a.at + 3) _ _ _ n c.in_ok-ranged-2.ensures in
    handed _ _ c.from_residual-in_err-d.ensures.1 ∙ bad_d a.task a.costs.now a.slot a.at v.0 e.0 _ c.in_err-d.ensures

pub returns-in_err-t : goal.returns-in_err-t
returns-in_err-t c =
    let a = c.args in
    let v = let_through Range 1 16 (a.at + 2) _ a.task.v _ c.from.ensures c.in_ok-ranged.ensures in
    let n : c.edge_count.result ≡ length (keys_of a.task.v a.task.succ) = rw c.from-v.ensures at c.edge_count.ensures.0 in
    let e = let_through Range 0 120 (a.at + 3) _ _ _ n c.in_ok-ranged-2.ensures in
    let d = let_through Ticks 1 1000000 (a.at + 4) a.task.d a.task.d _ refl c.in_ok-d.ensures in
    handed _ _ c.from_residual-in_err-t.ensures.1 ∙ bad_t a.task a.costs.now a.slot a.at v.0 e.0 d.0 _ c.in_err-t.ensures

-- T is at most 1,000,000, so four times T does not wrap
pub overflow_mul-t : goal.overflow_mul-t
overflow_mul-t c =
    let t = let_through Ticks 1 1000000 (c.args.at + 8) c.args.task.t c.args.task.t _ refl c.in_ok-t.ensures in
    omega (arith, t.2, t.3)

pub returns-then-t-d : goal.returns-then-t-d
returns-then-t-d c =
    let a = c.args in
    let v = let_through Range 1 16 (a.at + 2) _ a.task.v _ c.from.ensures c.in_ok-ranged.ensures in
    let n : c.edge_count.result ≡ length (keys_of a.task.v a.task.succ) = rw c.from-v.ensures at c.edge_count.ensures.0 in
    let e = let_through Range 0 120 (a.at + 3) _ _ _ n c.in_ok-ranged-2.ensures in
    let d = let_through Ticks 1 1000000 (a.at + 4) a.task.d a.task.d _ refl c.in_ok-d.ensures in
    let t = let_through Ticks 1 1000000 (a.at + 8) a.task.t a.task.t _ refl c.in_ok-t.ensures in
    bad_order a.task a.costs.now a.slot a.at v.0 e.0 d.0 t.0 (omega (arith, d.3, t.3))

pub check_parts-requires : goal.check_parts-requires
check_parts-requires c =
    let g = c.requires in
    let v = let_through Range 1 16 (c.args.at + 2) _ c.args.task.v _ c.from.ensures c.in_ok-ranged.ensures in
    let l = v.2 in
    let q = c.from-v.ensures in
    (omega arith, omega arith, g.1)

pub returns : goal.returns
returns c =
    let a = c.args in
    let v = let_through Range 1 16 (a.at + 2) _ a.task.v _ c.from.ensures c.in_ok-ranged.ensures in
    let n : c.edge_count.result ≡ length (keys_of a.task.v a.task.succ) = rw c.from-v.ensures at c.edge_count.ensures.0 in
    let e = let_through Range 0 120 (a.at + 3) _ _ _ n c.in_ok-ranged-2.ensures in
    let d = let_through Ticks 1 1000000 (a.at + 4) a.task.d a.task.d _ refl c.in_ok-d.ensures in
    let t = let_through Ticks 1 1000000 (a.at + 8) a.task.t a.task.t _ refl c.in_ok-t.ensures in
    rw c.from-v.ensures at c.check_parts.ensures ∙ then_parts a.task a.costs.now a.slot a.at v.0 e.0 d.0 t.0 (omega (arith, d.3, t.3))
