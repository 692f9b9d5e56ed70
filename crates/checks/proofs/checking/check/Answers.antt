use mathlib.Core.Path.{◌∙◌}
use Rattle.table.specs.declared.Outcome.TheVariants.{Range}
use Rattle.table.proofs.FieldLaws.{handed}
use Rattle.checks.proofs.TaskTests.{let_through, bad_m, bad_n, then_tasks}
use Rattle.checks.proofs.checking.check.Goals as goal

pub returns-in_err-ranged : goal.returns-in_err-ranged
returns-in_err-ranged c = handed _ _ c.from_residual.ensures.1 ∙ bad_m c.args.table _ c.from.ensures _ c.in_err-ranged.ensures

pub returns-in_err-ranged-2 : goal.returns-in_err-ranged-2
returns-in_err-ranged-2 c =
    let m = let_through Range 1 8 2 _ c.args.table.m _ c.from.ensures c.in_ok-ranged.ensures in
    handed _ _ c.from_residual-in_err-ranged-2.ensures.1 ∙ bad_n c.args.table m.0 _ c.from-2.ensures _ c.in_err-ranged-2.ensures

pub check_tasks-requires : goal.check_tasks-requires
check_tasks-requires c = (let_through Range 1 16 3 _ c.args.table.n _ c.from-2.ensures c.in_ok-ranged-2.ensures).2

pub returns : goal.returns
returns c =
    let m = let_through Range 1 8 2 _ c.args.table.m _ c.from.ensures c.in_ok-ranged.ensures in
    let n = let_through Range 1 16 3 _ c.args.table.n _ c.from-2.ensures c.in_ok-ranged-2.ensures in
    c.check_tasks.ensures ∙ then_tasks c.args.table m.0 n.0
