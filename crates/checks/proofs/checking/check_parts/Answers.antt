use mathlib.Core.Path.{sym, ap, ◌∙◌}
use Prim.Native.Nat.{◌+◌}
use native.Mathlib.Omega.{arith}
use Rattle.graph.specs.Graph.{acyclic}
use Rattle.table.proofs.FieldLaws.{handed}
use Rattle.checks.proofs.TestLaws.{costs_next}
use Rattle.checks.proofs.TaskTests.{parts_costs, parts_edges, parts_go, parts_cycle}
use Rattle.checks.proofs.checking.check_parts.Goals as goal

pub returns-in_err-after_costs : goal.returns-in_err-after_costs
returns-in_err-after_costs c =
    let a = c.args in
    handed _ _ c.from_residual.ensures.1 ∙ parts_costs a.succ a.costs.now a.slot a.at a.v _ c.in_err-after_costs.ensures

pub edges_tested-requires : goal.edges_tested-requires
edges_tested-requires c =
    let a = c.args in
    let n = costs_next a.costs.now a.v (a.at + 12) a.slot _ c.in_ok-after_costs.ensures in
    (c.requires.0, omega arith)

pub returns-in_err-next : goal.returns-in_err-next
returns-in_err-next c =
    let a = c.args in
    handed _ _ c.from_residual-in_err-next.ensures.1 ∙ parts_edges a.succ a.costs.now a.slot a.at a.v _ c.in_ok-after_costs.ensures _ c.in_err-next.ensures

pub returns-then-not-is_acyclic : goal.returns-then-not-is_acyclic
returns-then-not-is_acyclic c =
    let a = c.args in
    let b = sym (c.is_acyclic.ensures ∙ ap acyclic c.used_rows.ensures) ∙ c.if-not-is_acyclic.true in
    parts_cycle a.succ a.costs.now a.slot a.at a.v _ c.in_ok-after_costs.ensures _ c.in_ok-next.ensures b

pub returns : goal.returns
returns c =
    let a = c.args in
    let b = sym (c.is_acyclic.ensures ∙ ap acyclic c.used_rows.ensures) ∙ c.if-not-is_acyclic.false in
    parts_go a.succ a.costs.now a.slot a.at a.v _ c.in_ok-after_costs.ensures _ c.in_ok-next.ensures b
