use mathlib.Core.List.{List}
use mathlib.Core.Path.{ap, ◌∙◌}
use Prim.Native.Nat.{ℕ}
use native.Mathlib.Omega.{arith}
use lib.Count.{ones-le}
use lib.ListN.{get_or}
use mir.Val.{Fits}
use mir.Syntax.{w16}
use borrow.Author.Rules.{rules}
use Rattle.table.proofs.FieldLaws.{handed}
use Rattle.checks.specs.Checking.{row_keys, edges_tested}
use Rattle.checks.proofs.TestLaws.{rows_stop, rows_go, rows_end, edges_next, keys_start}
use Rattle.checks.proofs.Keys.{row_many}
use Rattle.checks.proofs.checking.edges_tested.Goals as goal

pub loop-u-init : goal.loop-u-init
loop-u-init c = (search rules, ap (λ (l : List ℕ). edges_tested c.args.v l c.args.at) (keys_start c.args.v c.args.succ))

pub returns-in_err-p : goal.returns-in_err-p
returns-in_err-p c =
    handed _ _ c.from_residual.ensures.1 ∙ rows_stop c.args.v c.args.succ c.loop-u.u c.loop-u.p (omega arith) _ c.in_err-p.ensures ∙ c.loop-u.invariant.1

pub loop-u-preserved : goal.loop-u-preserved
loop-u-preserved c =
    let h = c.in_ok-p.ensures in
    let x = get_or c.args.succ c.loop-u.u 0 in
    let f : Fits w16 x = search rules in
    let o = ones-le 16 x (omega arith) in
    let m = row_many 16 c.loop-u.u 0 x (omega arith) in
    let n = edges_next c.args.v (row_keys 16 c.loop-u.u 0 x) c.loop-u.p _ h in
    (omega arith, rows_go c.args.v c.args.succ c.loop-u.u c.loop-u.p (omega arith) _ h ∙ c.loop-u.invariant.1)

pub returns : goal.returns
returns c = rows_end c.args.v c.args.succ c.loop-u.u c.loop-u.p (omega arith) ∙ c.loop-u.invariant.1
