use mathlib.Core.Path.{ap}
use Prim.Native.Nat.{◌+◌}
use native.Mathlib.Omega.{arith}
use lib.ListN.{length, get_or, length-append}
use lib.Count.{ones-le}
use mir.Syntax.{w16}
use mir.Val.{Fits}
use borrow.Author.Rules.{rules}
use Rattle.checks.specs.Checking.{row_keys}
use Rattle.checks.proofs.Keys.{row_many}
use Rattle.checks.proofs.TestLaws.{keys_from, keys_start, keys_next, keys_end}
use Rattle.checks.proofs.checking.edge_count.Goals as goal

pub loop-u-init : goal.loop-u-init
loop-u-init c = (search rules, omega (arith, ap length (keys_start c.args.v c.args.succ)))

pub loop-u-preserved : goal.loop-u-preserved
loop-u-preserved c =
    let a = c.args in
    let u = c.loop-u.u in
    let x = get_or a.succ u 0 in
    let h : Fits w16 (get_or c.args.succ c.loop-u.u 0) = search rules in
    let o = ones-le 16 x (omega arith) in
    let m = row_many 16 u 0 x (omega arith) in
    let n = ap length (keys_next a.v a.succ u (search rules)) in
    let l = length-append (row_keys 16 u 0 x) (keys_from a.v a.succ (u + 1)) in
    (omega arith, omega arith)

pub returns : goal.returns
returns c =
    let a = c.args in
    let e = ap length (keys_end a.v a.succ c.loop-u.u (search rules)) in
    (omega arith, omega arith)
