use mathlib.Core.Path.{sym, ap, ◌∙◌}
use Prim.Native.Nat.{ℕ, ◌+◌, ◌*◌}
use native.Mathlib.Omega.{arith}
use lib.Count.{ones-le}
use mir.Val.{Fits}
use mir.Syntax.{w16}
use borrow.Author.Rules.{rules}
use Rattle.checks.proofs.TestLaws.{done, row_passes, bits_pass}
use Rattle.checks.proofs.Keys.{row_many}
use Rattle.checks.proofs.checking.row_tested.Goals as goal

pub overflow_cast-result : goal.overflow_cast-result
overflow_cast-result c =
    let h : Fits w16 c.args.bits = search rules in
    let o = ones-le 16 c.args.bits (omega arith) in
    omega arith

pub overflow_mul-result : goal.overflow_mul-result
overflow_mul-result c =
    let h : Fits w16 c.args.bits = search rules in
    let o = ones-le 16 c.args.bits (omega arith) in
    omega arith

pub overflow_add-result : goal.overflow_add-result
overflow_add-result c =
    let h : Fits w16 c.args.bits = search rules in
    let o = ones-le 16 c.args.bits (omega arith) in
    omega arith

pub returns-then-bits-u-eq0 : goal.returns-then-bits-u-eq0
returns-then-bits-u-eq0 c =
    let a = c.args in
    let h : Fits w16 a.bits = search rules in
    let m = row_many 16 a.u 0 a.bits (omega arith) in
    ap (λ (n : ℕ). done (a.at + 2 * n)) (sym m)
    ∙ row_passes a.v 16 a.u 0 a.bits a.at (omega arith) (bits_pass a.v a.u a.bits (rw c.from.ensures at c.if-high-eq0.true) c.if-bits-u-eq0.true)
