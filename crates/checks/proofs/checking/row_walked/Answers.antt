use mathlib.Core.Path.{refl, ap, ◌∙◌}
use native.Mathlib.Omega.{arith}
use borrow.Author.Rules.{rules}
use lib.ListN.{length}
use Rattle.graph.proofs.Members.{took}
use Rattle.checks.proofs.RowSteps.{row_took, row_most}
use Rattle.checks.proofs.TestLaws.{member_bad, member_passes, member_none}
use Rattle.checks.proofs.checking.row_walked.Goals as goal

pub loop-w-init : goal.loop-w-init
loop-w-init c = rw (c.into_iter-w-iterator.ensures.into_iter_gives, c.from-w-items.ensures) (search rules, refl, refl)

pub returns-then-v-w : goal.returns-then-v-w
returns-then-v-w c =
    let l = c.loop-w in
    let t = took c.in-Some.ensures.steps l.invariant.0 in
    member_bad _ _ _ _ _ _ t c.then-v-w.either ∙ l.invariant.2

pub overflow_add-p : goal.overflow_add-p
overflow_add-p c =
    let l = c.loop-w in
    let m = row_most 16 c.args.u 0 c.args.bits in
    omega (arith, l.invariant.1)

pub loop-w-preserved : goal.loop-w-preserved
loop-w-preserved c =
    let l = c.loop-w in
    let t = took c.in-Some.ensures.steps l.invariant.0 in
    let n = ap length (row_took c.args.u _ _ _ t) in
    (t.small, omega (arith, n, l.invariant.1), member_passes _ _ _ _ _ _ t (omega arith) (λ e. omega arith) ∙ l.invariant.2)

pub returns : goal.returns
returns c = let l = c.loop-w in member_none _ _ _ _ c.in-None.ensures.steps.0 ∙ l.invariant.2
