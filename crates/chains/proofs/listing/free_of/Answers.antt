use Prim.Native.Nat.{◌-◌, ◌<◌, ◌^◌}
use native.Mathlib.Omega.{arith}
use borrow.Author.Rules.{rules}
use borrow.Author.Tests.{eq-eqb, eqb-true}
use Rattle.graph.specs.Words.{bit}
use Rattle.chains.proofs.Picks.{free_leads, none_lower, none_free}
use Rattle.chains.proofs.listing.free_of.Goals as goal
use Rattle.chains.proofs.listing.free_of.Goals.{else-left-u-eq1-via-then-left-u-eq1+else-succ-u-eq0, else-left-u-eq1-via-else-left-u-eq1}

pub loop-u-init : goal.loop-u-init
loop-u-init c = λ x a b. absurd (omega arith)

pub returns-then-succ-u-eq0 : goal.returns-then-succ-u-eq0
unfolding bit
returns-then-succ-u-eq0 c =
    let a = c.args in
    let u = c.loop-u.u in
    let here = eq-eqb _ _ c.if-left-u-eq1.true in
    (omega (arith, c.loop-u.auto.u), here, free_leads a.succ.now a.left (u - 1) (here, c.if-succ-u-eq0.true))

pub loop-u-preserved : goal.loop-u-preserved
unfolding bit
loop-u-preserved c =
    let a = c.args in
    let l = c.loop-u in
    elim c.else-left-u-eq1.branch [
      | else-left-u-eq1-via-then-left-u-eq1+else-succ-u-eq0 w ↦ none_lower a.succ.now a.left l.u c.loop-u-test.true l.invariant (λ f. w.if-succ-u-eq0.false f.1)
      | else-left-u-eq1-via-else-left-u-eq1 w ↦ none_lower a.succ.now a.left l.u c.loop-u-test.true l.invariant (λ f. w.if-left-u-eq1.false (eqb-true _ _ f.0))
    ]

pub returns : goal.returns
returns c =
    let h : c.args.left < 2 ^ 16 = search rules in
    none_free c.args.succ.now c.args.left h c.requires (λ x a b. c.loop-u.invariant x (omega arith) b)
