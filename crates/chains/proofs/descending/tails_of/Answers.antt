use mathlib.Core.Path.{refl, sym, ◌∙◌}
use native.Mathlib.Omega.{arith}
use borrow.Author.Rules.{rules}
use mir.Val.{Fits}
use mir.Syntax.{w16, w32}
use Prim.Native.Nat.{ℕ}
use lib.ListN.{get_or}
use Rattle.chains.proofs.Descent.{none_settled, settled_known, settled_more, started_next, all_settled, cycle_tails}
use Rattle.chains.proofs.descending.tails_of.Goals as goal

pub returns-then-not-is_acyclic : goal.returns-then-not-is_acyclic
returns-then-not-is_acyclic c =
    let a = c.args in
    cycle_tails a.succ a.times (sym c.is_acyclic.ensures ∙ c.if-not-is_acyclic.true)

pub loop-u-init : goal.loop-u-init
loop-u-init c = let a = c.args in (refl, none_settled a.succ a.times _, λ k b. absurd (omega arith))

pub descend-left-requires : goal.descend-left-requires
descend-left-requires c =
    let l = c.loop-u in
    let a = c.args in
    let bits : (k : ℕ) → Fits w16 (get_or a.succ k 0) = λ k. search rules in
    let brief : (k : ℕ) → Fits w32 (get_or a.times k 0) = λ k. search rules in
    let passes = sym c.is_acyclic.ensures ∙ c.if-not-is_acyclic.false in
    (search rules, record { passes = passes; bits = λ k. omega (arith, bits k); brief = λ k. omega (arith, brief k) }, settled_known a.succ a.times l.left l.tails l.invariant.1 l.u)

pub loop-u-preserved : goal.loop-u-preserved
loop-u-preserved c =
    let l = c.loop-u in
    let a = c.args in
    let d = c.descend-left in
    (d.array_long, settled_more a.succ a.times l.left l.tails l.invariant.1 l.u d.result d.new.tails d.ensures.1, started_next d.ensures.1 l.invariant.2)

pub returns : goal.returns
returns c =
    let l = c.loop-u in
    let a = c.args in
    let passes = sym c.is_acyclic.ensures ∙ c.if-not-is_acyclic.false in
    all_settled a.succ a.times l.left l.tails l.invariant.1 passes (λ k b. l.invariant.2 k (omega (arith, b))) l.invariant.0
