use mathlib.Core.Path.{refl}
use Prim.Native.Nat.{◌+◌, ◌*◌, ◌%◌}
use native.Mathlib.Omega.{arith}
use borrow.Author.Tests.{eq-eqb, ne_eqb}
use lib.ListN.{get_or}
use Rattle.graph.specs.Words.{all, bit}
use Rattle.slots.proofs.Behind.{all_more, all_off, all_done_lem, in_short, in_whole, not_in}
use Rattle.slots.proofs.whole_in.Goals as goal
use Rattle.slots.proofs.whole_in.Goals.{else-set-u-eq1-via-then-set-u-eq1+else-remaining-k, else-set-u-eq1-via-else-set-u-eq1}

pub loop-u-init : goal.loop-u-init
unfolding all
loop-u-init c = (omega arith, refl)

pub returns-then-remaining-k : goal.returns-then-remaining-k
unfolding bit
returns-then-remaining-k c =
    let l = c.loop-u in
    let a = c.args in
    let x = get_or a.remaining.now (16 * a.s + l.u) 0 in
    let y = get_or a.costs.now ((16 * a.s + l.u) % 256) 0 in
    all_off _ _ l.u (omega arith) (in_short a.set l.u x y (eq-eqb _ _ c.if-set-u-eq1.true) c.if-remaining-k.true)

pub loop-u-preserved : goal.loop-u-preserved
unfolding bit
loop-u-preserved c =
    let l = c.loop-u in
    let a = c.args in
    let x = get_or a.remaining.now (16 * a.s + l.u) 0 in
    let y = get_or a.costs.now ((16 * a.s + l.u) % 256) 0 in
    elim c.else-set-u-eq1.branch [
      | else-set-u-eq1-via-then-set-u-eq1+else-remaining-k w ↦ (omega arith, all_more _ _ l.invariant.1 (in_whole a.set l.u x y w.if-remaining-k.false))
      | else-set-u-eq1-via-else-set-u-eq1 w ↦ (omega arith, all_more _ _ l.invariant.1 (not_in a.set l.u x y (ne_eqb _ _ w.if-set-u-eq1.false)))
    ]

pub returns : goal.returns
returns c = all_done_lem _ _ c.loop-u.u (omega arith) c.loop-u.invariant.1
