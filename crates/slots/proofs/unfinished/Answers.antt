use mathlib.Core.Path.{◌≡◌, sym, ap, ◌∙◌}
use mathlib.Core.List.{List}
use Prim.Native.Nat.{ℕ, ◌<◌}
use native.Mathlib.Omega.{arith}
use lib.ListN.{get_or}
use Rattle.slots.specs.Slots.{at}
use Rattle.slots.proofs.Behind.{gathered_none, gathered_more, gathered_same, gathered_all, gathered_past}
use Rattle.slots.proofs.Rows.{row_has}
use Rattle.slots.proofs.unfinished.Goals as goal
use Rattle.slots.proofs.unfinished.Goals.{then-left-ne0, else-left-ne0}

-- past the sixty-four slots
pub returns-then-s-ge64 : goal.returns-then-s-ge64
returns-then-s-ge64 c = gathered_past c.args.remaining.now c.args.s c.if-s-ge64.true

pub loop-u-init : goal.loop-u-init
loop-u-init c = gathered_none _ _

pub loop-u-preserved : goal.loop-u-preserved
loop-u-preserved c =
    let a = c.args in
    let l = c.loop-u in
    let f = c.of_slot-left-items in
    let b : l.u < 16 = omega (arith, c.loop-u-test.true, f.ensures.1) in
    let same : get_or f.result.now l.u 0 ≡ at a.remaining.now a.s l.u =
    ap (λ (x : List ℕ). get_or x l.u 0) f.ensures.0 ∙ row_has a.remaining.now a.s c.told-remaining c.if-s-ge64.false l.u b in
    elim c.if-left-ne0.branch [
      | then-left-ne0 w ↦ rw w.set-is (gathered_more a.remaining.now a.s l.u l.set b l.invariant (λ z. w.if-left-ne0.true (same ∙ z)))
      | else-left-ne0 w ↦ rw w.set-is (gathered_same a.remaining.now a.s l.u l.set b l.invariant (sym same ∙ w.if-left-ne0.false))
    ]

pub returns : goal.returns
returns c =
    let a = c.args in
    let l = c.loop-u in
    let f = c.of_slot-left-items in
    gathered_all a.remaining.now a.s l.u l.set c.if-s-ge64.false
    (omega (arith, c.loop-u-test.false, c.loop-u.auto.u-end, f.ensures.1)) l.invariant
