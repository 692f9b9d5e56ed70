use mathlib.Core.Path.{◌≡◌, sym, ap, ◌∙◌}
use Prim.Native.Nat.{ℕ, ◌+◌}
use native.Mathlib.Omega.{arith}
use Rattle.sharp.specs.Closed.{asked_from}
use Rattle.sharp.proofs.Reckoned.{asked_none, asked_next}
use Rattle.sharp.proofs.closed.asked_from.Goals as goal

pub loop-u-init : goal.loop-u-init
loop-u-init c = (asked_none _ _ _ _ _, omega arith)

pub part-total-requires : goal.part-total-requires
part-total-requires c =
    let l = c.loop-u in
    (c.requires.5 l.u (omega arith), omega (arith, c.saturating_sub-y.ensures), omega arith, omega arith)

pub overflow_add-total : goal.overflow_add-total
overflow_add-total c = let l = c.loop-u in omega (arith, l.invariant.1, c.part-total.ensures.1)

pub loop-u-preserved : goal.loop-u-preserved
loop-u-preserved c =
    let a = c.args in
    let l = c.loop-u in
    let p = c.part-total in
    let y = c.saturating_sub-y in (
      ap (λ (x : ℕ). x + p.result) l.invariant.0 ∙ sym (asked_next a.costs.now a.tails.now a.at l.u a.d a.t p.result y.result y.ensures p.ensures.0),
      omega (arith, l.invariant.1, p.ensures.1),
    )

pub returns : goal.returns
returns c =
    let a = c.args in
    let l = c.loop-u in
    let e : l.u ≡ a.v = omega arith in
    (l.invariant.0 ∙ ap (λ (x : ℕ). asked_from a.costs.now a.tails.now a.at x a.d a.t) e, omega (arith, l.invariant.1))
