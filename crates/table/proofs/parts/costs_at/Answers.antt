use Rattle.table.proofs.PartLaws.{costs_end, costs_stop, costs_got, told_stop}
use Rattle.table.proofs.FieldLaws.{handed, ticks_read}
use Rattle.table.proofs.FieldViews.{halted, ticks_view}
use Rattle.table.specs.Reading.{CostsRead}
use Rattle.table.specs.Parts.{told}
use borrow.Author.Rules.{rules}
use native.Mathlib.Omega.{arith}
use mathlib.Core.Path.{◌≡◌, ap, ◌∙◌}
use Prim.Native.Nat.{◌+◌, ◌-◌}
use Rattle.table.proofs.parts.costs_at.Goals as goal

pub returns-in_err-costs : goal.returns-in_err-costs
returns-in_err-costs c =
    let a = c.args in
    let l = c.loop-u in
    let h = c.in_err-costs.ensures in
    let e = costs_stop _ _ _ _ _ (a.v - (l.u + 1)) (omega arith) _ h ∙ l.invariant.3 in (
      handed _ _ c.from_residual.ensures.1 ∙ told_stop _ (halted _ (ticks_view 0 a.bytes.now l.p) _ h) ∙ ap (λ (r : CostsRead). told r.outcome) e,
      ap (λ (r : CostsRead). r.costs) e,
    )

pub loop-u-preserved : goal.loop-u-preserved
loop-u-preserved c =
    let a = c.args in
    let l = c.loop-u in
    let h = c.in_ok-costs.ensures in
    let e : a.slot + (l.u + 1) ≡ a.slot + l.u + 1 = omega arith in (
      search rules,
      omega (arith, (ticks_read _ _ _ _ h).0),
      search rules,
      rw e (costs_got _ _ _ _ _ _ (omega arith) _ h ∙ l.invariant.3),
    )

pub returns : goal.returns
unfolding told
returns c =
    let e = costs_end _ _ _ _ _ (omega arith) ∙ c.loop-u.invariant.3 in
    (ap (λ (r : CostsRead). told r.outcome) e, ap (λ (r : CostsRead). r.costs) e)
