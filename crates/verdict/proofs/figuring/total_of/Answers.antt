use Rattle.std.proofs.Common.{ℕ, ◌+◌, refl, sym, ap₂, ◌∙◌, arith}
use Rattle.graph.specs.Words.{sum}
use Rattle.verdict.proofs.Figured.{sum_next, sum_done}
use Rattle.verdict.proofs.figuring.total_of.Goals as goal

pub loop-cost-init : goal.loop-cost-init
unfolding sum
loop-cost-init c = (refl, omega arith)

pub loop-cost-preserved : goal.loop-cost-preserved
loop-cost-preserved c =
    let l = c.loop-cost in
    (ap₂ (λ (x y : ℕ). x + y) l.invariant.0 c.from-total.ensures ∙ sym (sum_next _ _), omega (arith, l.invariant.1, c.from-total.ensures, c.loop-cost-test.element_fits))

pub returns : goal.returns
returns c = sum_done _ _ _ _ (omega arith) c.loop-cost.invariant.0
