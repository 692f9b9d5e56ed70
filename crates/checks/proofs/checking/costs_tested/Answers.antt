use mathlib.Core.Path.{◌∙◌}
use Prim.Native.Nat.{◌+◌, ◌-◌}
use native.Mathlib.Omega.{arith}
use Rattle.checks.proofs.TestLaws.{costs_over, costs_more, costs_end}
use Rattle.checks.proofs.checking.costs_tested.Goals as goal

pub returns-then-costs-slot-gt1000000 : goal.returns-then-costs-slot-gt1000000
returns-then-costs-slot-gt1000000 c =
    costs_over _ _ (c.args.v - (c.loop-u.u + 1)) _ _ (omega arith) c.if-costs-slot-gt1000000.true ∙ c.loop-u.invariant.1

pub loop-u-preserved : goal.loop-u-preserved
loop-u-preserved c =
    (omega arith, costs_more _ _ _ _ (c.args.slot + c.loop-u.u) (omega arith) _ (omega arith) c.if-costs-slot-gt1000000.false ∙ c.loop-u.invariant.1)

pub returns : goal.returns
returns c = costs_end _ (c.args.v - c.loop-u.u) _ _ (omega arith) ∙ c.loop-u.invariant.1
