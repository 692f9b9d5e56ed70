use native.Mathlib.Omega.{arith}
use borrow.Author.Rules.{rules}
use borrow.Author.Count.{below_more}
use Rattle.checks.proofs.UnusedLaws.{zero_all, zero_before, zero_here, zero_not_cost, zero_not_succ}
use Rattle.checks.proofs.entries.zero_from.Goals as goal
use Rattle.checks.proofs.entries.zero_from.Goals.{then-costs-slot-ne0-via-then-costs-slot-ne0, then-costs-slot-ne0-via-else-costs-slot-ne0+then-succ-u-ne0}

pub loop-u-init : goal.loop-u-init
loop-u-init c = let a = c.args in (search rules, zero_before a.succ a.costs.now a.slot a.from)

pub returns-then-costs-slot-ne0 : goal.returns-then-costs-slot-ne0
returns-then-costs-slot-ne0 c =
    let a = c.args in
    let u = c.loop-u.u in
    elim c.then-costs-slot-ne0.branch [
      | then-costs-slot-ne0-via-then-costs-slot-ne0 w ↦
          zero_not_cost a.succ a.costs.now a.slot a.from u (omega arith) (omega arith) w.if-costs-slot-ne0.true
      | then-costs-slot-ne0-via-else-costs-slot-ne0+then-succ-u-ne0 w ↦
          zero_not_succ a.succ a.costs.now a.slot a.from u (omega arith) (omega arith) w.if-succ-u-ne0.true
    ]

pub loop-u-preserved : goal.loop-u-preserved
loop-u-preserved c =
    let a = c.args in
    (omega arith, below_more _ _ c.loop-u.invariant.1 (zero_here a.succ a.costs.now a.slot a.from c.loop-u.u c.if-costs-slot-ne0.false c.if-succ-u-ne0.false))

pub returns : goal.returns
returns c =
    let a = c.args in
    zero_all a.succ a.costs.now a.slot a.from (λ u h. c.loop-u.invariant.1 u (omega arith))
