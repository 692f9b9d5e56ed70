use mathlib.Core.Path.{refl}
use native.Mathlib.Omega.{arith}
use borrow.Author.Tests.{le-leb, lt-leb}
use Rattle.graph.specs.Words.{all}
use Rattle.slots.specs.Slots.{within_cost}
use Rattle.slots.proofs.Behind.{all_more, all_off, all_done_lem}
use Rattle.slots.proofs.within_cost.Goals as goal

pub loop-u-init : goal.loop-u-init
unfolding all
loop-u-init c = (omega arith, refl)

pub returns-then-remaining-k : goal.returns-then-remaining-k
unfolding within_cost
returns-then-remaining-k c = all_off 16 _ c.loop-u.u (omega arith) (lt-leb _ _ c.if-remaining-k.true)

pub loop-u-preserved : goal.loop-u-preserved
loop-u-preserved c = (omega arith, all_more _ _ c.loop-u.invariant.1 (le-leb _ _ c.if-remaining-k.false))

pub returns : goal.returns
unfolding within_cost
returns c = all_done_lem 16 _ c.loop-u.u (omega arith) c.loop-u.invariant.1
