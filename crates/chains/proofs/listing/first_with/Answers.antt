use mathlib.Core.Path.{◌∙◌}
use Rattle.graph.proofs.Members.{took}
use Rattle.chains.proofs.Picks.{with_is, with_end, with_here, with_more}
use Rattle.chains.proofs.listing.first_with.Goals as goal

pub bounds-sums-w : goal.bounds-sums-w
bounds-sums-w c = (took c.in-Some.ensures.steps c.loop-w.invariant.0).below

pub returns-then-sums-w : goal.returns-then-sums-w
returns-then-sums-w c =
    let a = c.args in
    let l = c.loop-w in
    let t = took c.in-Some.ensures.steps l.invariant.0 in
    with_here a.sums.now a.left l.w-iterator.rest c.next.new.self.rest c.in-Some.w t.listed c.if-sums-w.true
    ∙ l.invariant.1
    ∙ with_is a.sums.now a.left a.set

pub loop-w-preserved : goal.loop-w-preserved
loop-w-preserved c =
    let a = c.args in
    let l = c.loop-w in
    let t = took c.in-Some.ensures.steps l.invariant.0 in (
      t.small,
      with_more a.sums.now a.left l.w-iterator.rest c.next.new.self.rest c.in-Some.w t.listed c.if-sums-w.false ∙ l.invariant.1,
    )

pub returns : goal.returns
returns c =
    let a = c.args in
    let l = c.loop-w in
    with_end a.sums.now a.left l.w-iterator.rest c.in-None.ensures.steps.0 ∙ l.invariant.1 ∙ with_is a.sums.now a.left a.set
