use mathlib.Core.Path.{◌∙◌}
use Rattle.graph.proofs.Members.{took}
use Rattle.chains.proofs.Picks.{most_end, most_more, most_is}
use Rattle.chains.proofs.listing.largest_of.Goals as goal

pub bounds-sums-w : goal.bounds-sums-w
bounds-sums-w c = (took c.in-Some.ensures.steps c.loop-w.invariant.0).below

pub loop-w-preserved : goal.loop-w-preserved
loop-w-preserved c =
    let l = c.loop-w in
    let t = took c.in-Some.ensures.steps l.invariant.0 in (
      t.small,
      most_more c.args.sums.now l.best l.w-iterator.rest c.next.new.self.rest c.in-Some.w c.max-best.result t.listed c.max-best.ensures
          ∙ l.invariant.1,
    )

pub returns : goal.returns
returns c =
    let a = c.args in
    let l = c.loop-w in
    most_end a.sums.now l.best l.w-iterator.rest c.in-None.ensures.steps.0 ∙ l.invariant.1 ∙ most_is a.sums.now a.set
