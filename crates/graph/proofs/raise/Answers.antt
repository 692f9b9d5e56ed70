use mathlib.Core.Path.{◌∙◌}
use lib.ListN.{length-set}
use native.Mathlib.Omega.{arith}
use Rattle.graph.proofs.Members.{took}
use Rattle.graph.proofs.Order.{raised_end, raised_more}
use Rattle.graph.proofs.raise.Goals as goal

pub bounds-starts-w : goal.bounds-starts-w
bounds-starts-w c = (took c.in-Some.ensures.steps c.loop-w.invariant.0).below

pub bounds-starts-w-in-loop-w : goal.bounds-starts-w-in-loop-w
bounds-starts-w-in-loop-w c = (took c.in-Some.ensures.steps c.loop-w.invariant.0).below

pub loop-w-preserved : goal.loop-w-preserved
loop-w-preserved c =
    let l = c.loop-w in
    let t = took c.in-Some.ensures.steps l.invariant.0 in (
      t.small,
      length-set l.starts c.in-Some.w c.max.result ∙ l.invariant.1,
      raised_more c.args.end l.starts l.w-iterator.rest c.next.new.self.rest c.in-Some.w c.max.result t.listed (omega (arith, c.max.ensures)) ∙ l.invariant.2,
    )

pub returns : goal.returns
returns c =
    let l = c.loop-w in
    raised_end c.args.end l.starts l.w-iterator.rest c.in-None.ensures.steps.0 ∙ l.invariant.2
