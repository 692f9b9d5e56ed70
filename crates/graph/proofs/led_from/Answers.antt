use mathlib.Core.Path.{◌∙◌}
use borrow.Author.Rules.{rules}
use Rattle.graph.proofs.Members.{took}
use Rattle.graph.proofs.Settle.{led_none, led_more, led_end}
use Rattle.graph.proofs.led_from.Goals as goal

pub loop-u-init : goal.loop-u-init
loop-u-init c =
    rw (c.into_iter-u-iterator.ensures.into_iter_gives, c.from-u-items.ensures)
    (search rules, led_none c.args.succ.now c.args.set)

pub bounds-succ-u : goal.bounds-succ-u
bounds-succ-u c = (took c.in-Some.ensures.steps c.loop-u.invariant.0).below

pub loop-u-preserved : goal.loop-u-preserved
loop-u-preserved c =
    let l = c.loop-u in
    let t = took c.in-Some.ensures.steps l.invariant.0 in
    (t.small, λ w. led_more c.args.succ.now l.led l.u-iterator.rest c.next.new.self.rest c.in-Some.u t.listed w ∙ l.invariant.1 w)

pub returns : goal.returns
returns c = λ w.
    let l = c.loop-u in
    led_end c.args.succ.now l.led l.u-iterator.rest c.in-None.ensures.steps.0 w ∙ l.invariant.1 w
