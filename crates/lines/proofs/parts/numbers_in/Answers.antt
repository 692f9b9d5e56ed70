use borrow.Author.Rules.{rules}
use Rattle.graph.proofs.Members.{took}
use Rattle.text.specs.Text.{text}
use Rattle.lines.specs.Lines.{numbers_in}
use Rattle.lines.proofs.Parted.{dashed}
use Rattle.lines.proofs.Named.{none_named, one_named, all_named}
use Rattle.lines.proofs.parts.numbers_in.Goals as goal

pub loop-i-init : goal.loop-i-init
loop-i-init c = rw (c.into_iter-i-iterator.ensures.into_iter_gives, c.from-i-items.ensures) (search rules, none_named _ _)

pub loop-i-preserved : goal.loop-i-preserved
unfolding text
loop-i-preserved c =
    let l = c.loop-i in
    let t = took c.in-Some.ensures.steps l.invariant.0 in
    (t.small, one_named l.invariant.1 t c.labelled.ensures)

pub returns : goal.returns
unfolding numbers_in
returns c =
    let l = c.loop-i in
    dashed _ (all_named l.invariant.1 c.in-None.ensures.steps.0) c.dash.ensures
