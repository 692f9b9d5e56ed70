use mathlib.Core.Path.{refl, ◌∙◌}
use native.Mathlib.Omega.{arith}
use Rattle.graph.specs.Words.{all}
use Rattle.journal.specs.Listing.{all_in}
use Rattle.slots.proofs.Behind.{all_more, all_off, all_done_lem}
use Rattle.journal.proofs.SetTests.{in_by}
use Rattle.journal.proofs.lists.are_in.Goals as goal

pub loop-j-init : goal.loop-j-init
unfolding all
loop-j-init c = refl

pub returns-then-not-is_in : goal.returns-then-not-is_in
unfolding all_in
returns-then-not-is_in c =
    let t = c.task in
    let g = c.age in
    let v = c.vertex in
    let e = in_by _ c.is_in.result _ _ _ t.result g.result v.result c.is_in.ensures t.ensures.value g.ensures.value v.ensures.value in
    all_off _ _ c.loop-j.j (omega arith) (e ∙ c.if-not-is_in.true)

pub loop-j-preserved : goal.loop-j-preserved
loop-j-preserved c =
    let t = c.task in
    let g = c.age in
    let v = c.vertex in
    let e = in_by _ c.is_in.result _ _ _ t.result g.result v.result c.is_in.ensures t.ensures.value g.ensures.value v.ensures.value in
    all_more _ _ c.loop-j.invariant (e ∙ c.if-not-is_in.false)

pub returns : goal.returns
unfolding all_in
returns c = all_done_lem _ _ c.loop-j.j (omega arith) c.loop-j.invariant
