use Rattle.std.proofs.Common.{sym, ◌∙◌, rules}
use Rattle.machine.proofs.Gathering.{gathered_none, gathered_all}
use Rattle.machine.proofs.Marking.{one_slot}
use Rattle.machine.proofs.Stepping.{gathered_next, gathered_past}
use Rattle.machine.proofs.held.passing.Goals as goal

pub loop-s-init : goal.loop-s-init
loop-s-init g c = λ p h. rw (c.into_iter-s-iterator.ensures.into_iter_gives, c.of-s-items.ensures) (gathered_none p c.args.set (search rules))

pub test-requires : goal.test-requires
test-requires g c = c.requires _ c.in-Some.ensures.steps.2

pub loop-s-preserved-then-test : goal.loop-s-preserved-then-test
loop-s-preserved-then-test g c = λ p h.
    let l = c.loop-s in
    let t = c.in-Some.ensures.steps in
    rw (one_slot c.in-Some.s t.2) (gathered_next t p c.args.set l.passing (l.invariant p h) (sym (h _ _ t.2 c.test.ensures) ∙ c.if-test.true))

pub loop-s-preserved : goal.loop-s-preserved
loop-s-preserved g c = λ p h.
    let l = c.loop-s in
    let t = c.in-Some.ensures.steps in
    gathered_past t p c.args.set l.passing (l.invariant p h) (sym (h _ _ t.2 c.test.ensures) ∙ c.if-test.false)

pub returns : goal.returns
returns g c = λ p h. let l = c.loop-s in gathered_all p c.args.set l.s-iterator.rest l.passing (l.invariant p h) c.in-None.ensures.steps.0
