-- `tick_face` meets its contract: reading's numbers, 30 for what is no state, then the machine's tick; a refusal hands the state back.
use mathlib.Core.Path.{sym, ap, ◌∙◌}
use Rattle.machine.specs.declared.State.{State}
use Rattle.machine.specs.Ticking.{tick}
use Rattle.panel.specs.Answers.{ticked_face}
use Rattle.panel.proofs.Ticking.{ticks_proper, unfit-laws}
use Rattle.panel.proofs.ticks.tick_face.Goals as goal

pub returns-then-is_proper : goal.returns-then-is_proper
returns-then-is_proper c =
    let a = c.args in
    let made = c.from-before.ensures in
    let proper = sym c.is_proper.ensures ∙ c.if-is_proper.true in
    c.from.ensures
    ∙ ap ticked_face (c.tick.ensures ∙ ap (λ (st : State). tick a.bytes.now st a.releases) made.0)
    ∙ ticks_proper _ _ _ (made.1 proper) proper

pub returns-in_default : goal.returns-in_default
returns-in_default c = search unfit-laws

pub returns : goal.returns
returns c = search unfit-laws
