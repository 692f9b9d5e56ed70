use mathlib.Core.Path.{sym, ◌∙◌}
use Rattle.panel.proofs.Crossing.{proper_stop, proper_pad_stop, proper_go}
use Rattle.panel.proofs.FaceState.is_proper.Goals as goal

pub returns-then-not-is_phase : goal.returns-then-not-is_phase
returns-then-not-is_phase c = proper_stop _ (sym c.is_phase.ensures ∙ c.if-not-is_phase.true)

pub returns-else-is_padded : goal.returns-else-is_padded
returns-else-is_padded c =
    c.if-is_padded.false
    ∙ proper_pad_stop _ (sym c.is_phase.ensures ∙ c.if-not-is_phase.false)
    (sym c.is_padded.ensures ∙ c.if-is_padded.false)

pub returns-then-is_padded : goal.returns-then-is_padded
returns-then-is_padded c =
    proper_go _ _ (sym c.is_phase.ensures ∙ c.if-not-is_phase.false)
    (sym c.is_padded.ensures ∙ c.if-is_padded.true) c.has_tasks.ensures
