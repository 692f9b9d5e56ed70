use mathlib.Core.Path.{ap, ◌∙◌}
use Rattle.panel.specs.Answers.{ruling_face, ruling_answer}
use Rattle.panel.proofs.judging.mt_judge.Goals as goal

pub returns : goal.returns
unfolding ruling_answer
returns c = c.from.ensures ∙ ap ruling_face c.judge.ensures
