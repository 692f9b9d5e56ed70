-- `mt_verdict` meets its contract: the verdict, as it crosses.
use mathlib.Core.Path.{ap, ◌∙◌}
use Rattle.panel.specs.Answers.{verdict_face}
use Rattle.panel.proofs.verdicts.mt_verdict.Goals as goal

pub returns : goal.returns
returns c = c.from.ensures ∙ ap verdict_face c.verdict_of.ensures
