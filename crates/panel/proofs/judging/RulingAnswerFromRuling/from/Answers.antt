use mathlib.Core.Path.{◌∙◌}
use Rattle.panel.proofs.Answers.{faces_ruling, true_byte}
use Rattle.panel.proofs.judging.RulingAnswerFromRuling.from.Goals as goal

pub returns : goal.returns
returns c = faces_ruling c.args.r c.from.result (c.from.ensures ∙ true_byte c.args.r.missed)
