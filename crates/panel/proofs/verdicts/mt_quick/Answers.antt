use mathlib.Core.Path.{ap, ◌∙◌}
use Rattle.graph.specs.Words.{flag}
use Rattle.panel.proofs.Answers.{flag_byte}
use Rattle.panel.proofs.verdicts.mt_quick.Goals as goal

pub returns : goal.returns
returns c = c.from.ensures ∙ flag_byte c.quick.result ∙ ap flag c.quick.ensures
