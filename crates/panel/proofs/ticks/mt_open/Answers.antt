-- `mt_open` meets its contract: opening's number, task, place and state.
use mathlib.Core.Path.{ap, ◌∙◌}
use Rattle.panel.specs.Answers.{opened_face, open_answer}
use Rattle.panel.proofs.ticks.mt_open.Goals as goal

pub returns : goal.returns
unfolding open_answer
returns c = c.from.ensures ∙ ap opened_face c.open.ensures
