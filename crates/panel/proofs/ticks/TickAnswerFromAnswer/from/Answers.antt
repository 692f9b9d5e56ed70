-- `from` meets its contract: the same numbers, in the order in which they cross.
use mathlib.Core.Path.{refl}
use Rattle.panel.specs.Answers.{answer_face}
use Rattle.panel.proofs.ticks.TickAnswerFromAnswer.from.Goals as goal

pub returns : goal.returns
unfolding answer_face
returns c = refl
