-- `from` meets its contract: the reply's numbers as they are, and the state as it crosses.
use mathlib.Core.Path.{refl}
use Rattle.panel.specs.Answers.{opened_face}
use Rattle.panel.proofs.ticks.OpenAnswerFromOpened.from.Goals as goal

pub returns : goal.returns
unfolding opened_face
returns c = rw c.from.ensures refl
