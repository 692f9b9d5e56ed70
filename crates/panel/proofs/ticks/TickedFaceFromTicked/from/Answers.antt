-- `from` meets its contract: the answer and the state, each as it crosses.
use mathlib.Core.Path.{refl}
use Rattle.panel.specs.Answers.{ticked_face}
use Rattle.panel.proofs.ticks.TickedFaceFromTicked.from.Goals as goal

pub returns : goal.returns
unfolding ticked_face
returns c = rw (c.from.ensures, c.from-2.ensures) refl
