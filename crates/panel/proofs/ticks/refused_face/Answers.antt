-- `refused_face` meets its contract: eight unused places are a row of eight.
use mathlib.Core.Path.{refl}
use Rattle.graph.specs.Words.{row_from, row}
use Rattle.machine.specs.Ticking.{nobody}
use Rattle.panel.specs.Answers.{refused_face}
use Rattle.panel.proofs.ticks.refused_face.Goals as goal

pub returns : goal.returns
unfolding refused_face row row_from nobody
returns c = refl
