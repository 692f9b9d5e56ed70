use mathlib.Core.Path.{refl}
use Rattle.verdict.specs.Verdicts.{no_figures}
use Rattle.verdict.proofs.judging.no_figures.Goals as goal

pub returns : goal.returns
unfolding no_figures
returns c = refl
