use mathlib.Core.Path.{sym, ◌∙◌, subst}
use lib.IntN.{ℤ}
use mir.Syntax.{w64}
use mir.Val.{SFits}
use mir.Facts.{to_z-of_z}
use Rattle.verdict.proofs.Figured.{minus_fits, cast_minus}
use Rattle.verdict.proofs.figuring.less.Goals as goal

pub overflow_sub-result : goal.overflow_sub-result
overflow_sub-result c = subst (λ (z : ℤ). SFits w64 z) (cast_minus c.requires.0 c.requires.1) (minus_fits c.requires.0 c.requires.1)

pub returns : goal.returns
returns c = to_z-of_z (overflow_sub-result c) ∙ sym (cast_minus c.requires.0 c.requires.1)
