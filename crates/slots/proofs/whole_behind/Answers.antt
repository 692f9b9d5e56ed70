use mathlib.Core.Path.{◌∙◌}
use native.Mathlib.Omega.{arith}
use Rattle.slots.proofs.Behind.{left_in_lem}
use Rattle.slots.proofs.Cases.{whole_behind_lem}
use Rattle.slots.proofs.whole_behind.Goals as goal

pub returns : goal.returns
returns c =
    c.whole_in.ensures
    ∙ whole_behind_lem _ _ _ _ _ _ _ (omega (arith, c.min-v.ensures, c.from.ensures)) (left_in_lem _ _ c.requires _ c.unfinished.ensures) c.held_back-behind.ensures
