use native.Mathlib.Omega.{arith}
use Rattle.lines.specs.Watching.{number2}
use Rattle.lines.proofs.showing.set_of.Goals as goal

pub returns : goal.returns
unfolding number2
returns c = omega (arith, c.from_le_bytes.ensures)
