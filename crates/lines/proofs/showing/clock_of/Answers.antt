use native.Mathlib.Omega.{arith}
use Rattle.lines.proofs.Steps.{four_bytes}
use Rattle.lines.proofs.showing.clock_of.Goals as goal

pub returns : goal.returns
returns c = omega (arith, c.from_le_bytes.ensures, four_bytes c.args.b)
