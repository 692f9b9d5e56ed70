use native.Mathlib.Omega.{arith}
use Rattle.lines.proofs.Lined.{line_put}
use Rattle.lines.proofs.Rulings.{ruling_most}
use Rattle.lines.proofs.ruling.ruling_line.Goals as goal

pub returns : goal.returns
returns c = line_put c.new-page.ensures c.line.ensures (omega (arith, ruling_most c.args.r))
