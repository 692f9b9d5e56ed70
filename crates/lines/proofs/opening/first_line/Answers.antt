use Rattle.lines.proofs.Lined.{line-laws}
use Rattle.lines.proofs.opening.first_line.Goals as goal

pub returns-in_default : goal.returns-in_default
returns-in_default c = search line-laws

pub returns : goal.returns
returns c = search line-laws
