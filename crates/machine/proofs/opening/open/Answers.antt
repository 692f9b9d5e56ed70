use Rattle.machine.proofs.Starting.{open-laws}
use Rattle.machine.proofs.opening.open.Goals as goal

pub returns-in_default : goal.returns-in_default
returns-in_default c = search open-laws

pub returns : goal.returns
returns c = search open-laws
