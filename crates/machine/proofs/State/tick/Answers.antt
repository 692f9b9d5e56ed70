use Rattle.machine.proofs.Starting.{tick-laws}
use Rattle.machine.proofs.State.tick.Goals as goal

pub returns-in_default : goal.returns-in_default
returns-in_default c = search tick-laws

pub tick_on-requires : goal.tick_on-requires
tick_on-requires c = search tick-laws

pub returns : goal.returns
returns c = search tick-laws
