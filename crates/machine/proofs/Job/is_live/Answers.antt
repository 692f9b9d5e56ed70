use Rattle.std.proofs.Common.{sym, ap}
use Rattle.machine.specs.States.{is_live}
use Rattle.machine.proofs.Job.is_live.Goals as goal

pub returns-in-Live : goal.returns-in-Live
unfolding is_live
returns-in-Live c = sym (ap is_live c.in-Live.is)

pub returns-in_default : goal.returns-in_default
unfolding is_live
returns-in_default c = sym (ap is_live c.in_default.is)
