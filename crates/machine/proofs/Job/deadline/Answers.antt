use Rattle.std.proofs.Common.{sym, ap}
use Rattle.machine.specs.States.{deadline_of}
use Rattle.machine.proofs.Job.deadline.Goals as goal

pub returns-in-Nothing : goal.returns-in-Nothing
unfolding deadline_of
returns-in-Nothing c = sym (ap deadline_of c.in-Nothing.is)

pub returns-in-Live : goal.returns-in-Live
unfolding deadline_of
returns-in-Live c = sym (ap deadline_of c.in-Live.is)
