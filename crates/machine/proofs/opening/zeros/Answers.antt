use Rattle.std.proofs.Common.{refl}
use Rattle.machine.specs.States.{no_job, idle, zeros}
use Rattle.machine.proofs.opening.zeros.Goals as goal

pub returns : goal.returns
unfolding zeros idle no_job
returns c = refl
