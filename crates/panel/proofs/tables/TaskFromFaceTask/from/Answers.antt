use Rattle.std.proofs.Common.{refl}
use Rattle.panel.specs.Tables.{task_of}
use Rattle.panel.proofs.tables.TaskFromFaceTask.from.Goals as goal

pub returns : goal.returns
unfolding task_of
returns c = refl
