use Rattle.std.proofs.Common.{refl}
use Rattle.panel.specs.Tables.{face_task}
use Rattle.panel.proofs.tables.FaceTaskFromTask.from.Goals as goal

pub returns : goal.returns
unfolding face_task
returns c = refl
