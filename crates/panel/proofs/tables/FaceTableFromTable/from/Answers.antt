use Rattle.std.proofs.Common.{◌≡◌, refl, rules}
use Rattle.table.specs.Memory.{no_task, task}
use Rattle.machine.proofs.Made.{made_row}
use Rattle.panel.specs.Tables.{no_face_task, face_tasks, table_face}
use Rattle.panel.proofs.tables.FaceTableFromTable.from.Goals as goal

pub returns : goal.returns
unfolding table_face task no_task
returns c =
    let t : c.from_fn.result ≡ face_tasks c.args.t = made_row _ _ _ 16 no_face_task _ (λ i y q b e. search rules) c.from_fn.ensures.items in
    rw t refl
