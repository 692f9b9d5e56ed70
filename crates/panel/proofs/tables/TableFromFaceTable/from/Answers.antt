use Rattle.std.proofs.Common.{◌≡◌, refl, rules, get_or}
use Rattle.graph.specs.Words.{row}
use Rattle.table.specs.Memory.{no_task}
use Rattle.machine.proofs.Made.{made_row}
use Rattle.panel.specs.Tables.{no_face_task, task_of, table_of}
use Rattle.panel.proofs.tables.TableFromFaceTable.from.Goals as goal

pub returns : goal.returns
unfolding table_of no_face_task
returns c =
    let t : c.from_fn.result ≡ row 16 (λ i. task_of (get_or c.args.f.tasks i no_face_task)) = made_row _ _ _ 16 no_task _ (λ i y q b e. search rules) c.from_fn.ensures.items in
    rw t refl
