-- A table as it crosses the C face: its fields, and zeros where a struct of C has padding.
use Rattle.std.specs.Prelude.{List, [], get_or, replicate}
use Rattle.graph.specs.Words.{row}
use Rattle.table.specs.declared.Task.{Task}
use Rattle.table.specs.declared.Table.{Table}
use Rattle.table.specs.Memory.{task}
use Rattle.panel.specs.declared.FaceTask.{FaceTask}
use Rattle.panel.specs.declared.FaceTable.{FaceTable}

unfoldable pub face_task : Task → FaceTask
face_task a = record { v = a.v; pad = replicate 3 0; d = a.d; t = a.t; succ = a.succ }

abbrev pub face_tasks : Table → List FaceTask
face_tasks t = row 16 (λ i. face_task (task t i))

unfoldable pub table_face : Table → FaceTable
table_face t = record { m = t.m; n = t.n; pad = replicate 2 0; tasks = face_tasks t; costs = t.costs }

-- THE TABLE THAT CROSSED: what stands in its padding is not looked at
unfoldable pub task_of : FaceTask → Task
task_of a = record { v = a.v; d = a.d; t = a.t; succ = a.succ }

unfoldable pub no_face_task : FaceTask
no_face_task = record { v = 0; pad = []; d = 0; t = 0; succ = [] }

unfoldable pub table_of : FaceTable → Table
table_of f = record { m = f.m; n = f.n; tasks = row 16 (λ i. task_of (get_or f.tasks i no_face_task)); costs = f.costs }
