use Rattle.graph.specs.Words.{in_order}
use Rattle.table.specs.Writing.{encode_task}
use Rattle.writer.proofs.PenLaws.{ToPut}
use Rattle.writer.proofs.PutLaws.{tasks_from}
use Rattle.writer.proofs.writing.Pen.tasks.Given as goal

abbrev pub invariant-loop-i : goal.invariant-loop-i
invariant-loop-i l = ToPut l.initial.self l.self (in_order l.table.n (encode_task l.table)) (tasks_from l.table l.i)
