use Rattle.table.specs.Writing.{edge_bytes}
use Rattle.checks.specs.Checking.{keys_of}
use Rattle.checks.proofs.TestLaws.{keys_from}
use Rattle.writer.proofs.PenLaws.{ToPut}
use Rattle.writer.proofs.writing.Pen.edges.Given as goal

abbrev pub invariant-loop-u : goal.invariant-loop-u
invariant-loop-u l = ToPut l.initial.self l.self (edge_bytes (keys_of l.v l.succ)) (edge_bytes (keys_from l.v l.succ l.u))
