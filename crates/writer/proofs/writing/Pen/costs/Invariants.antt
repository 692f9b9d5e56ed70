use lib.ListN.{length}
use Rattle.writer.specs.Putting.{cost_bytes}
use Rattle.writer.proofs.PenLaws.{ToPut}
use Rattle.writer.proofs.PutLaws.{costs_from}
use Rattle.writer.proofs.writing.Pen.costs.Given as goal

abbrev pub invariant-loop-cost : goal.invariant-loop-cost
invariant-loop-cost l = ToPut l.initial.self l.self (cost_bytes l.costs 0 (length l.costs)) (costs_from l.costs 0 (length l.costs) l.cost-index)
