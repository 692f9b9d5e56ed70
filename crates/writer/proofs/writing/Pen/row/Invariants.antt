use Prim.Native.Nat.{◌<◌, ◌^◌}
use Rattle.table.specs.Writing.{edge_bytes}
use Rattle.checks.specs.Checking.{row_keys}
use Rattle.writer.proofs.PenLaws.{ToPut}
use Rattle.writer.proofs.writing.Pen.row.Given as goal

abbrev pub invariant-loop-w : goal.invariant-loop-w
invariant-loop-w l =
    (l.w-iterator.rest < 2 ^ 16) × ToPut l.initial.self l.self (edge_bytes (row_keys 16 l.u 0 l.bits)) (edge_bytes (row_keys 16 l.u 0 l.w-iterator.rest))
