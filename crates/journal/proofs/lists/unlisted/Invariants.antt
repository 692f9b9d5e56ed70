use Rattle.journal.specs.Rows.{listed}
use Rattle.journal.proofs.SetTests.{TakenTo}
use Rattle.journal.proofs.lists.unlisted.Given as goal

abbrev pub invariant-loop-j : goal.invariant-loop-j
invariant-loop-j l = TakenTo l.initial.rest (listed l.row.bytes.now l.row.at) l.j l.rest
