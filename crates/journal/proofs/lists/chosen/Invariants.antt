use Rattle.std.specs.Prelude.{◌≡◌, length}
use Rattle.journal.proofs.SetTests.{KeptTo}
use Rattle.journal.proofs.lists.chosen.Given as goal

abbrev pub invariant-loop-j : goal.invariant-loop-j
invariant-loop-j l = record { long : length l.keys ≡ 8; kept : KeptTo l.row.bytes.now l.row.at l.j l.keys }
