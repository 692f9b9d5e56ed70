use mathlib.Core.Path.{◌≡◌}
use lib.ListN.{get_or}
use Rattle.graph.specs.Words.{largest}
use Rattle.journal.specs.Listing.{row_slot}
use Rattle.journal.proofs.lists.most_left.Given as goal

abbrev pub invariant-loop-j : goal.invariant-loop-j
invariant-loop-j l = l.most ≡ largest l.j (λ k. get_or l.ticks (row_slot l.row.bytes.now l.row.at k) 0)
