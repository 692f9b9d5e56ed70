use mathlib.Core.Path.{◌≡◌}
use mathlib.Core.Bool.{true}
use Rattle.graph.specs.Words.{all}
use Rattle.journal.specs.Rows.{row_task, row_age, row_vertex}
use Rattle.journal.specs.Listing.{in_set}
use Rattle.journal.proofs.lists.are_in.Given as goal

abbrev pub invariant-loop-j : goal.invariant-loop-j
invariant-loop-j l = all l.j (λ k. in_set l.sets (row_task l.row.bytes.now l.row.at k) (row_age l.row.bytes.now l.row.at k) (row_vertex l.row.bytes.now l.row.at k)) ≡ true
