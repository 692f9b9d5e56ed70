-- The loop's invariant: those that were passed have run, and one is off for each of them of which something remained. It goes by the places of the
-- vertices in the rows; `name_at` gives their numbers back.
use Rattle.std.proofs.Common.{ℕ, ◌%◌, min, List, get_or}
use Rattle.graph.specs.Words.{row}
use Rattle.machine.specs.Rows.{place_in}
use Rattle.machine.proofs.Taken.{Runs}
use Rattle.machine.proofs.lent.run.Given as goal

-- the numbers of the vertices chosen, and their places
abbrev pub key_in : List ℕ → ℕ → ℕ
key_in keys j = get_or keys j 0 % 1024

abbrev pub places_of : ℕ → List ℕ → List ℕ
places_of count keys = row count (λ j. place_in (key_in keys j))

abbrev pub invariant-loop-j : goal.invariant-loop-j
invariant-loop-j l = Runs (places_of (min l.chosen.count 8) l.chosen.keys) l.initial.remaining l.initial.work l.j l.remaining l.work
