use mathlib.Core.Path.{◌≡◌}
use mathlib.Core.Bool.{true, ◌||◌}
use lib.ListN.{get_or}
use lib.Dec.{leb, eqb}
use Rattle.graph.specs.Words.{all}
use Rattle.journal.proofs.lists.is_sooner.Given as goal

abbrev pub invariant-loop-k : goal.invariant-loop-k
invariant-loop-k l = (all l.k (λ j. eqb (get_or l.rest j 0) 0 || leb l.most (get_or l.ticks j 0)) ≡ true)
