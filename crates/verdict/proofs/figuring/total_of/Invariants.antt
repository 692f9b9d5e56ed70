-- The loop's invariant: the sum of the costs so far, and a bound on it.
use Rattle.std.proofs.Common.{◌≡◌, ◌*◌, ◌≤◌, get_or}
use Rattle.graph.specs.Words.{sum}
use Rattle.verdict.proofs.figuring.total_of.Given as goal

abbrev pub invariant-loop-cost : goal.invariant-loop-cost
invariant-loop-cost l = (l.total ≡ sum l.cost-index (λ u. get_or l.cost-items u 0)) × (l.total ≤ l.cost-index * 4294967296)
