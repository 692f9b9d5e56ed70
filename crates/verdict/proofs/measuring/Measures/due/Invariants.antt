-- The loop's invariant: what the tasks so far owe, and a bound on it.
use Rattle.std.proofs.Common.{◌≡◌, ◌*◌, ◌≤◌, get_or}
use Rattle.graph.specs.Words.{sum}
use Rattle.verdict.specs.Verdicts.{rounded_up}
use Rattle.verdict.proofs.measuring.Measures.due.Given as goal

abbrev pub invariant-loop-i : goal.invariant-loop-i
invariant-loop-i l =
    (l.due ≡ sum l.i (λ x. rounded_up (get_or l.self.deadlines l.k 0) (get_or l.self.periods x 0) * get_or l.self.vols x 0)) × (l.due ≤ l.i * 16000000000000)
