-- The loop's invariant: what the tasks so far ask for, and a bound on it.
use mathlib.Core.Path.{◌≡◌}
use Prim.Native.Nat.{◌*◌, ◌≤◌}
use Rattle.sharp.specs.Closed.{due_by}
use Rattle.sharp.proofs.gathering.Gathering.due.Given as goal

abbrev pub invariant-loop-i : goal.invariant-loop-i
invariant-loop-i l = (l.due ≡ due_by l.self.costs.now l.self.tails.now l.self.counts l.self.periods l.i l.d) × (l.due ≤ l.i * 16000000000000)
