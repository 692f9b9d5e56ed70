-- The loop's invariant: what the vertices so far ask for, and a bound on it.
use mathlib.Core.Path.{◌≡◌}
use Prim.Native.Nat.{◌*◌, ◌≤◌}
use Rattle.sharp.specs.Closed.{asked_from}
use Rattle.sharp.proofs.closed.asked_from.Given as goal

abbrev pub invariant-loop-u : goal.invariant-loop-u
invariant-loop-u l = (l.total ≡ asked_from l.costs l.tails l.at l.u l.d l.t) × (l.total ≤ l.u * 1000000000000)
