use mathlib.Core.Path.{◌≡◌}
use Prim.Native.Nat.{◌+◌, ◌-◌, ◌*◌}
use Rattle.checks.specs.Checking.{costs_tested}
use Rattle.checks.proofs.checking.costs_tested.Given as goal

abbrev pub invariant-loop-u : goal.invariant-loop-u
invariant-loop-u l = (l.p ≡ l.at + 4 * l.u) × (costs_tested l.costs (l.v - l.u) l.p (l.slot + l.u) ≡ costs_tested l.costs l.v l.at l.slot)
