use mathlib.Core.Path.{◌≡◌}
use Prim.Native.Nat.{◌≤◌, ◌+◌, ◌*◌}
use Rattle.checks.specs.Checking.{keys_of, edges_tested}
use Rattle.checks.proofs.TestLaws.{keys_from}
use Rattle.checks.proofs.checking.edges_tested.Given as goal

abbrev pub invariant-loop-u : goal.invariant-loop-u
invariant-loop-u l = (l.p ≤ l.at + 32 * l.u) × (edges_tested l.v (keys_from l.v l.succ l.u) l.p ≡ edges_tested l.v (keys_of l.v l.succ) l.at)
