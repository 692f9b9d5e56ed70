use mathlib.Core.Path.{◌≡◌}
use Prim.Native.Nat.{◌≤◌, ◌+◌, ◌*◌}
use lib.ListN.{length}
use Rattle.checks.specs.Checking.{keys_of}
use Rattle.checks.proofs.TestLaws.{keys_from}
use Rattle.checks.proofs.checking.edge_count.Given as goal

abbrev pub invariant-loop-u : goal.invariant-loop-u
invariant-loop-u l = (l.n ≤ 16 * l.u) × (l.n + length (keys_from l.v l.succ l.u) ≡ length (keys_of l.v l.succ))
