use mathlib.Core.Path.{◌≡◌}
use Prim.Native.Nat.{◌<◌, ◌+◌, ◌*◌, ◌^◌}
use lib.ListN.{length}
use Rattle.checks.specs.Checking.{row_keys, edges_tested}
use Rattle.checks.proofs.checking.row_walked.Given as goal

abbrev pub invariant-loop-w : goal.invariant-loop-w
invariant-loop-w l =
    (l.w-iterator.rest < 2 ^ 16)
    × (l.p + 2 * length (row_keys 16 l.u 0 l.w-iterator.rest) ≡ l.at + 2 * length (row_keys 16 l.u 0 l.bits))
    × (edges_tested l.v (row_keys 16 l.u 0 l.w-iterator.rest) l.p ≡ edges_tested l.v (row_keys 16 l.u 0 l.bits) l.at)
