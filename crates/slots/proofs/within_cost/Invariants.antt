-- The loop's invariant: no remaining of the vertices that were passed is above its cost.
use mathlib.Core.Path.{◌≡◌}
use mathlib.Core.Bool.{true}
use Prim.Native.Nat.{◌+◌, ◌*◌, ◌%◌, ◌≤◌}
use lib.ListN.{get_or}
use lib.Dec.{leb}
use Rattle.graph.specs.Words.{all}
use Rattle.slots.proofs.within_cost.Given as goal

abbrev pub invariant-loop-u : goal.invariant-loop-u
invariant-loop-u l = (l.u ≤ 16) × (all l.u (λ w. leb (get_or l.remaining (16 * l.s + w) 0) (get_or l.costs ((16 * l.s + w) % 256) 0)) ≡ true)
