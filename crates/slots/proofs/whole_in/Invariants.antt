-- The loop's invariant: of the vertices that were passed, those in the set have their whole cost remaining.
use mathlib.Core.Path.{◌≡◌}
use mathlib.Core.Bool.{true, ◌||◌, not}
use Prim.Native.Nat.{◌+◌, ◌*◌, ◌%◌, ◌≤◌}
use lib.ListN.{get_or}
use lib.Dec.{eqb}
use Rattle.graph.specs.Words.{all, bit}
use Rattle.slots.proofs.whole_in.Given as goal

abbrev pub invariant-loop-u : goal.invariant-loop-u
invariant-loop-u l = (l.u ≤ l.v) × (all l.u (λ w. not (bit l.set w) || eqb (get_or l.remaining (16 * l.s + w) 0) (get_or l.costs ((16 * l.s + w) % 256) 0)) ≡ true)
