-- The loop's invariant: the first of what is left is the first of all.
use mathlib.Core.Path.{◌≡◌}
use Prim.Native.Nat.{◌<◌, ◌^◌}
use Rattle.graph.specs.Words.{members}
use Rattle.chains.proofs.Picks.{head_with}
use Rattle.chains.proofs.listing.first_with.Given as goal

abbrev pub invariant-loop-w : goal.invariant-loop-w
invariant-loop-w l =
    (l.w-iterator.rest < 2 ^ 16) × (head_with l.sums l.left (members l.w-iterator.rest) ≡ head_with l.sums l.left (members l.set))
