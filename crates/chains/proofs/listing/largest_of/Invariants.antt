-- The loop's invariant: the largest so far and of what is left is the largest of all.
use mathlib.Core.Path.{◌≡◌}
use Prim.Native.Nat.{max, ◌<◌, ◌^◌}
use Rattle.graph.specs.Words.{members}
use Rattle.chains.proofs.Picks.{most_of}
use Rattle.chains.proofs.listing.largest_of.Given as goal

abbrev pub invariant-loop-w : goal.invariant-loop-w
invariant-loop-w l =
    (l.w-iterator.rest < 2 ^ 16) × (max l.best (most_of l.sums (members l.w-iterator.rest)) ≡ most_of l.sums (members l.set))
