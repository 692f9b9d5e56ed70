-- The loop's invariant: raising what is left gives the whole.
use mathlib.Core.Path.{◌≡◌}
use Prim.Native.Nat.{◌^◌, ◌<◌}
use lib.ListN.{length}
use Rattle.graph.specs.Words.{members}
use Rattle.graph.specs.Order.{raised}
use Rattle.graph.proofs.raise.Given as goal

abbrev pub invariant-loop-w : goal.invariant-loop-w
invariant-loop-w l =
    (l.w-iterator.rest < 2 ^ 16)
    × (length l.starts ≡ 16)
    × (raised l.starts l.end (members l.w-iterator.rest) ≡ raised l.initial.starts l.end (members l.set))
