-- The loop's invariant: what was gathered, and what the rest leads to, is what the set leads to.
use mathlib.Core.Path.{◌≡◌}
use mathlib.Core.Bool.{◌||◌}
use Prim.Native.Nat.{ℕ, ◌^◌, ◌<◌}
use Rattle.graph.specs.Words.{bit, members}
use Rattle.graph.specs.Graph.{edge, led_to}
use Rattle.graph.proofs.led_from.Given as goal

abbrev pub invariant-loop-u : goal.invariant-loop-u
invariant-loop-u l =
    (l.u-iterator.rest < 2 ^ 16)
    × ((w : ℕ) → (bit l.led w || led_to (edge l.succ) (members l.u-iterator.rest) w) ≡ led_to (edge l.succ) (members l.set) w)
