use mathlib.Core.Path.{◌≡◌}
use Prim.Native.Nat.{◌+◌}
use lib.ListN.{get_or}
use Rattle.graph.specs.Words.{largest}
use Rattle.sharp.proofs.putting.longest_of.Given as goal

abbrev pub invariant-loop-u : goal.invariant-loop-u
invariant-loop-u l = (l.best ≡ largest l.u (λ x. get_or l.own x 0 + get_or l.tails x 0))
