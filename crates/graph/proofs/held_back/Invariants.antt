-- The loop's invariant: `Rounds`, what is not done within so many edges and what it leads to.
use Prim.Native.Nat.{min}
use Rattle.graph.specs.Words.{flag, bit}
use Rattle.graph.specs.Graph.{edge}
use Rattle.graph.proofs.Held.{Rounds}
use Rattle.graph.proofs.held_back.Given as goal

abbrev pub invariant-loop : goal.invariant-loop
invariant-loop l = Rounds (min l.v 16) (edge l.succ) (λ u. flag (bit l.unfinished u)) l.counter l.seen l.led
