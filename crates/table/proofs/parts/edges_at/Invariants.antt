-- What is left to read from here gives what all of it gives from the start.
use Rattle.table.specs.Reading.{edges_at}
use lib.ListN.{length}
use mathlib.Core.Path.{◌≡◌}
use Prim.Native.Nat.{◌≤◌, ◌-◌}
use Rattle.table.proofs.parts.edges_at.Given as goal

abbrev pub invariant-loop : goal.invariant-loop
invariant-loop l =
    (l.p ≤ length l.bytes) × (length l.succ ≡ 16) × (edges_at l.v l.bytes (l.e - l.counter) l.p l.low l.succ ≡ edges_at l.v l.bytes l.e l.at 0 l.initial.succ)
