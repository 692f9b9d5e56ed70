-- What is left to read from here gives what all of it gives from the start.
use Rattle.table.specs.Reading.{costs_at}
use lib.ListN.{length}
use mathlib.Core.Path.{◌≡◌}
use Prim.Native.Nat.{◌≤◌, ◌+◌, ◌-◌}
use Rattle.table.proofs.parts.costs_at.Given as goal

abbrev pub invariant-loop-u : goal.invariant-loop-u
invariant-loop-u l =
    (l.u-end ≡ l.v) × (l.p ≤ length l.bytes) × (length l.costs ≡ 256) × (costs_at l.bytes (l.v - l.u) l.p (l.slot + l.u) l.costs ≡ costs_at l.bytes l.v l.at l.slot l.initial.costs)
