-- What is left to read from here gives what all of it gives from the start; the row keeps its 256 places, and those to come are zero.
use Rattle.table.specs.Reading.{tasks_at}
use Rattle.table.specs.Parts.{ZeroFrom}
use lib.ListN.{length}
use mathlib.Core.Path.{◌≡◌}
use Prim.Native.Nat.{◌*◌, ◌-◌}
use Rattle.table.proofs.reading.tasks_at.Given as goal

abbrev pub invariant-loop-i : goal.invariant-loop-i
invariant-loop-i l =
    (l.i-end ≡ l.initial.table.n)
    × (length l.table.tasks ≡ 16)
    × (length l.table.costs ≡ 256)
    × ZeroFrom (16 * l.i) l.table.costs
    × (tasks_at l.bytes (l.i-end - l.i) l.i l.p l.table ≡ tasks_at l.bytes l.initial.table.n 0 l.at l.initial.table)
