-- The loop's invariant: the rows of the tasks so far, and their tails at their places.
use mathlib.Core.Path.{◌≡◌}
use Prim.Native.Nat.{ℕ, ◌+◌, ◌*◌, ◌<◌}
use lib.ListN.{length, get_or}
use Rattle.table.specs.Memory.{vertices, D, T}
use Rattle.verdict.specs.Verdicts.{vol, len}
use Rattle.verdict.proofs.Figured.{Filled}
use Rattle.sharp.specs.Sharp.{tail_of}
use Rattle.sharp.proofs.gathering.Gathering.of.Given as goal

abbrev pub invariant-loop-i : goal.invariant-loop-i
invariant-loop-i l =
    Filled (D l.t) l.i l.deadlines
    × Filled (T l.t) l.i l.periods
    × Filled (vertices l.t) l.i l.counts
    × Filled (vol l.t) l.i l.vols
    × Filled (len l.t) l.i l.lens
    × (length l.tails ≡ 256)
    × ((j u : ℕ) → j < l.i → u < 16 → get_or l.tails (16 * j + u) 0 ≡ tail_of l.t j u)
