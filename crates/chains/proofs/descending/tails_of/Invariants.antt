-- The loop's invariant: each vertex that was visited has its tail, and each below u was visited.
use mathlib.Core.Path.{◌≡◌}
use lib.ListN.{length}
use Rattle.chains.proofs.Descent.{Settled, Started}
use Rattle.chains.proofs.descending.tails_of.Given as goal

abbrev pub invariant-loop-u : goal.invariant-loop-u
invariant-loop-u l = (length l.tails ≡ 16) × Settled l.succ l.times l.left l.tails × Started l.left l.u
