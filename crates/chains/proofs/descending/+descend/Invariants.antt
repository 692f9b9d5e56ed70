-- The measure is the set of those that are not visited, as a number: a call follows only where u is taken out of it. The loop's invariant:
-- `Going`, what holds between two successors of u.
use Rattle.std.proofs.Common.{◌≡◌, ◌<◌, ◌^◌, length}
use Rattle.chains.proofs.Descent.{Going}
use Rattle.chains.proofs.descending.+descend.Given as goal

abbrev pub decreases-descend : goal.decreases-descend
decreases-descend l = l.left

abbrev pub invariant-loop-w : goal.invariant-loop-w
invariant-loop-w l =
    (l.w-iterator.rest < 2 ^ 16)
    × (length l.tails ≡ 16)
    × (l.unseen < l.left)
    × Going l.succ l.times l.u l.left l.fn.tails l.tails l.unseen l.best l.w-iterator.rest
