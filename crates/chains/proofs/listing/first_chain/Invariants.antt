-- The loop's invariant: `Listing`, what holds between two turns.
use Prim.Native.Nat.{◌-◌}
use Rattle.chains.proofs.Placed.{Listing}
use Rattle.chains.proofs.listing.first_chain.Given as goal

abbrev pub invariant-loop-u : goal.invariant-loop-u
invariant-loop-u l = Listing l.succ l.times l.vertices l.count l.set l.left

abbrev pub decreases-loop-u : goal.decreases-loop-u
decreases-loop-u l = 16 - l.count
