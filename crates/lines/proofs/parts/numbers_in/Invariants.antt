-- The invariant: the tasks that are no longer to come are put.
use Prim.Native.Nat.{◌<◌, ◌^◌}
use Rattle.lines.proofs.Named.{Names}
use Rattle.lines.proofs.parts.numbers_in.Given as goal

abbrev pub invariant-loop-i : goal.invariant-loop-i
invariant-loop-i l = (l.i-iterator.rest < 2 ^ 16) × Names l.initial.page l.page l.set l.i-iterator.rest
