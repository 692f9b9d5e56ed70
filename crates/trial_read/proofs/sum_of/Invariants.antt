-- Nothing has to last from turn to turn: the bound is that of the checksum's number at the end.
use Rattle.trial_read.proofs.sum_of.Given as goal

abbrev pub invariant-loop-task : goal.invariant-loop-task
invariant-loop-task l = Unit {0}

abbrev pub invariant-loop-cost : goal.invariant-loop-cost
invariant-loop-cost l = Unit {0}
