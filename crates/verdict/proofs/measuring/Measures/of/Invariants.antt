-- The loop's invariant: the measures of the tasks so far.
use Rattle.table.specs.Memory.{D, T}
use Rattle.verdict.specs.Verdicts.{vol, len}
use Rattle.verdict.proofs.Figured.{Filled}
use Rattle.verdict.proofs.measuring.Measures.of.Given as goal

abbrev pub invariant-loop-i : goal.invariant-loop-i
invariant-loop-i l = Filled (D l.t) l.i l.deadlines × Filled (T l.t) l.i l.periods × Filled (vol l.t) l.i l.vols × Filled (len l.t) l.i l.lens
