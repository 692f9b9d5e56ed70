use native.Mathlib.Omega.{arith}
use Rattle.graph.specs.Words.{bit}
use Rattle.journal.proofs.SetTests.{no_task_past, no_age, no_vertex, in_set_lem}
use Rattle.journal.proofs.lists.is_in.Goals.{then-i-ge16-via-then-i-ge16, then-i-ge16-via-else-i-ge16+then-p-ge4, then-i-ge16-via-else-i-ge16+else-p-ge4+then-u-ge16}
use Rattle.journal.proofs.lists.is_in.Goals as goal

pub returns-then-i-ge16 : goal.returns-then-i-ge16
returns-then-i-ge16 c = elim c.then-i-ge16.branch [
  | then-i-ge16-via-then-i-ge16 w ↦ no_task_past _ _ _ _ w.if-i-ge16.true
  | then-i-ge16-via-else-i-ge16+then-p-ge4 w ↦ no_age _ _ _ _ w.if-p-ge4.true (omega arith)
  | then-i-ge16-via-else-i-ge16+else-p-ge4+then-u-ge16 w ↦ no_vertex _ _ _ _ w.if-u-ge16.true (omega arith) (omega arith)
]

pub returns : goal.returns
unfolding bit
returns c = in_set_lem _ _ _ _ (omega arith) (omega arith) (omega arith)
