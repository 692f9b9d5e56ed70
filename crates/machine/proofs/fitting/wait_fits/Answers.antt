use Rattle.machine.proofs.Judging.{wait_none, wait_some}
use Rattle.std.proofs.Common.{arith}
use Rattle.machine.proofs.fitting.wait_fits.Goals as goal

pub returns-then-n-i : goal.returns-then-n-i
returns-then-n-i c = wait_none _ _ _ _ (omega arith)

pub returns-else-n-i : goal.returns-else-n-i
returns-else-n-i c = wait_some _ _ _ _ (omega arith)
