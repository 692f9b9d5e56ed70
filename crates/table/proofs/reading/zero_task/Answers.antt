use Rattle.table.specs.Memory.{no_succ, zero_task}
use mathlib.Core.Path.{refl}
use Rattle.table.proofs.reading.zero_task.Goals as goal

pub returns : goal.returns
unfolding zero_task no_succ
returns c = refl
