use Rattle.table.specs.Memory.{no_table, no_tasks, no_row}
use Rattle.table.proofs.reading.no_table.Goals as goal

pub returns : goal.returns
unfolding no_table no_tasks no_row
returns c = rw c.zero_task-none.ensures
