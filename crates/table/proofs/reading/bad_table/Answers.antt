use Rattle.table.specs.Reading.{bad_table}
use Rattle.table.proofs.reading.bad_table.Goals as goal

pub returns : goal.returns
unfolding bad_table
returns c = rw c.no_table.ensures
