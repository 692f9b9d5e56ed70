use Rattle.table.specs.Reading.{refused}
use Rattle.table.proofs.reading.refusal.Goals as goal

pub returns : goal.returns
unfolding refused
returns c = rw c.no_table.ensures
