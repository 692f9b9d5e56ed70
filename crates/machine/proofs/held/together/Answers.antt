use Rattle.std.proofs.Common.{rules}
use Rattle.machine.specs.Rows.{no_task}
use Rattle.machine.proofs.Made.{made_row}
use Rattle.machine.proofs.held.together.Goals as goal

pub returns : goal.returns
returns c = made_row _ _ _ 16 no_task _ (λ i y q b e. search rules) c.from_fn.ensures.items
