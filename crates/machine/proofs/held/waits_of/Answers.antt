use Rattle.std.proofs.Common.{rules}
use Rattle.machine.specs.Rows.{no_task}
use Rattle.machine.proofs.Made.{made_row}
use Rattle.machine.proofs.held.waits_of.Goals as goal

pub returns : goal.returns
unfolding no_task
returns c = made_row _ _ _ 16 0 _ (λ i y q b e. search rules) c.from_fn.ensures.items
