use Rattle.std.proofs.Common.{rules}
use Rattle.graph.specs.Words.{bit}
use Rattle.machine.specs.States.{no_job}
use Rattle.machine.proofs.Made.{made_row}
use Rattle.machine.proofs.held.places.Goals as goal

pub returns : goal.returns
unfolding bit
returns c = made_row _ _ _ 4 no_job _ (λ i y q b e. search rules) c.from_fn.ensures.items
