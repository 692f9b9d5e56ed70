use Rattle.graph.proofs.Bits.{one_less}
use Rattle.journal.proofs.lists.taken_out.Goals as goal

pub returns : goal.returns
returns c = λ k h. one_less c.args.set c.args.u k c.requires h
