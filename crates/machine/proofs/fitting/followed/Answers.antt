use Rattle.machine.proofs.Judging.{followed_past, followed_in}
use Rattle.std.proofs.Common.{arith, le-ltb, ◌∙◌}
use Rattle.graph.specs.Words.{bit}
use Rattle.machine.proofs.fitting.followed.Goals as goal

pub returns-then-s-lt48 : goal.returns-then-s-lt48
unfolding bit
returns-then-s-lt48 c = followed_in c.args.live c.args.s (omega arith)

pub returns-else-s-lt48 : goal.returns-else-s-lt48
returns-else-s-lt48 c = le-ltb c.args.s 48 (omega arith) ∙ followed_past c.args.live c.args.s (omega arith)
