use Rattle.std.proofs.Common.{eqb, get_or, rules}
use Rattle.machine.proofs.closing.done_of.Goals as goal

pub returns : goal.returns
returns c = c.passing.ensures (λ s. eqb (get_or c.args.work.now s 0) 0) (λ s r b e. search rules)
