use Rattle.std.proofs.Common.{ltb, get_or, rules}
use Rattle.machine.proofs.choosing.some_in.Goals as goal

pub returns : goal.returns
returns c = c.passing.ensures (λ s. ltb 0 (get_or c.args.sets.now s 0)) (λ s r b e. search rules)
