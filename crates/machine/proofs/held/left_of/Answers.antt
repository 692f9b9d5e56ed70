use Rattle.std.proofs.Common.{get_or, rules}
use Rattle.machine.specs.States.{wrap, ticks_left}
use Rattle.machine.proofs.held.left_of.Goals as goal

pub returns : goal.returns
unfolding ticks_left wrap
returns c = c.at_slots.ensures (λ s. ticks_left (get_or c.args.deadlines.now s 0) c.args.clock) (λ s r b e. search rules)
