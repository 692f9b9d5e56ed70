-- Sixteen bits, four times.
use Rattle.std.proofs.Common.{ℕ, ◌*◌, ap, rules}
use Rattle.machine.proofs.Gaps.{slots_are}
use Rattle.machine.proofs.closing.slots_of.Goals as goal

pub returns : goal.returns
returns c = slots_are c.args.tasks _ (search rules) (ap (λ (n : ℕ). n * 281479271743489) c.from.ensures)
