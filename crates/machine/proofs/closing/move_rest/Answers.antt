use Rattle.std.proofs.Common.{◌∙◌, arith, rules}
use Rattle.machine.proofs.Gaps.{slot_moved}
use Rattle.machine.proofs.closing.move_rest.Goals as goal

pub returns : goal.returns
returns c =
    let a = c.args in
    let w = c.copy_within.ensures in
    slot_moved a.to a.from _ a.remaining.now c.copy_within.new.self (w.len ∙ search rules) (omega arith) w.by_index
