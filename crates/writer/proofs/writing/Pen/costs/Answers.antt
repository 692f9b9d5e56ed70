use native.Mathlib.Omega.{arith}
use native.Mathlib.Nat.{zero-add}
use lib.ListN.{length}
use Rattle.writer.proofs.PenLaws.{begun, went_on, all_put, has_room}
use Rattle.writer.proofs.PutLaws.{costs_start, costs_next, costs_last}
use Rattle.writer.proofs.writing.Pen.costs.Goals as goal

pub loop-cost-init : goal.loop-cost-init
loop-cost-init c = begun (costs_start c.args.costs.now 0 (length c.args.costs.now))

pub number-requires : goal.number-requires
number-requires c =
    let l = c.args.costs.now in
    let i = c.loop-cost.cost-index in
    has_room _ c.loop-cost.invariant (rw (zero-add i) at (costs_next l 0 (length l) i (omega arith))) c.requires

pub loop-cost-preserved : goal.loop-cost-preserved
loop-cost-preserved c =
    let l = c.args.costs.now in
    let i = c.loop-cost.cost-index in
    went_on c.loop-cost.invariant (rw (zero-add i) at (costs_next l 0 (length l) i (omega arith))) c.number.ensures

pub returns : goal.returns
returns c =
    let l = c.args.costs.now in
    all_put c.loop-cost.invariant (costs_last l 0 (length l) c.loop-cost.cost-index (omega arith))
