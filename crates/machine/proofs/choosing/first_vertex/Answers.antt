-- Trailing zeros: that bit is set, and none below it.
use Rattle.std.proofs.Common.{◌^◌, ◌<◌, arith, rules}
use Rattle.graph.proofs.Bits.{lowest, lowest_lt}
use Rattle.machine.proofs.choosing.first_vertex.Goals as goal

pub overflow_cast-result : goal.overflow_cast-result
overflow_cast-result c =
    let h : c.args.set < 2 ^ 16 = search rules in
    omega (arith, lowest_lt 16 c.args.set c.requires h)

pub returns : goal.returns
returns c =
    let h : c.args.set < 2 ^ 16 = search rules in
    let l = lowest 16 c.args.set c.requires h in
    (lowest_lt 16 c.args.set c.requires h, l.here, l.below)
