use Rattle.std.proofs.Common.{◌≡◌, ◌+◌, refl, get_or, arith}
use Rattle.graph.specs.Words.{largest}
use Rattle.sharp.proofs.Reckoned.{largest_next}
use Rattle.sharp.proofs.putting.longest_of.Goals as goal

pub loop-u-init : goal.loop-u-init
unfolding largest
loop-u-init c = refl

pub loop-u-preserved : goal.loop-u-preserved
loop-u-preserved c =
    let a = c.args in
    let l = c.loop-u in
    omega (arith, largest_next l.u (λ x. get_or a.own x 0 + get_or a.tails x 0), l.invariant, c.from.ensures, c.max-best.ensures)

pub returns : goal.returns
returns c =
    let l = c.loop-u in
    let e : l.u ≡ 16 = omega arith in
    rw e at l.invariant
