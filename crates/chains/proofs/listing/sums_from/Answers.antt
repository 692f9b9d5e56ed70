use native.Mathlib.Omega.{arith}
use Rattle.chains.proofs.Backward.{none_reckoned, all_reckoned, reckons_small, reckoned_less, reckoned_next}
use Rattle.chains.proofs.listing.sums_from.Goals as goal

pub loop-u-init : goal.loop-u-init
loop-u-init c = none_reckoned c.args.succ.now c.args.times.now

pub overflow_add-sums : goal.overflow_add-sums
overflow_add-sums c =
    let l = c.loop-u in
    let u = c.in-Some in
    omega (
      arith,
      reckons_small c.args.succ.now c.args.times.now c.requires l.left l.sums l.invariant u.u u.ensures.0 u.ensures.1 u.ensures.2
          c.largest_of.result c.from.result c.largest_of.ensures c.from.ensures c.fits-times,
    )

pub loop-u-smaller : goal.loop-u-smaller
loop-u-smaller c =
    let l = c.loop-u in
    let u = c.in-Some in
    reckoned_less c.args.succ.now c.args.times.now c.requires l.left l.sums l.invariant u.u u.ensures.0 u.ensures.1 u.ensures.2
    c.largest_of.result c.from.result c.largest_of.ensures c.from.ensures

pub loop-u-preserved : goal.loop-u-preserved
loop-u-preserved c =
    let l = c.loop-u in
    let u = c.in-Some in
    reckoned_next c.args.succ.now c.args.times.now c.requires l.left l.sums l.invariant u.u u.ensures.0 u.ensures.1 u.ensures.2
    c.largest_of.result c.from.result c.largest_of.ensures c.from.ensures

pub returns : goal.returns
returns c =
    let l = c.loop-u in
    all_reckoned c.args.succ.now c.args.times.now c.requires l.left l.sums l.invariant c.in_default.ensures
