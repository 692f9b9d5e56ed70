use Rattle.std.proofs.Common.{arith, rules}
use Rattle.graph.proofs.Members.{took}
use Rattle.chains.proofs.Sixteen.{not_in, is_in_lem, without_less}
use Rattle.chains.proofs.Descent.{visited_same, going_first, going_known, going_small, going_more, going_last}
use Rattle.chains.proofs.descending.+descend.Goals as goal

pub returns-then-left-u-eq0 : goal.returns-then-left-u-eq0
returns-then-left-u-eq0 t c =
    let a = c.args in
    let p = c.requires in
    (omega arith, visited_same a.succ.now a.times.now a.u a.left a.tails.now (not_in a.left a.u c.if-left-u-eq0.true) p.2)

pub loop-w-init : goal.loop-w-init
loop-w-init t c =
    let a = c.args in
    let p = c.requires in
    rw (c.into_iter-w-iterator.ensures.into_iter_gives, c.from-w-items.ensures) (
      c.fits-succ a.u,
      c.told-tails,
      without_less a.left a.u p.0 (is_in_lem a.left a.u c.if-left-u-eq0.false),
      going_first a.succ.now a.times.now p.1 a.u a.left a.tails.now p.0 (search rules) p.2,
    )

pub descend-unseen-requires : goal.descend-unseen-requires
descend-unseen-requires t c =
    let l = c.loop-w in
    let a = c.args in
    let p = c.requires in
    let s = took c.in-Some.ensures.steps l.invariant.0 in (
      omega (arith, c.decreases, l.invariant.2),
      (
        s.below,
        p.1,
        going_known a.succ.now a.times.now p.1 a.u a.left a.tails.now p.0 l.tails l.unseen l.best l.w-iterator.rest l.invariant.3
            c.in-Some.w c.next.new.self.rest s.below s.listed,
      ),
    )

pub bounds-times-w : goal.bounds-times-w
bounds-times-w t c = (took c.in-Some.ensures.steps c.loop-w.invariant.0).below

pub bounds-tails-w : goal.bounds-tails-w
bounds-tails-w t c = (took c.in-Some.ensures.steps c.loop-w.invariant.0).below

pub overflow_add-from : goal.overflow_add-from
overflow_add-from t c =
    let l = c.loop-w in
    let a = c.args in
    let p = c.requires in
    let d = c.descend-unseen in
    let s = took c.in-Some.ensures.steps l.invariant.0 in
    omega (
      arith,
      going_small a.succ.now a.times.now p.1 a.u a.left a.tails.now p.0 l.tails l.unseen l.best l.w-iterator.rest l.invariant.3
          c.in-Some.w c.next.new.self.rest s.below s.listed
          d.result d.new.tails d.ensures.1 c.from.result c.from.ensures,
    )

pub loop-w-preserved : goal.loop-w-preserved
loop-w-preserved t c =
    let l = c.loop-w in
    let a = c.args in
    let p = c.requires in
    let d = c.descend-unseen in
    let s = took c.in-Some.ensures.steps l.invariant.0 in (
      s.small,
      d.array_long,
      omega (arith, l.invariant.2, d.ensures.0),
      going_more a.succ.now a.times.now p.1 a.u a.left a.tails.now p.0 l.tails l.unseen l.best l.w-iterator.rest l.invariant.3
          c.in-Some.w c.next.new.self.rest s.below s.listed
          d.result d.new.tails d.ensures.1 c.from.result c.from.ensures
          c.max-best.result c.max-best.ensures,
    )

pub returns : goal.returns
returns t c =
    let l = c.loop-w in
    let a = c.args in
    let p = c.requires in (
      omega (arith, l.invariant.2),
      going_last a.succ.now a.times.now p.1 a.u a.left a.tails.now p.0 l.tails l.unseen l.best l.w-iterator.rest l.invariant.3
          c.in-None.ensures.steps.0 l.invariant.1 (is_in_lem a.left a.u c.if-left-u-eq0.false),
    )
