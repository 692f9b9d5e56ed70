use mathlib.Core.Path.{ap, ◌∙◌}
use mathlib.Core.List.{List}
use Prim.Native.Nat.{ℕ}
use mir.Val.{Fits}
use mir.Syntax.{w32}
use native.Mathlib.Omega.{arith}
use borrow.Author.Rules.{rules}
use lib.ListN.{length, get_or}
use Rattle.graph.specs.Words.{members}
use Rattle.graph.proofs.Members.{took}
use Rattle.graph.proofs.Order.{passed_all_end, passed_all_more, best_all_end, best_all_more, passed_room}
use Rattle.graph.proofs.pass_on.Goals as goal

pub bounds-starts-u : goal.bounds-starts-u
bounds-starts-u c = (took c.in-Some.ensures.steps c.loop-u.invariant.0).below

pub bounds-times-u : goal.bounds-times-u
bounds-times-u c = (took c.in-Some.ensures.steps c.loop-u.invariant.0).below

pub bounds-succ-u : goal.bounds-succ-u
bounds-succ-u c = (took c.in-Some.ensures.steps c.loop-u.invariant.0).below

pub overflow_add-end : goal.overflow_add-end
overflow_add-end c =
    let t = took c.in-Some.ensures.steps c.loop-u.invariant.0 in
    let small : Fits w32 (get_or c.args.times.now c.in-Some.u 0) = search rules in
    omega (arith, c.from.ensures, small, ap length t.listed, c.loop-u.invariant.2 c.in-Some.u t.below)

pub loop-u-preserved : goal.loop-u-preserved
loop-u-preserved c =
    let a = c.args in
    let l = c.loop-u in
    let u = c.in-Some.u in
    let rest = l.u-iterator.rest in
    let less = c.next.new.self.rest in
    let r = c.raise in
    let t = took c.in-Some.ensures.steps l.invariant.0 in
    let small : Fits w32 (get_or a.times.now u 0) = search rules in
    let m = passed_all_more a.succ.now a.times.now l.starts r.new.starts rest less u c.from.result t.listed c.from.ensures r.ensures in
    let room =
    passed_room a.succ.now a.times.now l.starts l.invariant.1 u (length (members less)) 68719476736 t.below
    (omega (arith, small)) (λ x h. omega (arith, ap length t.listed, l.invariant.2 x h)) in (
      t.small,
      r.array_long,
      λ x h. omega (arith, ap (λ (s : List ℕ). get_or s x 0) m.0, room x h),
      m.1 ∙ l.invariant.3,
      best_all_more a.succ.now a.times.now l.starts r.new.starts l.most c.max-most.result rest less u c.from.result t.listed
          c.from.ensures m.0 c.max-most.ensures
          ∙ l.invariant.4,
    )

pub returns : goal.returns
returns c =
    let a = c.args in
    let l = c.loop-u in
    let z = c.in-None.ensures.steps.0 in (
      passed_all_end a.succ.now a.times.now l.starts l.u-iterator.rest z ∙ l.invariant.3,
      best_all_end a.succ.now a.times.now l.starts l.most l.u-iterator.rest z ∙ l.invariant.4,
    )
