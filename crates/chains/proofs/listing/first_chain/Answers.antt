use mathlib.Core.Path.{ap, ◌∙◌}
use mathlib.Core.List.{List}
use Prim.Native.Nat.{ℕ, ◌+◌}
use native.Mathlib.Omega.{arith}
use lib.ListN.{get_or, set}
use Rattle.graph.specs.Words.{pick, bit, largest}
use Rattle.chains.proofs.Placed.{largest_sum, listing_first, its_turn, some_turn, listing_done, listing_next, listed_answer}
use Rattle.chains.proofs.listing.first_chain.Goals as goal
use Rattle.chains.proofs.listing.first_chain.Goals.{in-Some+then-left-eq0, in_default}

pub loop-u-init : goal.loop-u-init
loop-u-init c =
    let a = c.args in
    let f = c.sums_from-sums in
    let m = c.largest_of-sum in
    listing_first a.succ.now a.times.now c.requires m.result
    (largest_sum a.succ.now a.times.now c.requires m.result
    (m.ensures ∙ ap (λ (l : List ℕ). largest 16 (λ w. pick (bit 65535 w) (get_or l w 0) 0)) f.ensures))

pub overflow_cast-vertices : goal.overflow_cast-vertices
overflow_cast-vertices c = omega (arith, (its_turn c.requires c.loop-u.invariant c.sums_from-sums.ensures c.in-Some.ensures).0)

pub bounds-vertices-count : goal.bounds-vertices-count
bounds-vertices-count c = (its_turn c.requires c.loop-u.invariant c.sums_from-sums.ensures c.in-Some.ensures).1

pub overflow_add-count : goal.overflow_add-count
overflow_add-count c = omega (arith, (its_turn c.requires c.loop-u.invariant c.sums_from-sums.ensures c.in-Some.ensures).1)

pub offset_bounds-times-u : goal.offset_bounds-times-u
offset_bounds-times-u c = omega (arith, (its_turn c.requires c.loop-u.invariant c.sums_from-sums.ensures c.in-Some.ensures).0)

pub bounds-times-u : goal.bounds-times-u
bounds-times-u c = (its_turn c.requires c.loop-u.invariant c.sums_from-sums.ensures c.in-Some.ensures).0

pub overflow_sub-left : goal.overflow_sub-left
overflow_sub-left c = omega (arith, (its_turn c.requires c.loop-u.invariant c.sums_from-sums.ensures c.in-Some.ensures).2, c.from-left.ensures)

pub offset_bounds-succ-u : goal.offset_bounds-succ-u
offset_bounds-succ-u c = omega (arith, (its_turn c.requires c.loop-u.invariant c.sums_from-sums.ensures c.in-Some.ensures).0)

pub bounds-succ-u : goal.bounds-succ-u
bounds-succ-u c = (its_turn c.requires c.loop-u.invariant c.sums_from-sums.ensures c.in-Some.ensures).0

pub loop-u-smaller : goal.loop-u-smaller
loop-u-smaller c = omega (arith, (its_turn c.requires c.loop-u.invariant c.sums_from-sums.ensures c.in-Some.ensures).1)

pub loop-u-preserved : goal.loop-u-preserved
loop-u-preserved c =
    let l = c.loop-u in
    let f = c.sums_from-sums in
    listing_next c.args.succ.now c.args.times.now c.requires l.vertices l.count l.set l.left l.invariant c.in-Some.u f.result f.ensures
    c.in-Some.ensures c.from-left.result c.from-left.ensures (λ z. c.if-left-eq0.false (omega arith))

pub overflow_cast-result : goal.overflow_cast-result
overflow_cast-result c =
    elim c.match-first_with.branch [
      | in-Some+then-left-eq0 w ↦ omega (arith, w.count-is, (its_turn c.requires c.loop-u.invariant c.sums_from-sums.ensures w.in-Some.ensures).1)
      | in_default w ↦ absurd (some_turn c.requires c.loop-u.invariant c.sums_from-sums.ensures w.in_default.ensures)
    ]

pub returns : goal.returns
returns c =
    let a = c.args in
    let l = c.loop-u in
    let f = c.sums_from-sums in
    let m = c.largest_of-sum in
    elim c.match-first_with.branch [
      | in-Some+then-left-eq0 w ↦
          let d = listing_done a.succ.now a.times.now c.requires l.vertices l.count l.set l.left l.invariant w.in-Some.u f.result f.ensures
          w.in-Some.ensures w.from-left.result w.from-left.ensures (omega (arith, w.if-left-eq0.true)) in
          rw (w.count-is, w.vertices-is)
          (listed_answer a.succ.now a.times.now c.requires m.result (l.count + 1) (set l.vertices l.count w.in-Some.u)
          (largest_sum a.succ.now a.times.now c.requires m.result
          (m.ensures ∙ ap (λ (x : List ℕ). largest 16 (λ c. pick (bit 65535 c) (get_or x c 0) 0)) f.ensures))
          d.0 d.1)
      | in_default w ↦ absurd (some_turn c.requires l.invariant f.ensures w.in_default.ensures)
    ]
