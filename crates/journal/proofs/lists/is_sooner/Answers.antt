use mathlib.Core.Path.{refl, ap}
use mathlib.Core.Bool.{not}
use native.Mathlib.Omega.{arith}
use lib.ListN.{get_or}
use Rattle.graph.specs.Words.{all}
use Rattle.slots.proofs.Behind.{all_more, all_off, all_done_lem}
use Rattle.journal.proofs.RowTests.{no_later, later_ticks, later_none}
use Rattle.journal.proofs.lists.is_sooner.Goals.{else-rest-k-ne0-via-then-rest-k-ne0+else-ticks-k, else-rest-k-ne0-via-else-rest-k-ne0}
use Rattle.journal.proofs.lists.is_sooner.Goals as goal

pub loop-k-init : goal.loop-k-init
unfolding all
loop-k-init c = refl

pub returns-then-ticks-k : goal.returns-then-ticks-k
returns-then-ticks-k c =
    let l = c.loop-k in
    let a = c.args in
    let x = get_or a.rest.now l.k 0 in
    let y = get_or a.ticks.now l.k 0 in
    ap not (all_off _ _ l.k (omega arith) (no_later x a.most y c.if-rest-k-ne0.true c.if-ticks-k.true))

pub loop-k-preserved : goal.loop-k-preserved
loop-k-preserved c =
    let l = c.loop-k in
    let a = c.args in
    let x = get_or a.rest.now l.k 0 in
    let y = get_or a.ticks.now l.k 0 in
    elim c.else-rest-k-ne0.branch [
      | else-rest-k-ne0-via-then-rest-k-ne0+else-ticks-k w ↦ all_more _ _ l.invariant (later_ticks x a.most y w.if-ticks-k.false)
      | else-rest-k-ne0-via-else-rest-k-ne0 w ↦ all_more _ _ l.invariant (later_none x a.most y w.if-rest-k-ne0.false)
    ]

pub returns : goal.returns
returns c = ap not (all_done_lem _ _ c.loop-k.k (omega arith) c.loop-k.invariant)
