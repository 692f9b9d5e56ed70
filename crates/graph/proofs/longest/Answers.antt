use mir.Val.{Fits}
use mir.Syntax.{w16, w32}
use Prim.Native.Nat.{ℕ}
use native.Mathlib.Omega.{arith}
use borrow.Author.Rules.{rules}
use lib.ListN.{get_or}
use lib.Bits.{and_le_l}
use Rattle.graph.proofs.Rounds.{room_before, round_second, room_for, round_next, round_cycle, round_done}
use Rattle.graph.proofs.longest.Goals as goal

pub pass_on-best-requires : goal.pass_on-best-requires
pass_on-best-requires c =
    let a = c.args in
    let f = c.led_from_all-first in
    let fits : (k : ℕ) → Fits w16 (get_or a.succ k 0) = λ k. search rules in
    let small : Fits w16 f.result = search rules in
    room_before a.succ a.times (λ k. omega (arith, fits k)) f.result (omega arith) f.ensures

pub loop-left-init : goal.loop-left-init
loop-left-init c =
    let a = c.args in
    let f = c.led_from_all-first in
    let fits : (k : ℕ) → Fits w16 (get_or a.succ k 0) = λ k. search rules in
    let small : Fits w16 f.result = search rules in
    let brief : (k : ℕ) → Fits w32 (get_or a.times k 0) = λ k. search rules in
    round_second a.succ a.times (λ k. omega (arith, fits k)) f.result (omega arith) f.ensures (λ k. omega (arith, brief k)) c.pass_on-best.new.starts c.pass_on-best.result c.pass_on-best.ensures.0 c.pass_on-best.ensures.1

-- none is left
pub returns-then-left-eq0 : goal.returns-then-left-eq0
returns-then-left-eq0 c =
    let a = c.args in
    let l = c.loop-left in
    let f = c.led_from-led in
    let fits : Fits w16 f.result = search rules in
    round_done a.succ a.times l.left l.starts l.best l.invariant f.result (omega arith) f.ensures c.if-next-left.true c.if-left-eq0.true

-- some are left: there is a cycle
pub returns-else-left-eq0 : goal.returns-else-left-eq0
returns-else-left-eq0 c =
    let a = c.args in
    let l = c.loop-left in
    let f = c.led_from-led in
    let fits : Fits w16 f.result = search rules in
    round_cycle a.succ a.times l.left l.starts l.best l.invariant f.result (omega arith) f.ensures c.if-next-left.true c.if-left-eq0.false

pub pass_on-best-requires-in-loop-left : goal.pass_on-best-requires-in-loop-left
pass_on-best-requires-in-loop-left c =
    let a = c.args in
    let l = c.loop-left in
    let f = c.led_from-led in
    let fits : Fits w16 f.result = search rules in
    room_for a.succ a.times l.left l.starts l.best l.invariant f.result (omega arith) f.ensures

pub loop-left-smaller : goal.loop-left-smaller
loop-left-smaller c = omega (arith, and_le_l c.loop-left.left c.led_from-led.result)

pub loop-left-preserved : goal.loop-left-preserved
loop-left-preserved c =
    let a = c.args in
    let l = c.loop-left in
    let f = c.led_from-led in
    let fits : Fits w16 f.result = search rules in
    let brief : (k : ℕ) → Fits w32 (get_or a.times k 0) = λ k. search rules in
    round_next a.succ a.times l.left l.starts l.best l.invariant f.result (omega arith) f.ensures (λ k. omega (arith, brief k))
    c.pass_on-best-in-loop-left.new.starts c.pass_on-best-in-loop-left.result c.pass_on-best-in-loop-left.ensures.0 c.pass_on-best-in-loop-left.ensures.1
