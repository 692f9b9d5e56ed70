use Prim.Native.Nat.{◌-◌, ◌^◌, ◌<◌, min}
use mir.Val.{Fits}
use mir.Syntax.{w16}
use native.Mathlib.Omega.{arith}
use native.Mathlib.Numerals.{add-one}
use borrow.Author.Rules.{rules}
use lib.Bits.{bit_and, or_lt, and_le_r}
use Rattle.graph.specs.Words.{flag, bit}
use Rattle.graph.specs.Graph.{edge}
use Rattle.graph.proofs.Sets.{set_is}
use Rattle.graph.proofs.Held.{rounds_first, rounds_next, held_early, held_last, flag_says}
use Rattle.graph.proofs.held_back.Goals as goal

pub loop-init : goal.loop-init
loop-init c =
    let a = c.args in
    let f = c.first_ones-used in
    let small : Fits w16 f.result = search rules in
    let brief : Fits w16 c.led_from-led.result = search rules in
    rounds_first (min a.v 16) (edge a.succ) (λ u. flag (bit a.unfinished u)) (omega arith) f.result f.ensures a.unfinished c.led_from-led.result
    (λ u b. flag_says (bit a.unfinished u)) (omega (arith, and_le_r a.unfinished f.result)) (omega arith) c.led_from-led.ensures

pub returns-then-added-eq0 : goal.returns-then-added-eq0
returns-then-added-eq0 c =
    let a = c.args in
    let f = c.first_ones-used in
    let l = c.loop in
    set_is 16 l.led _ l.invariant.small_led
    (λ u h. held_early (min a.v 16) (edge a.succ) (λ u. flag (bit a.unfinished u)) (omega arith) f.result f.ensures l.counter l.seen l.led l.invariant (omega (arith, c.if-added-eq0.true)) u)

pub loop-preserved : goal.loop-preserved
loop-preserved c =
    let a = c.args in
    let f = c.first_ones-used in
    let l = c.loop in
    let x = bit_and (bit_and l.led f.result) (65535 - l.seen) in
    let b₁ : x < 2 ^ 16 = omega (arith, and_le_r (bit_and l.led f.result) (65535 - l.seen)) in
    let b₂ : Fits w16 c.led_from-led-in-loop.result = search rules in
    rw (add-one l.counter)
    (rounds_next (min a.v 16) (edge a.succ) (λ u. flag (bit a.unfinished u)) (omega arith) f.result f.ensures l.counter l.seen l.led l.invariant
    c.led_from-led-in-loop.result (omega arith) b₁ (or_lt 16 l.seen x l.invariant.small b₁) (or_lt 16 l.led c.led_from-led-in-loop.result l.invariant.small_led (omega arith)) c.led_from-led-in-loop.ensures)

pub returns : goal.returns
returns c =
    let a = c.args in
    let f = c.first_ones-used in
    let l = c.loop in
    set_is 16 l.led _ l.invariant.small_led
    (λ u h. held_last (min a.v 16) (edge a.succ) (λ u. flag (bit a.unfinished u)) (omega arith) f.result f.ensures l.counter l.seen l.led l.invariant (omega arith) u)
