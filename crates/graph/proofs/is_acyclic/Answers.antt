use mathlib.Core.Path.{ap, sym, ◌∙◌}
use Prim.Native.Nat.{◌<◌, ◌^◌}
use native.Mathlib.Omega.{arith}
use borrow.Author.Rules.{rules}
use lib.Bits.{and_le_l}
use Rattle.graph.proofs.Members.{full_and}
use Rattle.graph.proofs.Settle.{comes_to_none, all_in_lem, round_on, round_end}
use Rattle.graph.proofs.is_acyclic.Goals as goal

pub loop-left-init : goal.loop-left-init
loop-left-init c =
    let s = c.args.succ in
    let f = c.led_from_all-left in
    let small : f.result < 2 ^ 16 = search rules in
    (small, ap (comes_to_none s) (sym (full_and f.result small)) ∙ round_on s 65535 f.result f.ensures ∙ all_in_lem s)

pub returns-then-next-left : goal.returns-then-next-left
returns-then-next-left c =
    let a = c.args in
    let l = c.loop-left in
    let f = c.led_from in
    sym (round_end a.succ l.left f.result f.ensures l.invariant.0 c.if-next-left.true) ∙ l.invariant.1

pub loop-left-smaller : goal.loop-left-smaller
loop-left-smaller c = omega (arith, and_le_l c.loop-left.left c.led_from.result)

pub loop-left-preserved : goal.loop-left-preserved
loop-left-preserved c =
    let a = c.args in
    let l = c.loop-left in
    let f = c.led_from in
    (omega (arith, and_le_l l.left f.result), round_on a.succ l.left f.result f.ensures ∙ l.invariant.1)
