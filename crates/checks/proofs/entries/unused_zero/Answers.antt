use mathlib.Core.Path.{◌≡◌, sym, ◌∙◌}
use native.Mathlib.Omega.{arith}
use borrow.Author.Count.{below_more}
use Rattle.graph.proofs.Facts.{all_of}
use Rattle.table.specs.Memory.{task, no_task}
use Rattle.checks.proofs.UnusedLaws.{unused_at, unused_is, all_fails, at_used, at_rest}
use Rattle.checks.proofs.entries.unused_zero.Goals as goal
use Rattle.checks.proofs.entries.unused_zero.Goals.{then-i-from, else-i-from}

pub returns-then-not-zero : goal.returns-then-not-zero
unfolding task no_task
returns-then-not-zero c =
    let t = c.args.table in
    let i = c.loop-i.i in
    let e : c.if-i-from.zero ≡ unused_at t i = elim c.if-i-from.branch [
      | then-i-from w ↦ w.zero-is ∙ rw w.from-then-i-from.ensures at w.zero_from-zero.ensures ∙ at_used t i (omega (arith, c.from.ensures, w.if-i-from.true))
      | else-i-from w ↦ w.zero-is ∙ w.zero_task-zero.ensures ∙ at_rest t i (omega (arith, c.from.ensures, w.if-i-from.false))
    ] in
    sym (unused_is t ∙ all_fails 16 _ i (omega arith) (sym e ∙ c.if-not-zero.true))

pub loop-i-preserved : goal.loop-i-preserved
unfolding task no_task
loop-i-preserved c =
    let t = c.args.table in
    let i = c.loop-i.i in
    let e : c.if-i-from.zero ≡ unused_at t i = elim c.if-i-from.branch [
      | then-i-from w ↦ w.zero-is ∙ rw w.from-then-i-from.ensures at w.zero_from-zero.ensures ∙ at_used t i (omega (arith, c.from.ensures, w.if-i-from.true))
      | else-i-from w ↦ w.zero-is ∙ w.zero_task-zero.ensures ∙ at_rest t i (omega (arith, c.from.ensures, w.if-i-from.false))
    ] in
    below_more _ _ c.loop-i.invariant (sym e ∙ c.if-not-zero.false)

pub returns : goal.returns
returns c = sym (unused_is c.args.table ∙ all_of 16 _ (λ k h. c.loop-i.invariant k (omega arith)))
