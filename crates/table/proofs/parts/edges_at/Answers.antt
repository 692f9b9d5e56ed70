use Rattle.table.proofs.PartLaws.{edges_end, edges_stop, edges_got, told_stop}
use Rattle.table.proofs.FieldLaws.{handed, edge_read}
use Rattle.table.proofs.FieldViews.{halted, edge_view}
use Rattle.table.specs.Reading.{EdgesRead, add_edge}
use Rattle.table.specs.Parts.{told}
use borrow.Author.Rules.{rules}
use lib.Pow.{pow-lt}
use native.Mathlib.Nat.{mod-eq_of_lt, one-mul}
use native.Mathlib.Omega.{arith}
use mathlib.Core.Path.{◌≡◌, ap, ◌∙◌}
use Prim.Native.Nat.{ℕ, ◌+◌, ◌*◌, ◌-◌, ◌%◌, ◌^◌, ◌<◌}
use Rattle.table.proofs.parts.edges_at.Goals as goal

power : (t : ℕ) → t < 16 → 1 * 2 ^ t % 65536 ≡ 2 ^ t
power t h = ap (λ (n : ℕ). n % 65536) (one-mul (2 ^ t)) ∙ mod-eq_of_lt (pow-lt h)

pub returns-in_err-key : goal.returns-in_err-key
returns-in_err-key c =
    let a = c.args in
    let l = c.loop in
    let h = c.in_err-key.ensures in
    let e = edges_stop _ _ _ _ _ _ (a.e - (l.counter + 1)) (omega arith) _ h ∙ l.invariant.2 in (
      handed _ _ c.from_residual.ensures.1 ∙ told_stop _ (halted _ (edge_view a.v l.low a.bytes.now l.p c.requires.0) _ h) ∙ ap (λ (r : EdgesRead). told r.outcome) e,
      ap (λ (r : EdgesRead). r.succ) e,
    )

pub bounds-succ-key : goal.bounds-succ-key
bounds-succ-key c = omega (arith, (edge_read _ _ _ _ _ c.in_ok-key.ensures).2 c.requires.0)

pub bounds-succ-key-in-loop : goal.bounds-succ-key-in-loop
bounds-succ-key-in-loop c = omega (arith, (edge_read _ _ _ _ _ c.in_ok-key.ensures).2 c.requires.0)

pub overflow_add-low : goal.overflow_add-low
overflow_add-low c = omega (arith, (edge_read _ _ _ _ _ c.in_ok-key.ensures).2 c.requires.0)

pub loop-preserved : goal.loop-preserved
unfolding add_edge
loop-preserved c =
    let h = c.in_ok-key.ensures in
    let key = c.in_ok-key.key in (
      (edge_read _ _ _ _ _ h).0,
      search rules,
      edges_got _ _ _ _ _ _ _ (omega arith) _ _ h (rw (power (key % 16) (omega arith))) ∙ c.loop.invariant.2,
    )

pub returns : goal.returns
unfolding told
returns c =
    let e = edges_end _ _ _ _ _ _ (omega arith) ∙ c.loop.invariant.2 in
    (ap (λ (r : EdgesRead). told r.outcome) e, ap (λ (r : EdgesRead). r.succ) e)
