use Rattle.std.proofs.Common.{◌≡◌, ℕ, ap, ◌∙◌, arith, to_z, of_z}
use mir.Facts.{to_z-of_z}
use mir.Syntax.{w64}
use mir.Val.{SFits}
use Rattle.verdict.proofs.Walk.{none_yet, at_top, kept, taken, met_negative, all_passed}
use Rattle.verdict.proofs.searching.judge.Goals as goal
use Rattle.verdict.proofs.searching.judge.Goals.{then-z-best, else-z-best}

pub loop-k-init : goal.loop-k-init
loop-k-init g c = λ z h. none_yet z _

pub returns-then-z-lt0 : goal.returns-then-z-lt0
returns-then-z-lt0 g c = λ z h.
    let r = c.margin_at-z in
    let f : SFits w64 r.result = record { sfits = r.type_inv } in
    let k = c.loop-k.k in
    let its = to_z-of_z f ∙ (r.ensures ∙ ap (λ (x : ℕ). g.F.Figuring.margin_of c.args.figures.now x) c.from.ensures ∙ h k (omega arith)) in
    met_negative z _ c.args.n k _ _ (omega arith) (c.loop-k.invariant z h) _ its c.args.number c.if-z-lt0.true

pub loop-k-preserved : goal.loop-k-preserved
loop-k-preserved g c = λ z h.
    let r = c.margin_at-z in
    let f : SFits w64 r.result = record { sfits = r.type_inv } in
    let k = c.loop-k.k in
    let bits = to_z-of_z f in
    let its : to_z w64 (of_z w64 r.result) ≡ z k =
    bits ∙ (r.ensures ∙ ap (λ (x : ℕ). g.F.Figuring.margin_of c.args.figures.now x) c.from.ensures ∙ h k (omega arith)) in
    elim c.if-z-best.branch [
      | then-z-best w ↦ rw (w.task-is, w.best-is) (taken z _ c.args.n k _ _ (omega arith) (c.loop-k.invariant z h) _ its c.if-z-lt0.false w.if-z-best.true)
      | else-z-best w ↦ rw (w.task-is, w.best-is)
          (kept z _ c.args.n k _ _ (omega arith) (c.loop-k.invariant z h) _ its (rw bits (at_top r.result r.type_inv)) c.if-z-lt0.false w.if-z-best.false)
    ]

pub returns : goal.returns
returns g c = λ z h.
    let e : c.loop-k.k ≡ c.args.n = omega arith in
    all_passed z c.args.n c.args.number _ _ (rw e at (c.loop-k.invariant z h))
