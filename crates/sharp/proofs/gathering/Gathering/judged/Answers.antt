use Rattle.std.proofs.Common.{◌≡◌, ℕ, ap, ◌∙◌, arith, rules, pos}
use borrow.Author.Tests.{lt-ltb}
use Rattle.graph.specs.Words.{pick}
use mir.Facts.{to_z-of_z}
use mir.Syntax.{w64}
use mir.Val.{SFits}
use Rattle.verdict.specs.Judging.{judged_by}
use Rattle.sharp.specs.Sharp.{sharp_margin}
use Rattle.sharp.specs.Gathered.{margin_in}
use Rattle.sharp.proofs.Judged.{held_margin, met_late, decided_by}
use Rattle.sharp.proofs.gathering.Gathering.judged.Goals as goal

pub returns-in-Some : goal.returns-in-Some
returns-in-Some c = λ t g h.
    let x = c.args.self.now in
    let k = c.in-Some.k in
    let f : SFits w64 c.margin.result = record { sfits = c.margin.type_inv } in
    met_late t g x h k c.in-Some.ensures _ (to_z-of_z f ∙ c.margin.ensures ∙ held_margin t g x h k (omega (arith, c.in-Some.ensures.0, h.n_is)))

pub returns : goal.returns
returns c = λ t g h.
    let x = c.args.self.now in
    c.judge.ensures (sharp_margin t)
    (λ k b. ap (λ c. pick c (margin_in x k) (pos 0)) (lt-ltb k x.n b) ∙ held_margin t g x h k (omega (arith, h.n_is)))
    ∙ ap (λ (n : ℕ). judged_by n 23 (sharp_margin t)) h.n_is
    ∙ decided_by t g x h c.in_default.ensures
