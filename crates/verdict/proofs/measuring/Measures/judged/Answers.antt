use Rattle.std.proofs.Common.{◌≡◌, ℕ, ap, ◌∙◌, arith, rules, pos}
use Rattle.graph.specs.Words.{pick}
use Rattle.verdict.specs.Verdicts.{margin}
use Rattle.verdict.specs.Judging.{judged_by}
use Rattle.verdict.specs.Measured.{margin_in}
use Rattle.verdict.proofs.Figured.{held_margin}
use Rattle.verdict.proofs.Judged.{decided_by}
use borrow.Author.Tests.{lt-ltb}
use Rattle.verdict.proofs.measuring.Measures.judged.Goals as goal

pub returns : goal.returns
returns c = λ t g h.
    let x = c.args.self.now in
    c.judge.ensures (margin t)
    (λ k b. ap (λ c. pick c (margin_in x k) (pos 0)) (lt-ltb k x.n b) ∙ held_margin t g k (omega (arith, h.n_is)) x h)
    ∙ ap (λ (n : ℕ). judged_by n 20 (margin t)) h.n_is
    ∙ decided_by t g
