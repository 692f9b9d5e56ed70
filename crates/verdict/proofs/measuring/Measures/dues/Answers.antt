use Rattle.std.proofs.Common.{◌≡◌, ℕ, ◌<◌, ap, ◌∙◌, arith, rules}
use Rattle.graph.specs.Words.{pick}
use Rattle.verdict.specs.Verdicts.{due, up_to}
use Rattle.verdict.specs.Measured.{due_in}
use Rattle.verdict.proofs.Figured.{held_due}
use borrow.Author.Tests.{lt-ltb}
use Rattle.verdict.proofs.measuring.Measures.dues.Goals as goal

pub returns : goal.returns
returns c = λ t g h.
    let x = c.args.self.now in
    c.dues_up_to.ensures (due t)
    (λ k b. let l : k < x.n = omega arith in ap (λ c. pick c (due_in x k) 0) (lt-ltb k x.n l) ∙ held_due t g k (omega (arith, h.n_is)) x h)
    ∙ ap (λ (n : ℕ). up_to n (due t)) h.n_is
