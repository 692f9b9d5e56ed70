use Rattle.std.proofs.Common.{◌≡◌, ℕ, ◌<◌, ap, ◌∙◌, arith, rules}
use borrow.Author.Tests.{lt-ltb}
use Rattle.graph.specs.Words.{pick}
use Rattle.verdict.specs.Verdicts.{up_to}
use Rattle.sharp.specs.Sharp.{sharp_due}
use Rattle.sharp.specs.Gathered.{due_in}
use Rattle.sharp.proofs.Judged.{held_due}
use Rattle.sharp.proofs.gathering.Gathering.dues.Goals as goal

pub returns : goal.returns
returns c = λ t g h.
    let x = c.args.self.now in
    c.dues_up_to.ensures (sharp_due t)
    (λ k b. let l : k < x.n = omega arith in ap (λ c. pick c (due_in x k) 0) (lt-ltb k x.n l) ∙ held_due t g x h k (omega (arith, h.n_is)))
    ∙ ap (λ (n : ℕ). up_to n (sharp_due t)) h.n_is
