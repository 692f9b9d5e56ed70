use Rattle.std.proofs.Common.{rules, tests, ℕ, get_or, refl, ◌∙◌}
use Rattle.std.proofs.lemmas.Iterator.{YieldsList-from_range}
use Rattle.std.proofs.lemmas.Iterator.Search.{all_from_yields_List}
use Rattle.panel.specs.States.{proper_place, proper_jobs}
use Rattle.panel.proofs.Lists.{all_four}
use Rattle.panel.proofs.FaceJobs.is_proper.Goals as goal

pub returns : goal.returns
unfolding proper_jobs
returns c =
    let a = c.args.self.now in
    let test = λ (p : ℕ). proper_place (get_or a.live p 0) (get_or a.deadline p 0) in
    all_from_yields_List test _ _ c.all.result c.all.ensures.ran (YieldsList-from_range 0 4 4 refl refl) (λ x b q k. search (rules, tests))
    ∙ all_four test
