use Rattle.std.proofs.Common.{rules, tests, ◌∙◌, ℕ, eqb}
use Rattle.std.proofs.lemmas.Iterator.{YieldsList-from_slice}
use Rattle.std.proofs.lemmas.Iterator.Search.{all_from_yields_List}
use Rattle.panel.proofs.Lists.{all_of_list}
use Rattle.panel.proofs.FaceState.is_padded.Goals as goal

pub returns : goal.returns
returns c =
    let pad = c.args.self.now.pad in
    all_from_yields_List (λ (b : ℕ). eqb b 0) _ _ c.all.result c.all.ensures.ran (YieldsList-from_slice pad cc) (λ x b q k. search (rules, tests))
    ∙ all_of_list (λ (b : ℕ). eqb b 0) 0 2 pad (search rules)
