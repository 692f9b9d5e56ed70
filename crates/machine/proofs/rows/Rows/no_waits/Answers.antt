use Rattle.std.proofs.Common.{eqb, ◌∙◌, rules, tests}
use Rattle.std.proofs.lemmas.Iterator.{YieldsList-from_slice}
use Rattle.std.proofs.lemmas.Iterator.Search.{all_from_yields_List}
use Rattle.machine.proofs.Chains.{all_entries}
use Rattle.machine.proofs.rows.Rows.no_waits.Goals as goal

pub returns : goal.returns
returns c =
    let r = c.args.self.now in
    all_from_yields_List (λ x. eqb x 0) _ _ c.all.result c.all.ensures.ran (YieldsList-from_slice r.waits cc) (λ x b q k. search (rules, tests)) ∙ all_entries (λ x. eqb x 0) r.waits 16 (search rules)
