use mathlib.Core.Path.{refl, ◌∙◌}
use Rattle.verdict.proofs.Judged.{with_chain_lem}
use Rattle.verdict.proofs.judging.verdict_on.Goals as goal

pub returns : goal.returns
returns c =
    let d = c.judged in
    c.chained.ensures ∙ with_chain_lem c.args.t.now c.requires d.result (d.ensures c.args.t.now c.requires c.of.ensures) _ refl
