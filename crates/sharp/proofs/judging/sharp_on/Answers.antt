use mathlib.Core.Path.{refl, ◌∙◌}
use Rattle.sharp.proofs.Judged.{with_chain_lem}
use Rattle.sharp.proofs.judging.sharp_on.Goals as goal

pub returns : goal.returns
returns c =
    let d = c.judged in
    c.chained.ensures ∙ with_chain_lem c.args.t.now c.requires d.result (d.ensures c.args.t.now c.requires c.of-x.ensures) _ refl
