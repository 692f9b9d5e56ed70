use mathlib.Core.Path.{refl, ◌∙◌}
use Rattle.sharp.proofs.Judged.{with_chain_lem, all_found}
use Rattle.sharp.proofs.finding.sharp_findings_on.Goals as goal

pub returns : goal.returns
returns c =
    let t = c.args.t.now in
    let x = c.of-x in
    let d = c.judged in
    let u = c.dues-dues in
    all_found t x.result u.result _ x.ensures (u.ensures t c.requires x.ensures)
    (c.chained-verdict.ensures ∙ with_chain_lem t c.requires d.result (d.ensures t c.requires x.ensures) _ refl)
