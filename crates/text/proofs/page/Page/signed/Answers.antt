use mathlib.Core.Path.{ap, ◌∙◌}
use lib.ListN.{length}
use mir.Facts.{to_z-of_z}
use Rattle.text.specs.Laid.{laid}
use Rattle.text.specs.Text.{signed}
use Rattle.text.proofs.Pages.{grown}
use Rattle.text.proofs.page.Page.signed.Goals as goal

pub returns : goal.returns
returns g c =
    let n = c.put_signed-n in
    let p = c.args.self.now in
    let x = ap signed (to_z-of_z c.ranges.x) in
    grown (n.ensures.0 ∙ ap (laid p.bytes p.len) x) (n.ensures.1 ∙ ap length x) c.grow.ensures.bytes c.grow.ensures.len
