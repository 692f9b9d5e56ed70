use mathlib.Core.Path.{ap}
use mir.Facts.{to_z-of_z}
use Rattle.text.specs.Text.{text, signed}
use Rattle.text.proofs.Pages.{then, same}
use Rattle.reports.proofs.printing.margin.Goals as goal

pub returns : goal.returns
unfolding text
returns g c = then c.words.ensures (same c.signed.ensures (ap signed (to_z-of_z c.ranges.z)))
