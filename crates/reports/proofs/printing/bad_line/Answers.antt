use mathlib.Core.List.{append_assoc}
use Rattle.text.specs.Text.{text}
use Rattle.reports.specs.Report.{bad_line}
use Rattle.text.proofs.Pages.{then, same}
use Rattle.reports.proofs.printing.bad_line.Goals as goal

pub returns : goal.returns
unfolding bad_line text
returns g c =
    let r = then c.labelled.ensures (then c.labelled-2.ensures c.end_line.ensures) in
    same r (simp (append_assoc, c.from.ensures, c.number.ensures, c.place.ensures))
