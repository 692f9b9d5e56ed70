use mathlib.Core.List.{append_assoc}
use Rattle.text.specs.Text.{text}
use Rattle.lines.specs.Lines.{opened_line}
use Rattle.text.proofs.Pages.{then, same}
use Rattle.lines.proofs.opening.opened_line.Goals as goal

pub returns : goal.returns
unfolding opened_line text
returns c =
    let r = then c.labelled.ensures (then c.labelled-2.ensures (then c.labelled-3.ensures c.end_line.ensures)) in
    same r (simp (append_assoc, c.from.ensures, c.from-2.ensures, c.from-3.ensures))
