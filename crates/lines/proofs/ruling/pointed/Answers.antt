use mathlib.Core.List.{append_assoc}
use Rattle.text.proofs.Pages.{then, same}
use Rattle.lines.proofs.ruling.pointed.Goals as goal

pub returns : goal.returns
returns c =
    let r = then c.labelled.ensures (then c.labelled-2.ensures c.end_line.ensures) in
    same r (simp (append_assoc, c.from.ensures))
