use mathlib.Core.List.{append_assoc}
use Rattle.text.specs.Text.{text}
use Rattle.lines.specs.Rulings.{legal_line}
use Rattle.text.proofs.Pages.{then, same}
use Rattle.lines.proofs.ruling.legal_line.Goals as goal

pub returns : goal.returns
unfolding legal_line text
returns c =
    let r = then c.labelled.ensures (then c.words.ensures (then c.missed.ensures c.end_line.ensures)) in
    same r (simp append_assoc)
