use mathlib.Core.List.{append_assoc}
use Rattle.text.specs.Text.{text}
use Rattle.lines.specs.Lines.{went_text}
use Rattle.text.proofs.Pages.{then, same}
use Rattle.lines.proofs.ticking.went.Goals as goal

pub returns : goal.returns
unfolding went_text text
returns c =
    let r = then c.words.ensures (then c.vertices.ensures (then c.named.ensures c.left.ensures)) in
    same r (simp append_assoc)
