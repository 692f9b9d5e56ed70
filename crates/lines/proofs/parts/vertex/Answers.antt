use Rattle.text.specs.Text.{text}
use Rattle.text.proofs.Pages.{then, same, nothing}
use Rattle.lines.proofs.Parted.{vertex_none, vertex_is}
use Rattle.lines.proofs.parts.vertex.Goals as goal

pub returns-then-p-ne255 : goal.returns-then-p-ne255
unfolding text
returns-then-p-ne255 c =
    let r = then c.labelled.ensures (then c.labelled-then-p-ne255.ensures c.labelled-then-p-ne255-2.ensures) in
    same r (simp (c.from.ensures, c.from-then-p-ne255.ensures, c.from-then-p-ne255-2.ensures) (vertex_is _ c.if-p-ne255.true))

pub returns-else-p-ne255 : goal.returns-else-p-ne255
returns-else-p-ne255 c = same (nothing _) (vertex_none _ c.if-p-ne255.false)
