use Rattle.text.specs.Text.{text}
use Rattle.text.proofs.Pages.{same, then}
use Rattle.lines.proofs.Parted.{refusal_none, refusal_is}
use Rattle.lines.proofs.ticking.refusal.Goals as goal

pub returns-then-reply-ne255 : goal.returns-then-reply-ne255
unfolding text
returns-then-reply-ne255 c =
    same (then c.labelled.ensures c.labelled-then-reply-ne255.ensures) (simp (c.from.ensures, c.from-then-reply-ne255.ensures) (refusal_is _ c.if-reply-ne255.true))

pub returns-else-reply-ne255 : goal.returns-else-reply-ne255
unfolding text
returns-else-reply-ne255 c = same c.labelled.ensures (simp c.from.ensures (refusal_none _ c.if-reply-ne255.false))
