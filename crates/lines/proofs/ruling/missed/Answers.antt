use Rattle.text.specs.Text.{text}
use Rattle.text.proofs.Pages.{same, nothing}
use Rattle.lines.proofs.Rulings.{if_so, if_not}
use Rattle.lines.proofs.ruling.missed.Goals as goal

pub returns-then-last : goal.returns-then-last
unfolding text
returns-then-last c = same c.words.ensures (if_so _ _ _ c.if-last.true)

pub returns-else-last : goal.returns-else-last
returns-else-last c = same (nothing _) (if_not _ _ _ c.if-last.false)
