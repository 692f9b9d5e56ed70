use Rattle.text.specs.Text.{text}
use Rattle.text.proofs.Pages.{same, nothing}
use Rattle.text.proofs.Putting.{said, said_not}
use Rattle.lines.proofs.parts.dash.Goals as goal

pub returns-then-page-from : goal.returns-then-page-from
unfolding text
returns-then-page-from c = same c.words.ensures (said _ _ _ _ c.if-page-from.true)

pub returns-else-page-from : goal.returns-else-page-from
returns-else-page-from c = same (nothing _) (said_not _ _ _ _ c.if-page-from.false)
