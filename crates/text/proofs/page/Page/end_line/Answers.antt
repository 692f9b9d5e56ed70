use Rattle.text.specs.Text.{newline}
use Rattle.text.proofs.page.Page.end_line.Goals as goal

pub returns : goal.returns
unfolding newline
returns g c = c.words.ensures
