use Rattle.text.specs.Text.{text}
use Rattle.lines.specs.Lines.{left_text}
use Rattle.text.proofs.Pages.{then}
use Rattle.lines.proofs.ticking.left.Goals as goal

pub returns : goal.returns
unfolding left_text text
returns c = then c.words.ensures c.works.ensures
