use Rattle.lines.proofs.Steps.{opening_shown}
use Rattle.lines.proofs.showing.show_opening.Goals as goal

pub returns : goal.returns
returns c = opening_shown _ _ _ c.open-opened.result c.open_line-line.ensures c.open-opened.ensures
