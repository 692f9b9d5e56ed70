use Rattle.lines.proofs.Lined.{open_put}
use Rattle.lines.proofs.opening.open_line.Goals as goal

pub returns : goal.returns
returns c = open_put c.new-page.ensures _ _ c.first_line.ensures
