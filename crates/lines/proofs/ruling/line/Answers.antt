use native.Mathlib.Omega.{arith}
use Rattle.text.specs.Text.{text}
use Rattle.text.proofs.Pages.{same}
use Rattle.lines.specs.Rulings.{unread_line, refused_line}
use Rattle.lines.proofs.Rulings.{line_legal, line_unread, line_refused}
use Rattle.lines.proofs.ruling.line.Goals as goal

pub returns-then-r-eq0 : goal.returns-then-r-eq0
returns-then-r-eq0 c = same c.legal_line.ensures (line_legal _ c.if-r-eq0.true)

pub returns-then-r-le8 : goal.returns-then-r-le8
unfolding unread_line text
returns-then-r-le8 c = same c.pointed.ensures (line_unread _ c.if-r-eq0.false (omega arith))

pub returns-else-r-le8 : goal.returns-else-r-le8
unfolding refused_line text
returns-else-r-le8 c = same c.pointed-else-r-le8.ensures (line_refused _ c.if-r-eq0.false (omega arith))
