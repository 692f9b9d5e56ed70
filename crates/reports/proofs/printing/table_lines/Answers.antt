use Rattle.reports.specs.Found.{lines_on}
use Rattle.text.proofs.Pages.{then}
use Rattle.reports.proofs.printing.table_lines.Goals as goal

pub returns : goal.returns
unfolding lines_on
returns g c = then (then c.head_line.ensures c.task_lines.ensures) c.last_line.ensures
