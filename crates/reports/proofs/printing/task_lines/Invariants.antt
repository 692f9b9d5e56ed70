-- One line behind another. The invariant: the lines of the first k tasks are on the page.
use Rattle.graph.specs.Words.{in_order}
use Rattle.text.specs.Page.{Adds}
use Rattle.reports.specs.Report.{task_line}
use Rattle.reports.specs.Found.{figures_in}
use Rattle.reports.proofs.printing.task_lines.Given as goal

abbrev pub invariant-loop-k : goal.invariant-loop-k
invariant-loop-k g l = Adds l.initial.page l.page (in_order l.k (λ i. task_line i (figures_in l.fn.f i)))
