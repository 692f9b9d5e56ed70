-- One vertex behind another. The invariant: the first ones are on the page.
use Rattle.graph.specs.Words.{in_order}
use Rattle.text.specs.Page.{Adds}
use Rattle.reports.specs.Report.{vertex_at}
use Rattle.reports.proofs.printing.chain.Given as goal

abbrev pub invariant-loop-vertex : goal.invariant-loop-vertex
invariant-loop-vertex g l = Adds l.initial.page l.page (in_order l.vertex-index (vertex_at l.fn.chain))
