-- The invariant: the first c jobs are put.
use Rattle.graph.specs.Words.{in_order}
use Rattle.text.specs.Page.{Adds}
use Rattle.lines.specs.Lines.{work_in}
use Rattle.lines.proofs.parts.works.Given as goal

abbrev pub invariant-loop-c : goal.invariant-loop-c
invariant-loop-c l = Adds l.initial.page l.page (in_order l.c (work_in l.jobs.live l.jobs.work))
