-- The invariant: the first vertices are put.
use lib.ListN.{take}
use Rattle.text.specs.Page.{Adds}
use Rattle.lines.specs.Lines.{vertices_text}
use Rattle.lines.proofs.parts.vertices.Given as goal

abbrev pub invariant-loop-triple : goal.invariant-loop-triple
invariant-loop-triple l = Adds l.initial.page l.page (vertices_text (take l.triple-index l.fn.ran))
