use mathlib.Core.Path.{◌≡◌}
use native.Mathlib.Omega.{arith}
use lib.ListN.{length}
use borrow.Author.Rules.{rules}
use Rattle.text.proofs.Pages.{then, same, nothing}
use Rattle.lines.proofs.Parted.{dashed, no_vertex, one_vertex, all_vertices}
use Rattle.lines.proofs.parts.vertices.Goals as goal

pub loop-triple-init : goal.loop-triple-init
loop-triple-init c = same (nothing _) (no_vertex c.args.ran)

pub loop-triple-preserved : goal.loop-triple-preserved
loop-triple-preserved c =
    let l = c.loop-triple in
    same (then l.invariant c.vertex.ensures) (one_vertex c.args.ran l.triple-index _ (omega arith))

pub returns : goal.returns
returns c =
    let l = c.loop-triple in
    let a = c.args.ran in
    let n : length a ≡ 8 = search rules in
    dashed _ (same l.invariant (all_vertices a l.triple-index (omega arith))) c.dash.ensures
