use mathlib.Core.Path.{ap, ◌∙◌}
use native.Mathlib.Omega.{arith}
use Rattle.table.specs.Writing.{edge_bytes}
use Rattle.checks.proofs.TestLaws.{keys_start, keys_end}
use Rattle.writer.proofs.PenLaws.{begun, went_on, all_put, has_room}
use Rattle.writer.proofs.PutLaws.{rows_bytes, no_edges}
use Rattle.writer.proofs.writing.Pen.edges.Goals as goal

pub loop-u-init : goal.loop-u-init
loop-u-init c = let a = c.args in begun (ap edge_bytes (keys_start a.v a.succ))

pub row-requires : goal.row-requires
row-requires c =
    let a = c.args in
    let l = c.loop-u in
    (omega arith, has_room _ l.invariant (rows_bytes a.v a.succ l.u (omega arith)) c.requires.1)

pub loop-u-preserved : goal.loop-u-preserved
loop-u-preserved c =
    let a = c.args in
    let l = c.loop-u in
    went_on l.invariant (rows_bytes a.v a.succ l.u (omega arith)) c.row.ensures

pub returns : goal.returns
returns c =
    let a = c.args in
    let l = c.loop-u in
    all_put l.invariant (ap edge_bytes (keys_end a.v a.succ l.u (omega arith)) ∙ no_edges)
