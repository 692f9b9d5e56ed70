use mathlib.Core.Path.{refl, ap, ◌∙◌}
use borrow.Author.Rules.{rules}
use Rattle.graph.proofs.Members.{took}
use Rattle.table.specs.Writing.{edge_bytes}
use Rattle.checks.specs.Checking.{row_keys}
use Rattle.checks.proofs.RowSteps.{no_bits}
use Rattle.writer.proofs.PenLaws.{begun, went_on, all_put, has_room}
use Rattle.writer.proofs.PutLaws.{edge_then, no_edges}
use Rattle.writer.proofs.writing.Pen.row.Goals as goal

pub loop-w-init : goal.loop-w-init
loop-w-init c = rw (c.into_iter-w-iterator.ensures.into_iter_gives, c.from-w-items.ensures) (search rules, begun refl)

pub bytes-requires : goal.bytes-requires
bytes-requires c =
    let l = c.loop-w in
    let t = took c.in-Some.ensures.steps l.invariant.0 in
    has_room (edge_bytes (row_keys 16 c.args.u 0 c.next.new.self.rest)) l.invariant.1 (edge_then c.args.u _ _ _ t) c.requires.1

pub loop-w-preserved : goal.loop-w-preserved
loop-w-preserved c =
    let l = c.loop-w in
    let t = took c.in-Some.ensures.steps l.invariant.0 in
    (t.small, went_on l.invariant.1 (edge_then c.args.u _ _ _ t) c.bytes.ensures)

pub returns : goal.returns
returns c =
    let l = c.loop-w in
    all_put l.invariant.1 (ap edge_bytes (no_bits 16 c.args.u 0 l.w-iterator.rest c.in-None.ensures.steps.0) ∙ no_edges)
