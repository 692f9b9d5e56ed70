use mathlib.Core.Path.{ap}
use native.Mathlib.Omega.{arith}
use Rattle.machine.specs.declared.Ticked.{Ticked}
use Rattle.journal.specs.Rows.{row_set, listed}
use Rattle.journal.proofs.Passing.{passes, count_low}
use Rattle.journal.proofs.SetTests.{each_vertex}
use Rattle.journal.proofs.RowFaults.{advanced}
use Rattle.journal.proofs.walk.state_after.Goals as goal

pub chosen-requires-clause-vertices : goal.chosen-requires-clause-vertices
chosen-requires-clause-vertices c =
    let r = c.args.row.now in
    let p = passes c.args.t c.args.st r.bytes.now r.at c.requires.legal in
    each_vertex c.args.t _ r.bytes.now r.at p.available

pub chosen-requires-clause-few : goal.chosen-requires-clause-few
chosen-requires-clause-few c =
    let r = c.args.row.now in
    let p = passes c.args.t c.args.st r.bytes.now r.at c.requires.legal in
    let f = count_low c.args.t c.args.st r.bytes.now r.at p in
    let m = c.requires.narrow.m_high in
    omega arith

pub returns : goal.returns
returns c =
    let r = c.args.row.now in
    ap (λ (x : Ticked). x.state)
    (advanced c.args.t c.args.st c.set.result (row_set r.bytes.now r.at) _ (listed r.bytes.now r.at) c.advance.result c.set.ensures c.chosen.ensures c.advance.ensures)
