use mathlib.Core.Path.{refl, sym, ◌∙◌}
use Prim.Native.Nat.{◌+◌}
use native.Mathlib.Omega.{arith}
use borrow.Author.Tests.{lt-ltb, le-ltb}
use Rattle.graph.specs.Words.{all}
use Rattle.slots.proofs.Behind.{all_more, all_off, all_done_lem}
use Rattle.journal.specs.Rows.{row_triple, ascending}
use Rattle.journal.proofs.Triples.{triple_le}
use Rattle.journal.proofs.fields.Row.ascends.Goals as goal

pub loop-j-init : goal.loop-j-init
unfolding all
loop-j-init c = refl

pub returns-then-le : goal.returns-then-le
unfolding ascending row_triple
returns-then-le c =
    let j = c.loop-j.j in
    let r = c.args.self.now in
    let s = c.triple.ensures in
    let q = c.triple-in-loop-j.ensures in
    let n = (triple_le c.triple.result.0 c.triple.result.1 c.triple.result.2 c.triple-in-loop-j.result.0 c.triple-in-loop-j.result.1 c.triple-in-loop-j.result.2 s.age.1 s.vertex.1 q.age.1 q.vertex.1).0 (sym c.le.ensures ∙ c.if-le.true) in
    all_off _ _ j (omega arith) (le-ltb (row_triple r.bytes.now r.at j) (row_triple r.bytes.now r.at (j + 1)) (omega (arith, n, s.task.0, s.age.0, s.vertex.0, q.task.0, q.age.0, q.vertex.0)))

pub loop-j-preserved : goal.loop-j-preserved
unfolding row_triple
loop-j-preserved c =
    let j = c.loop-j.j in
    let r = c.args.self.now in
    let s = c.triple.ensures in
    let q = c.triple-in-loop-j.ensures in
    let n = (triple_le c.triple.result.0 c.triple.result.1 c.triple.result.2 c.triple-in-loop-j.result.0 c.triple-in-loop-j.result.1 c.triple-in-loop-j.result.2 s.age.1 s.vertex.1 q.age.1 q.vertex.1).1 (sym c.le.ensures ∙ c.if-le.false) in
    all_more _ _ c.loop-j.invariant (lt-ltb (row_triple r.bytes.now r.at j) (row_triple r.bytes.now r.at (j + 1)) (omega (arith, n, s.task.0, s.age.0, s.vertex.0, q.task.0, q.age.0, q.vertex.0)))

pub returns : goal.returns
unfolding ascending
returns c = all_done_lem _ _ c.loop-j.j (omega arith) c.loop-j.invariant
