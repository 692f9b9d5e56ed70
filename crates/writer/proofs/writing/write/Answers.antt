use mathlib.Core.Path.{refl, sym, ap, ◌∙◌}
use native.Mathlib.Omega.{arith}
use borrow.Author.Rules.{rules}
use lib.ListN.{length}
use Rattle.writer.proofs.WriteLaws.{long, says_refused, says_unused, says_room, says_done, kept_refused, kept_unused, kept_room, put_done}
use Rattle.writer.proofs.PutLaws.{file_long}
use Rattle.writer.proofs.PenLaws.{puts_then, room_rest}
use Rattle.table.specs.Writing.{encode}
use Rattle.writer.proofs.TypedTable.{typed_table}
use Rattle.writer.proofs.writing.write.Goals as goal

pub returns-in-Err : goal.returns-in-Err
returns-in-Err c =
    let t = c.args.table in
    let l = c.args.buffer.now in
    let w = says_refused t (typed_table t _ c.well_formed.0) (length l) _ c.in-Err.ensures in
    (w, kept_refused t l _ w _ refl)

pub returns-then-not-unused_zero : goal.returns-then-not-unused_zero
returns-then-not-unused_zero c =
    let t = c.args.table in
    let l = c.args.buffer.now in
    let w = says_unused t (typed_table t _ c.well_formed.0) (length l) _ c.in-Ok.ensures (sym c.unused_zero.ensures ∙ c.if-not-unused_zero.true) in
    (w, kept_unused t l _ w refl)

pub returns-then-buffer-length : goal.returns-then-buffer-length
returns-then-buffer-length c =
    let t = c.args.table in
    let l = c.args.buffer.now in
    let z = sym c.unused_zero.ensures ∙ c.if-not-unused_zero.false in
    let w = says_room t (typed_table t _ c.well_formed.0) (length l) _ c.in-Ok.ensures z (omega arith) in
    (w, kept_room t l _ w _ refl)

pub bytes-requires : goal.bytes-requires
bytes-requires c =
    let t = c.args.table in
    let m = long t (typed_table t _ c.well_formed.0) (length c.args.buffer.now) _ c.in-Ok.ensures in
    let f = file_long t in
    record { fits = omega arith }

pub tasks-requires : goal.tasks-requires
unfolding encode
tasks-requires c =
    let t = c.args.table in
    let m = long t (typed_table t _ c.well_formed.0) (length c.args.buffer.now) _ c.in-Ok.ensures in
    let n = ap length c.bytes.ensures.buffer in
    let z = c.bytes.ensures.at in
    (rw (← c.in-Ok.ensures) refl, room_rest (record { fits = omega arith }) c.bytes.ensures)

pub returns : goal.returns
unfolding encode
returns c =
    let t = c.args.table in
    let l = c.args.buffer.now in
    let z = sym c.unused_zero.ensures ∙ c.if-not-unused_zero.false in
    let m = long t (typed_table t _ c.well_formed.0) (length l) _ c.in-Ok.ensures in
    let w = says_done t (typed_table t _ c.well_formed.0) (length l) _ c.in-Ok.ensures z (omega arith) in
    let f = puts_then c.bytes.ensures c.tasks.ensures in
    (w, search (rules, sym f.same) ∙ f.buffer ∙ put_done t l _ w _ refl m (omega arith))
