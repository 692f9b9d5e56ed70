use mathlib.Core.Path.{sym, ap, ◌∙◌}
use Prim.Native.Nat.{ℕ, ◌+◌, ◌*◌}
use native.Mathlib.Omega.{arith}
use borrow.Author.Rules.{rules}
use Rattle.journal.specs.Rows.{row_task, row_age, row_key, listed}
use Rattle.journal.specs.Listing.{AreVertices, row_slot}
use Rattle.journal.proofs.SetTests.{none_taken, one_taken, all_taken, listed_length, listed_at, slot_small}
use Rattle.journal.proofs.lists.unlisted.Goals as goal

pub loop-j-init : goal.loop-j-init
loop-j-init c = none_taken _ _ (search rules)

pub offset_bounds-rest-slot : goal.offset_bounds-rest-slot
offset_bounds-rest-slot c = omega (arith, c.slot-slot.ensures, slot_small _ _ c.requires c.loop-j.j (omega arith))

pub bounds-rest-slot : goal.bounds-rest-slot
bounds-rest-slot c = omega (arith, c.slot-slot.ensures, slot_small _ _ c.requires c.loop-j.j (omega arith))

pub offset_bounds-rest-slot-in-loop-j : goal.offset_bounds-rest-slot-in-loop-j
offset_bounds-rest-slot-in-loop-j c = omega (arith, c.slot-slot.ensures, slot_small _ _ c.requires c.loop-j.j (omega arith))

pub bounds-rest-slot-in-loop-j : goal.bounds-rest-slot-in-loop-j
bounds-rest-slot-in-loop-j c = omega (arith, c.slot-slot.ensures, slot_small _ _ c.requires c.loop-j.j (omega arith))

pub taken_out-requires : goal.taken_out-requires
unfolding AreVertices
taken_out-requires c =
    let v = c.requires c.loop-j.j (omega arith) in
    omega (arith, v.2)

pub loop-j-preserved : goal.loop-j-preserved
unfolding AreVertices row_key row_slot
loop-j-preserved c =
    let l = c.loop-j in
    let r = c.args.row.now in
    let n = listed_length r.bytes.now r.at in
    let v = c.requires l.j (omega arith) in
    let k = c.slot-slot in
    let u = c.vertex in
    let i = row_task r.bytes.now r.at l.j in
    let p = row_age r.bytes.now r.at l.j in
    one_taken _ (listed r.bytes.now r.at) l.j l.rest l.invariant i p u.result k.result c.taken_out.result (omega arith)
    (ap (λ (x : ℕ). 64 * i + 16 * p + x) u.ensures.value ∙ sym (listed_at r.bytes.now r.at l.j (omega arith)))
    k.ensures v.0 v.1 (omega (arith, v.2)) c.taken_out.ensures

pub returns : goal.returns
returns c =
    let l = c.loop-j in
    let r = c.args.row.now in
    let n = listed_length r.bytes.now r.at in
    all_taken _ (listed r.bytes.now r.at) l.j l.rest l.invariant (omega arith)
