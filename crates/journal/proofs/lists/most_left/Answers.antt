use mathlib.Core.Path.{◌≡◌, refl, sym, ap, ◌∙◌}
use Prim.Native.Nat.{ℕ, ◌+◌, max}
use native.Mathlib.Numerals.{add-one}
use native.Mathlib.Omega.{arith}
use lib.ListN.{get_or}
use Rattle.graph.specs.Words.{largest}
use Rattle.journal.specs.Rows.{row_count}
use Rattle.journal.specs.Listing.{row_slot}
use Rattle.journal.proofs.SetTests.{slot_small}
use Rattle.journal.proofs.lists.most_left.Goals as goal

largest_next : (n : ℕ) (f : ℕ → ℕ) → largest (n + 1) f ≡ max (largest n f) (f n)
unfolding largest
largest_next n f = ap (λ (k : ℕ). largest k f) (add-one n)

pub loop-j-init : goal.loop-j-init
unfolding largest
loop-j-init c = refl

pub offset_bounds-ticks-slot : goal.offset_bounds-ticks-slot
offset_bounds-ticks-slot c = omega (arith, c.slot.ensures, slot_small _ _ c.requires c.loop-j.j (omega arith))

pub bounds-ticks-slot : goal.bounds-ticks-slot
bounds-ticks-slot c = omega (arith, c.slot.ensures, slot_small _ _ c.requires c.loop-j.j (omega arith))

pub loop-j-preserved : goal.loop-j-preserved
loop-j-preserved c =
    let l = c.loop-j in
    let r = c.args.row.now in
    let f : ℕ → ℕ = λ k. get_or c.args.ticks.now (row_slot r.bytes.now r.at k) 0 in
    c.max-most.ensures
    ∙ ap (λ (i : ℕ). max l.most (get_or c.args.ticks.now i 0)) c.slot.ensures
    ∙ ap (λ (b : ℕ). max b (f l.j)) l.invariant
    ∙ sym (largest_next l.j f)

pub returns : goal.returns
returns c =
    let l = c.loop-j in
    let r = c.args.row.now in
    let e : l.j ≡ row_count r.bytes.now r.at = omega arith in
    l.invariant ∙ ap (λ (n : ℕ). largest n (λ k. get_or c.args.ticks.now (row_slot r.bytes.now r.at k) 0)) e
