use mathlib.Core.Path.{◌≡◌, sym, ap, ◌∙◌}
use mathlib.Core.Bool.{Bool, not, true, false}
use mathlib.Core.List.{List}
use Prim.Native.Nat.{ℕ, min}
use lib.ListN.{length, get_or}
use Rattle.std.specs.List.{sum_by}
use lib.Dec.{ltb}
use lib.Count.{ones}
use borrow.Author.Rules.{rules}
use Rattle.graph.specs.Words.{sum}
use Rattle.table.specs.declared.Table.{Table}
use Rattle.machine.specs.declared.State.{State}
use Rattle.machine.specs.declared.Offer.{Offer}
use Rattle.machine.specs.Steps.{released, offered}
use Rattle.journal.specs.Listing.{all_in}
use Rattle.journal.specs.Rows.{row_count, not_available, too_few}
use Rattle.journal.proofs.SetTests.{all_in_lem}
use Rattle.journal.proofs.Counted.{all_counted, sum_by_is}
use Rattle.journal.proofs.RowFaults.{choice_44, choice_45, choice_46, choice_0, few_is, offered_sets, offered_left}
use Rattle.journal.proofs.walk.check_choice.Goals as goal

-- the tests, of the state after step 1
module _ (t : Table) (st : State) (set : ℕ) (offer : Offer) (o : offer ≡ offered t st set) (s : List ℕ) (at : ℕ) where
  lost : (r : Bool) → r ≡ all_in offer.sets s at → not r ≡ not_available t (released t st set) s at
  lost r e = all_in_lem t (released t st set) s at offer.sets r (offered_sets t st set offer o) e

  -- r is what `are_in` answered
  passed : (r : Bool) → r ≡ all_in offer.sets s at → r ≡ true → not_available t (released t st set) s at ≡ false
  passed r e h = sym (lost r e) ∙ ap not h

  missed : (r : Bool) → r ≡ all_in offer.sets s at → r ≡ false → not_available t (released t st set) s at ≡ true
  missed r e h = sym (lost r e) ∙ ap not h

  few : (r : Bool) (count m : ℕ) → r ≡ ltb count (min m (sum_by ones offer.sets)) → length offer.sets ≡ 64 → count ≡ row_count s at → m ≡ t.m → r ≡ too_few t (released t st set) s at
  few r count m e l k h =
      let n = sum_by ones offer.sets in
      few_is t (released t st set) s at r count n (e ∙ ap (λ (m : ℕ). ltb count (min m n)) h) k
      (all_counted t (released t st set) offer.sets n (offered_sets t st set offer o) (sum_by_is ones offer.sets ∙ ap (λ (n : ℕ). sum n (λ k. ones (get_or offer.sets k 0))) l))

pub is_passing_over-requires : goal.is_passing_over-requires
is_passing_over-requires c = sym c.are_in.ensures ∙ c.if-not-are_in.false

pub returns-then-not-are_in : goal.returns-then-not-are_in
returns-then-not-are_in c t st set e o =
    let a = c.args in
    let r = a.row.now in
    choice_44 t (released t st set) r.bytes.now r.at (missed t st set a.offer o r.bytes.now r.at c.are_in.result c.are_in.ensures c.if-not-are_in.true)

pub returns-then-is_few : goal.returns-then-is_few
returns-then-is_few c t st set e o =
    let a = c.args in
    let r = a.row.now in
    let n = c.count in
    choice_45 t (released t st set) r.bytes.now r.at (passed t st set a.offer o r.bytes.now r.at c.are_in.result c.are_in.ensures c.if-not-are_in.false)
    (sym (few t st set a.offer o r.bytes.now r.at c.is_few.result n.result a.m c.is_few.ensures (search rules) n.ensures.value e) ∙ c.if-is_few.true)

pub returns-then-is_passing_over : goal.returns-then-is_passing_over
returns-then-is_passing_over c t st set e o =
    let a = c.args in
    let r = a.row.now in
    let n = c.count in
    choice_46 t (released t st set) r.bytes.now r.at (passed t st set a.offer o r.bytes.now r.at c.are_in.result c.are_in.ensures c.if-not-are_in.false)
    (sym (few t st set a.offer o r.bytes.now r.at c.is_few.result n.result a.m c.is_few.ensures (search rules) n.ensures.value e) ∙ c.if-is_few.false)
    (sym (c.is_passing_over.ensures t (released t st set) (offered_sets t st set a.offer o) (offered_left t st set a.offer o)) ∙ c.if-is_passing_over.true)

pub returns : goal.returns
returns c t st set e o =
    let a = c.args in
    let r = a.row.now in
    let n = c.count in
    choice_0 t (released t st set) r.bytes.now r.at (passed t st set a.offer o r.bytes.now r.at c.are_in.result c.are_in.ensures c.if-not-are_in.false)
    (sym (few t st set a.offer o r.bytes.now r.at c.is_few.result n.result a.m c.is_few.ensures (search rules) n.ensures.value e) ∙ c.if-is_few.false)
    (sym (c.is_passing_over.ensures t (released t st set) (offered_sets t st set a.offer o) (offered_left t st set a.offer o)) ∙ c.if-is_passing_over.false)
