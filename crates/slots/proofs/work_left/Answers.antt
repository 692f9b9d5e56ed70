use mathlib.Core.Path.{◌≡◌, ◌∙◌}
use Prim.Native.Nat.{ℕ, ◌+◌, ◌^◌}
use Rattle.std.proofs.lemmas.Iterator.{YieldsList-from_slice}
use Rattle.std.proofs.lemmas.Iterator.Adapters.{fits_from_length, at_most_from_yields_List}
use native.Mathlib.Omega.{arith}
use borrow.Author.Rules.{rules}
use Rattle.std.specs.Prelude.{fold}
use Rattle.slots.proofs.Cases.{work_past}
use Rattle.slots.proofs.Rows.{row_of, row_sum}
use Rattle.slots.proofs.work_left.Goals as goal

-- past the sixty-four slots
pub returns-then-s-ge64 : goal.returns-then-s-ge64
returns-then-s-ge64 c = work_past _ _ c.if-s-ge64.true

-- sixteen numbers of thirty-two bits
pub sum-requires-clause-fits : goal.sum-requires-clause-fits
sum-requires-clause-fits c =
    fits_from_length _ _ 16 (2 ^ 64) (at_most_from_yields_List (YieldsList-from_slice c.of_slot-slot.result.now cc) (omega (arith, c.of_slot-slot.ensures.1)))
    c.map.ensures.closure (omega arith) (λ x r q k. search rules)

pub returns : goal.returns
returns c =
    let a = c.args in
    let e : c.sum.result ≡ fold (λ (n x : ℕ). n + x) 0 (row_of a.remaining.now a.s) = search rules in
    e ∙ row_sum a.remaining.now a.s c.told-remaining c.if-s-ge64.false
