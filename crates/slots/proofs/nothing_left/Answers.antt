use mathlib.Core.Path.{◌≡◌, ap, ◌∙◌}
use Prim.Native.Nat.{ℕ}
use borrow.Author.Rules.{rules}
use lib.Dec.{eqb}
use lib.Bits.{bit_or}
use Rattle.std.specs.Prelude.{fold}
use Rattle.slots.proofs.Cases.{none_past}
use Rattle.slots.proofs.Rows.{row_of, none_or_ed}
use Rattle.slots.proofs.nothing_left.Goals as goal

pub returns-then-s-ge64 : goal.returns-then-s-ge64
returns-then-s-ge64 c = none_past _ _ c.if-s-ge64.true

pub returns : goal.returns
returns c =
    let a = c.args in
    let e : c.fold.result ≡ fold bit_or 0 (row_of a.remaining.now a.s) = search rules in
    ap (λ (n : ℕ). eqb n 0) e ∙ none_or_ed a.remaining.now a.s c.told-remaining c.if-s-ge64.false
