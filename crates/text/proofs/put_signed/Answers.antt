use mathlib.Core.Path.{◌≡◌, ap, ◌∙◌}
use mathlib.Core.List.{◌∷◌}
use Prim.Native.Nat.{ℕ, ◌^◌, ◌<◌}
use native.Mathlib.Omega.{arith}
use borrow.Author.Rules.{rules}
use lib.ListN.{length}
use Rattle.text.specs.Laid.{laid}
use Rattle.text.specs.Text.{decimal, signed}
use Rattle.text.proofs.Decimal.{decimal_length}
use Rattle.text.proofs.Laying.{one_then}
use Rattle.text.proofs.Sign.{signed_below, signed_not_below}
use Rattle.text.proofs.put_signed.Goals as goal

pub overflow_add-result : goal.overflow_add-result
overflow_add-result c = omega (arith, c.put_decimal.ensures.1, (decimal_length c.unsigned_abs.result).1)

pub returns-then-x-lt0 : goal.returns-then-x-lt0
returns-then-x-lt0 c =
    let a = c.args in
    let short : length a.out.now < 2 ^ 64 = search rules in
    let e : 45 ∷ decimal c.unsigned_abs.result ≡ signed a.x =
    ap (λ (y : ℕ). 45 ∷ decimal y) c.unsigned_abs.ensures.value ∙ signed_below c.ranges.x c.if-x-lt0.true in (
      c.put_decimal.ensures.0 ∙ one_then _ _ 45 _ _ _ c.put_byte.ensures c.saturating_add.ensures short ∙ ap (laid a.out.now a.at) e,
      omega (arith, c.put_decimal.ensures.1, ap length e),
    )

pub returns-else-x-lt0 : goal.returns-else-x-lt0
returns-else-x-lt0 c =
    let a = c.args in
    let n = c.put_decimal-else-x-lt0 in
    let e : decimal c.unsigned_abs-else-x-lt0.result ≡ signed a.x =
    ap decimal c.unsigned_abs-else-x-lt0.ensures.value ∙ signed_not_below c.ranges.x c.if-x-lt0.false in
    (n.ensures.0 ∙ ap (laid a.out.now a.at) e, n.ensures.1 ∙ ap length e)
