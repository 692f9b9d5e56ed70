-- The bytes of a number with its sign, by the code's test on the number's bits.
use mathlib.Core.Path.{◌≡◌, refl, ap, ◌∙◌}
use mathlib.Core.Bool.{true, false}
use mathlib.Core.List.{◌∷◌}
use native.Mathlib.Omega.{arith}
use lib.IntN.{ℤ, pos, negsuc, nat_abs}
use lib.Signed.{lt_z}
use mir.Syntax.{w64}
use mir.Val.{SFits, to_z, of_z}
use mir.Facts.{to_z-of_z}
use borrow.Author.Tests.{ltb-true}
use Rattle.graph.proofs.Facts.{clash}
use Rattle.text.specs.Text.{decimal, signed}

below : (z : ℤ) → lt_z z (pos 0) ≡ true → 45 ∷ decimal (nat_abs z) ≡ signed z
unfolding signed
below (pos n) h = absurd (let i = ltb-true n 0 h in omega arith)
below (negsuc n) h = refl

not_below : (z : ℤ) → lt_z z (pos 0) ≡ false → decimal (nat_abs z) ≡ signed z
unfolding signed
not_below (pos n) h = refl
not_below (negsuc n) h = absurd (clash refl h)

module _ {z : ℤ} (f : SFits w64 z) where
  pub signed_below : lt_z (to_z w64 (of_z w64 z)) (pos 0) ≡ true → 45 ∷ decimal (nat_abs (to_z w64 (of_z w64 z))) ≡ signed z
  signed_below h = below _ h ∙ ap signed (to_z-of_z f)

  pub signed_not_below : lt_z (to_z w64 (of_z w64 z)) (pos 0) ≡ false → decimal (nat_abs (to_z w64 (of_z w64 z))) ≡ signed z
  signed_not_below h = not_below _ h ∙ ap signed (to_z-of_z f)
