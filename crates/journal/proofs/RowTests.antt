-- The tests of a row's bytes, as the code makes them.
use mathlib.Core.Path.{◌≡◌, ap, ◌∙◌}
use mathlib.Core.Bool.{Bool, true, false, ◌||◌, or-true}
use Prim.Native.Nat.{ℕ, ◌≤◌, ◌<◌}
use lib.Dec.{leb, eqb}
use borrow.Author.Tests.{le-leb, lt-leb, eq-eqb, ne_eqb}

-- 46: a set that is empty or has ticks enough, or neither
module _ (rest most ticks : ℕ) where
  pub no_later : (rest ≡ 0 → ⊥) → ticks < most → (eqb rest 0 || leb most ticks) ≡ false
  no_later d h = ap (λ (b : Bool). b || leb most ticks) (ne_eqb rest 0 d) ∙ lt-leb most ticks h

  pub later_none : rest ≡ 0 → (eqb rest 0 || leb most ticks) ≡ true
  later_none e = ap (λ (b : Bool). b || leb most ticks) (eq-eqb rest 0 e)

  pub later_ticks : most ≤ ticks → (eqb rest 0 || leb most ticks) ≡ true
  later_ticks h = ap (λ (b : Bool). eqb rest 0 || b) (le-leb most ticks h) ∙ or-true (eqb rest 0)
