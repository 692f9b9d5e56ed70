-- Three bytes compared in order, and as one number.
use mathlib.Core.Path.{◌≡◌, refl}
use mathlib.Core.Bool.{Bool, true, false, cond}
use Prim.Native.Nat.{ℕ, ◌+◌, ◌*◌, ◌≤◌, ◌<◌}
use native.Mathlib.Omega.{arith}
use lib.Dec.{ltb, eqb}
use borrow.Author.Tests.{ltb-true, ltb-false, eqb-true, eqb-false}
use Rattle.std.specs.declared.option.Option.TheVariants.{Some}
use Rattle.std.specs.declared.cmp.Ordering.{Ordering}
use Rattle.std.specs.declared.cmp.Ordering.TheVariants.{Less, Equal, Greater}
use Rattle.std.specs.Ordering.{partial_ordering_then, is_some_and, is_le, nat_cmp}
use Rattle.graph.proofs.Facts.{clash}

-- how two numbers stand
data Stands (x y : ℕ) : Ordering → Type 0 where
  below : x < y → Stands x y Less
  same : x ≡ y → Stands x y Equal
  above : y < x → Stands x y Greater

stands : (x y : ℕ) → Stands x y (nat_cmp x y)
stands x y = go (ltb x y) (eqb x y) refl refl
  where
    go : (l e : Bool) → ltb x y ≡ l → eqb x y ≡ e → Stands x y (cond l Less (cond e Equal Greater))
    go true e h i = below (ltb-true x y h)
    go false true h i = same (eqb-true x y i)
    go false false h i =
        let n = ltb-false x y h in
        let d = eqb-false x y i in
        above (omega (arith, n, d))

module _ (a b c x y z : ℕ) (hb : b < 256) (hc : c < 256) (hy : y < 256) (hz : z < 256) where
  pub triple_le : let r = is_some_and is_le (partial_ordering_then (partial_ordering_then (Some (nat_cmp a x)) (Some (nat_cmp b y))) (Some (nat_cmp c z))) in
      (r ≡ true → 65536 * a + 256 * b + c ≤ 65536 * x + 256 * y + z) × (r ≡ false → 65536 * x + 256 * y + z < 65536 * a + 256 * b + c)
  triple_le = go _ _ _ (stands a x) (stands b y) (stands c z)
    where
      go : (f g h : Ordering) → Stands a x f → Stands b y g → Stands c z h
          → (is_some_and is_le (partial_ordering_then (partial_ordering_then (Some f) (Some g)) (Some h)) ≡ true → 65536 * a + 256 * b + c ≤ 65536 * x + 256 * y + z)
          × (is_some_and is_le (partial_ordering_then (partial_ordering_then (Some f) (Some g)) (Some h)) ≡ false → 65536 * x + 256 * y + z < 65536 * a + 256 * b + c)
      go _ _ _ (below p) q r = (λ e. omega arith, λ e. absurd (clash refl e))
      go _ _ _ (above p) q r = (λ e. absurd (clash e refl), λ e. omega arith)
      go _ _ _ (same p) (below q) r = (λ e. omega arith, λ e. absurd (clash refl e))
      go _ _ _ (same p) (above q) r = (λ e. absurd (clash e refl), λ e. omega arith)
      go _ _ _ (same p) (same q) (below r) = (λ e. omega arith, λ e. absurd (clash refl e))
      go _ _ _ (same p) (same q) (same r) = (λ e. omega arith, λ e. absurd (clash refl e))
      go _ _ _ (same p) (same q) (above r) = (λ e. absurd (clash e refl), λ e. omega arith)
