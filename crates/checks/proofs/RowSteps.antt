-- The keys of a vertex's edges, one member of its set after the other.
use mathlib.Core.Path.{◌≡◌, refl, sym, ap, ◌∙◌}
use mathlib.Core.Bool.{Bool, true, false}
use mathlib.Core.List.{List, [], ◌∷◌}
use Prim.Native.Nat.{ℕ, zero, suc, ◌+◌, ◌*◌, ◌/◌, ◌%◌, ◌≤◌, ◌<◌}
use native.Mathlib.Omega.{arith}
use native.Mathlib.Numerals.{add-one}
use native.Mathlib.Nat.{add-zero, zero-add}
use lib.ListN.{length}
use lib.Dec.{eqb}
use Rattle.graph.specs.Words.{bit, row_from, row, also_if, those, those_below, members}
use Rattle.graph.proofs.Members.{Took}
use Rattle.checks.specs.Checking.{row_keys}
use Rattle.checks.proofs.Keys.{bit_low, bit_up}

keys_in : ℕ → List ℕ → List ℕ
keys_in u [] = []
keys_in u (w ∷ l) = (16 * u + w) ∷ keys_in u l

also_key : (u w : ℕ) (l : List ℕ) (b : Bool) → also_if b (16 * u + w) (keys_in u l) ≡ keys_in u (also_if b w l)
unfolding also_if keys_in
also_key u w l true = refl
also_key u w l false = refl

row_from_set : (p : ℕ → Bool) (k u w x : ℕ) → ((j : ℕ) → j < k → p (w + j) ≡ bit x j) → row_keys k u w x ≡ keys_in u (those p (row_from k w (λ j. j)))
unfolding row_keys those row_from keys_in
row_from_set p zero u w x h = refl
row_from_set p (suc k) u w x h =
    let b : p w ≡ eqb (x % 2) 1 = ap p (sym (add-zero w)) ∙ h 0 (omega arith) ∙ bit_low x in
    let i = row_from_set p k u (w + 1) (x / 2) (λ j l.
    let e : w + 1 + j ≡ w + suc j = omega arith in
    ap p e ∙ h (suc j) (omega arith) ∙ bit_up x j) in
    ap (λ (c : Bool). also_if c (16 * u + w) (row_keys k u (w + 1) (x / 2))) (sym b)
    ∙ ap (also_if (p w) (16 * u + w)) (i ∙ ap (λ (n : ℕ). keys_in u (those p (row_from k n (λ j. j)))) (add-one w))
    ∙ also_key u w (those p (row_from k (suc w) (λ j. j))) (p w)

row_set : (u x : ℕ) → row_keys 16 u 0 x ≡ keys_in u (members x)
unfolding members those_below row
row_set u x = row_from_set (bit x) 16 u 0 x (λ j l. ap (bit x) (zero-add j))

pub row_took : (u x w y : ℕ) → Took x w y → row_keys 16 u 0 x ≡ (16 * u + w) ∷ row_keys 16 u 0 y
unfolding keys_in
row_took u x w y t = row_set u x ∙ ap (keys_in u) t.listed ∙ ap (λ (l : List ℕ). (16 * u + w) ∷ l) (sym (row_set u y))

row_even : (k u w x : ℕ) → x % 2 ≡ 0 → row_keys (suc k) u w x ≡ row_keys k u (w + 1) (x / 2)
unfolding row_keys also_if
row_even k u w x e = rw e

pub no_bits : (k u w x : ℕ) → x ≡ 0 → row_keys k u w x ≡ []
unfolding row_keys also_if
no_bits zero u w x e = refl
no_bits (suc k) u w x e =
    let z : x / 2 ≡ 0 = omega arith in
    let y : x % 2 ≡ 0 = omega arith in
    row_even k u w x y ∙ no_bits k u (w + 1) (x / 2) z

-- no more than there are bits
pub row_most : (k u w x : ℕ) → length (row_keys k u w x) ≤ k
unfolding row_keys also_if
row_most zero u w x = omega arith
row_most (suc k) u w x = go (eqb (x % 2) 1) (row_keys k u (w + 1) (x / 2)) (row_most k u (w + 1) (x / 2))
  where
    go : (b : Bool) (l : List ℕ) → length l ≤ k → length (also_if b (16 * u + w) l) ≤ suc k
    go true l h = omega arith
    go false l h = omega arith
