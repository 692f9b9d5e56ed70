-- A field that stands at a place is read as its value.
use mathlib.Core.Path.{◌≡◌, sym, ap, ◌∙◌}
use mathlib.Core.List.{List, ◌∷◌, ◌++◌}
use Prim.Native.Nat.{ℕ, suc, ◌+◌, ◌*◌, ◌/◌, ◌%◌, ◌≤◌, ◌<◌}
use native.Mathlib.Omega.{arith}
use native.Mathlib.Nat.{add-zero}
use lib.ListN.{length, get_or, drop, length-drop}
use lib.Seq.{drop-drop, get_or-drop}
use borrow.Author.Tests.{le-leb, eq-eqb}
use Rattle.std.specs.Prelude.{Ok}
use Rattle.table.specs.Reading.{field, mark_at, ranged, byte_at, value4, ticks_at}
use Rattle.table.specs.Writing.{bytes4}

-- the first cells of what stands at a place
module _ (s : List ℕ) (at x : ℕ) (r : List ℕ) (e : drop at s ≡ x ∷ r) where
  pub cell : get_or s at 0 ≡ x
  cell = ap (λ (k : ℕ). get_or s k 0) (sym (add-zero at)) ∙ sym (get_or-drop at s 0 0) ∙ ap (λ (z : List ℕ). get_or z 0 0) e

  pub cell_in : at < length s
  cell_in =
      let n : length (drop at s) ≡ suc (length r) = ap length e in
      let l = length-drop at s in
      omega arith

  pub cell_next : drop (at + 1) s ≡ r
  cell_next = sym (drop-drop 1 at s) ∙ ap (drop 1) e

pub at_eq : (s : List ℕ) (a b : ℕ) (r : List ℕ) → a ≡ b → drop a s ≡ r → drop b s ≡ r
at_eq s a b r q e = ap (λ (j : ℕ). drop j s) (sym q) ∙ e

pub read_mark : (b : ℕ) (s : List ℕ) (at : ℕ) (r : List ℕ) → drop at s ≡ 0x54 ∷ b ∷ r → mark_at b s at ≡ Ok 0
unfolding mark_at field
read_mark b s at r e =
    let n = cell_next s at 0x54 (b ∷ r) e in
    let i = cell_in s (at + 1) b r n in
    rw (le-leb (at + 2) (length s) (omega arith), eq-eqb (get_or s at 0) 0x54 (cell s at 0x54 (b ∷ r) e), eq-eqb (get_or s (at + 1) 0) b (cell s (at + 1) b r n))

pub read_byte : (lo hi : ℕ) (s : List ℕ) (at x : ℕ) (r : List ℕ) → lo ≤ x → x ≤ hi → drop at s ≡ x ∷ r → byte_at lo hi s at ≡ Ok x
unfolding byte_at ranged field
read_byte lo hi s at x r l h e =
    let i = cell_in s at x r e in
    rw (le-leb (at + 1) (length s) (omega arith), cell s at x r e, le-leb lo x l, le-leb x hi h)

low₁ : (x : ℕ) → x ≡ x % 256 + 256 * (x / 256)
low₁ x = omega arith

digits : (x a b c d : ℕ) → x < 4294967296 → a ≡ x % 256 → b ≡ x / 256 % 256 → c ≡ x / 65536 % 256 → d ≡ x / 16777216 % 256
    → a + 256 * b + 65536 * c + 16777216 * d ≡ x
digits x a b c d h h₀ h₁ h₂ h₃ =
    let e₁ = low₁ x in
    let e₂ = low₁ (x / 256) in
    let e₃ = low₁ (x / 256 / 256) in
    let q : x / 65536 ≡ x / 256 / 256 = two x (x / 256) (x / 256 / 256) e₁ e₂ in
    let p : x / 16777216 ≡ x / 256 / 256 / 256 = three x (x / 256) (x / 256 / 256) (x / 256 / 256 / 256) e₁ e₂ e₃ in
    let c' : c ≡ x / 256 / 256 % 256 = h₂ ∙ ap (λ (n : ℕ). n % 256) q in
    let w : x / 16777216 < 256 = omega arith in
    let d' : d ≡ x / 256 / 256 / 256 = last d (x / 16777216) (x / 256 / 256 / 256) h₃ p w in
    join x (x / 256) (x / 256 / 256) (x / 256 / 256 / 256) a b c d (rw h₀ e₁) (rw h₁ e₂) (rw c' e₃) d'
  where
    two : (x y z : ℕ) → x ≡ x % 256 + 256 * y → y ≡ y % 256 + 256 * z → x / 65536 ≡ z
    two x y z e f = omega arith

    three : (x y z w : ℕ) → x ≡ x % 256 + 256 * y → y ≡ y % 256 + 256 * z → z ≡ z % 256 + 256 * w → x / 16777216 ≡ w
    three x y z w e f g = omega arith

    last : (d y z : ℕ) → d ≡ y % 256 → y ≡ z → y < 256 → d ≡ z
    last d y z e f h = omega arith

    join : (x y z w a b c d : ℕ) → x ≡ a + 256 * y → y ≡ b + 256 * z → z ≡ c + 256 * w → d ≡ w → a + 256 * b + 65536 * c + 16777216 * d ≡ x
    join x y z w a b c d e f g h = omega arith

pub four_in : (s : List ℕ) (at x : ℕ) (r : List ℕ) → drop at s ≡ bytes4 x ++ r → at + 4 ≤ length s
unfolding bytes4
four_in s at x r e = let n : length (drop at s) ≡ 4 + length r = ap length e ∙ omega arith in let l = length-drop at s in omega arith

-- the value of four bytes is the number that they are of
pub four_value : (s : List ℕ) (at x : ℕ) (r : List ℕ) → x < 4294967296 → drop at s ≡ bytes4 x ++ r → value4 s at ≡ x
unfolding value4 bytes4
four_value s at x r h e =
    let a : get_or s at 0 ≡ x % 256 = ap (λ (k : ℕ). get_or s k 0) (sym (add-zero at)) ∙ sym (get_or-drop at s 0 0) ∙ ap (λ (z : List ℕ). get_or z 0 0) e in
    let b : get_or s (at + 1) 0 ≡ x / 256 % 256 = sym (get_or-drop at s 1 0) ∙ ap (λ (z : List ℕ). get_or z 1 0) e in
    let c : get_or s (at + 2) 0 ≡ x / 65536 % 256 = sym (get_or-drop at s 2 0) ∙ ap (λ (z : List ℕ). get_or z 2 0) e in
    let d : get_or s (at + 3) 0 ≡ x / 16777216 % 256 = sym (get_or-drop at s 3 0) ∙ ap (λ (z : List ℕ). get_or z 3 0) e in
    digits x (get_or s at 0) (get_or s (at + 1) 0) (get_or s (at + 2) 0) (get_or s (at + 3) 0) h a b c d

pub read_ticks : (lo : ℕ) (s : List ℕ) (at x : ℕ) (r : List ℕ) → lo ≤ x → x ≤ 1000000 → drop at s ≡ bytes4 x ++ r → ticks_at lo s at ≡ Ok x
unfolding ticks_at ranged field
read_ticks lo s at x r l h e =
    rw (le-leb (at + 4) (length s) (four_in s at x r e), four_value s at x r (omega arith) e, le-leb lo x l, le-leb x 1000000 h)

pub next_four : (s : List ℕ) (at x : ℕ) (r : List ℕ) → drop at s ≡ bytes4 x ++ r → drop (at + 4) s ≡ r
unfolding bytes4
next_four s at x r e = sym (drop-drop 4 at s) ∙ ap (drop 4) e
