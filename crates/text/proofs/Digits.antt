-- Digits from the last one on, each put before those that are there; how many there are.
use mathlib.Core.Path.{◌≡◌, sym, ap, ◌∙◌}
use mathlib.Core.List.{List, ◌∷◌}
use Prim.Native.Nat.{ℕ, zero, suc, ◌+◌, ◌-◌, ◌/◌, ◌%◌, ◌^◌, ◌≤◌, ◌<◌}
use native.Mathlib.Omega.{arith}
use lib.ListN.{length, drop, set, length-set, drop_of_length-le}
use lib.Seq.{drop-cons, drop-set-lt, get_or-set_same}
use borrow.Author.Tests.{lt-ltb, le-ltb}
use Rattle.text.specs.Text.{digits_before, decimal}

-- ---- one digit
more_digits : (k x : ℕ) (later : List ℕ) → 10 ≤ x → digits_before (suc k) x later ≡ digits_before k (x / 10) ((48 + x % 10) ∷ later)
unfolding digits_before
more_digits k x later h = rw (le-ltb x 10 h)

last_digit : (k x : ℕ) (later : List ℕ) → x < 10 → digits_before (suc k) x later ≡ (48 + x) ∷ later
unfolding digits_before
last_digit k x later h = rw (lt-ltb x 10 h)

-- ---- in a buffer: p bytes of it are free, the digits so far stand after them
drop_put : (d : List ℕ) (p b : ℕ) → p < length d → drop p (set d p b) ≡ b ∷ drop (suc p) d
drop_put d p b h =
    let l : p < length (set d p b) = omega (arith, length-set d p b) in
    drop-cons (set d p b) p 0 l ∙ rw (get_or-set_same d p b 0 h, drop-set-lt (suc p) d p b (omega arith))

-- at first all twenty are free
pub none_put : (d : List ℕ) (x : ℕ) → length d ≡ 20 → digits_before 20 x (drop 20 d) ≡ decimal x
unfolding decimal
none_put d x h = let l : length d ≤ 20 = omega arith in ap (digits_before 20 x) (drop_of_length-le d l)

pub digit_put : (d : List ℕ) (p y : ℕ) → 10 ≤ y → 1 ≤ p → p ≤ length d
    → digits_before (p - 1) (y / 10) (drop (p - 1) (set d (p - 1) (48 + y % 10))) ≡ digits_before p y (drop p d)
digit_put d p y h i j =
    let e : p ≡ suc (p - 1) = omega arith in
    rw (drop_put d (p - 1) (48 + y % 10) (omega arith), ← e) (sym (more_digits (p - 1) y (drop p d) h) ∙ ap (λ (k : ℕ). digits_before k y (drop p d)) (sym e))

pub last_put : (d : List ℕ) (p y : ℕ) → y < 10 → 1 ≤ p → p ≤ length d → drop (p - 1) (set d (p - 1) (48 + y)) ≡ digits_before p y (drop p d)
last_put d p y h i j =
    let e : p ≡ suc (p - 1) = omega arith in
    drop_put d (p - 1) (48 + y) (omega arith) ∙ ap (λ (k : ℕ). (48 + y) ∷ drop k d) (sym e)
    ∙ sym (last_digit (p - 1) y (drop p d) h) ∙ ap (λ (k : ℕ). digits_before k y (drop p d)) (sym e)

-- the bytes that are free are enough for the digits that are left
pub enough : (y p : ℕ) → 10 ≤ y → y < 10 ^ p → (2 ≤ p) × (y / 10 < 10 ^ (p - 1))
enough y zero h i = absurd (omega arith)
enough y (suc zero) h i = absurd (omega arith)
enough y (suc (suc k)) h i =
    let j : y / 10 < 10 ^ suc k = omega arith in
    let e : suc (suc k) - 1 ≡ suc k = omega arith in
    (omega arith, rw e j)
