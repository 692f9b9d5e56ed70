-- Laws of a number's bits: a number of sixteen bits as a set of numbers.
use mathlib.Core.Path.{◌≡◌, refl, sym, ap, ◌∙◌}
use mathlib.Core.Bool.{Bool, true, false, not, ◌&&◌, ◌||◌, true≢false, false≢true}
use Prim.Native.Nat.{ℕ, zero, suc, ◌+◌, ◌-◌, ◌*◌, ◌/◌, ◌%◌, ◌^◌, ◌<◌, ◌≤◌, suc-le-suc}
use native.Mathlib.Nat.{mod-lt, zero-lt-suc, div-eq_of_lt, lt_of_lt_of_le, zero-div, div-one, pow-suc, le_of_suc-le-suc, not-suc-le-zero}
use native.Mathlib.Omega.{arith}
use native.Mathlib.Numerals.{add-one, one-add}
use lib.Dec.{eqb, lit<, eqb-suc-zero, eqb-zero-suc, eqb-suc-suc}
use lib.Bits.{bit_and, bit_or, or_shr, or_mod, and_shr, and_mod, shifted_half, shifted_even}
use lib.Pow.{shl_exact, pow_mono, shr-shr, shr_lt}
use lib.Count.{count_trailing_zeros, under}
use Rattle.graph.specs.Words.{bit}

two_pos : 0 < 2
two_pos = zero-lt-suc 1

or_digit : (a b : ℕ) → a < 2 → b < 2 → eqb (bit_or a b) 1 ≡ (eqb a 1 || eqb b 1)
or_digit zero zero h k = refl
or_digit zero (suc zero) h k = refl
or_digit zero (suc (suc b)) h k = absurd (omega arith)
or_digit (suc zero) zero h k = refl
or_digit (suc zero) (suc zero) h k = refl
or_digit (suc zero) (suc (suc b)) h k = absurd (omega arith)
or_digit (suc (suc a)) b h k = absurd (omega arith)

and_digit : (a b : ℕ) → a < 2 → b < 2 → eqb (bit_and a b) 1 ≡ (eqb a 1 && eqb b 1)
and_digit zero zero h k = refl
and_digit zero (suc zero) h k = refl
and_digit zero (suc (suc b)) h k = absurd (omega arith)
and_digit (suc zero) zero h k = refl
and_digit (suc zero) (suc zero) h k = refl
and_digit (suc zero) (suc (suc b)) h k = absurd (omega arith)
and_digit (suc (suc a)) b h k = absurd (omega arith)

pub bit_or_lem : (x y j : ℕ) → bit (bit_or x y) j ≡ (bit x j || bit y j)
unfolding bit
bit_or_lem x y j =
    ap (λ (n : ℕ). eqb (n % 2) 1) (or_shr x y j)
    ∙ ap (λ (n : ℕ). eqb n 1) (or_mod (x / 2 ^ j) (y / 2 ^ j) 1)
    ∙ or_digit (x / 2 ^ j % 2) (y / 2 ^ j % 2) (mod-lt (x / 2 ^ j) two_pos) (mod-lt (y / 2 ^ j) two_pos)

pub bit_and_lem : (x y j : ℕ) → bit (bit_and x y) j ≡ (bit x j && bit y j)
unfolding bit
bit_and_lem x y j =
    ap (λ (n : ℕ). eqb (n % 2) 1) (and_shr x y j)
    ∙ ap (λ (n : ℕ). eqb n 1) (and_mod (x / 2 ^ j) (y / 2 ^ j) 1)
    ∙ and_digit (x / 2 ^ j % 2) (y / 2 ^ j % 2) (mod-lt (x / 2 ^ j) two_pos) (mod-lt (y / 2 ^ j) two_pos)

pub bit_zero : (j : ℕ) → bit 0 j ≡ false
unfolding bit
bit_zero j = ap (λ (n : ℕ). eqb (n % 2) 1) (zero-div (2 ^ j))

-- past its digits a number has none
pub bit_past : (x k j : ℕ) → x < 2 ^ k → k ≤ j → bit x j ≡ false
unfolding bit
bit_past x k j h l = ap (λ (n : ℕ). eqb (n % 2) 1) (div-eq_of_lt (lt_of_lt_of_le h (pow_mono l)))

-- bit 0, and the bits above it
pub bit_low : (x : ℕ) → bit x 0 ≡ eqb (x % 2) 1
unfolding bit
bit_low x = ap (λ (n : ℕ). eqb (n % 2) 1) (div-one x)

pub bit_up : (x j : ℕ) → bit x (suc j) ≡ bit (x / 2) j
unfolding bit
bit_up x j = rw one-add at (ap (λ (n : ℕ). eqb (n % 2) 1) (sym (shr-shr x 1 j)))

-- the number whose one bit is k
pub bit_one : (k j : ℕ) → bit (1 * 2 ^ k) j ≡ eqb j k
bit_one zero zero = bit_low 1
bit_one zero (suc j) = bit_up 1 j ∙ bit_zero j ∙ sym (eqb-suc-zero j)
bit_one (suc k) zero = bit_low (1 * 2 ^ suc k) ∙ ap (λ (n : ℕ). eqb n 1) (shifted_even 1 k) ∙ sym (eqb-zero-suc k)
bit_one (suc k) (suc j) =
    bit_up (1 * 2 ^ suc k) j ∙ ap (λ (n : ℕ). bit n j) (shifted_half 1 k) ∙ bit_one k j ∙ sym (eqb-suc-suc j k)

-- two numbers of n digits with the same bits are the same
same_low : (a b : ℕ) → a < 2 → b < 2 → eqb a 1 ≡ eqb b 1 → a ≡ b
same_low zero zero h k e = refl
same_low zero (suc zero) h k e = absurd (false≢true e)
same_low zero (suc (suc b)) h k e = absurd (omega arith)
same_low (suc zero) zero h k e = absurd (true≢false e)
same_low (suc zero) (suc zero) h k e = refl
same_low (suc zero) (suc (suc b)) h k e = absurd (omega arith)
same_low (suc (suc a)) b h k e = absurd (omega arith)

half_lt : (x n : ℕ) → x < 2 ^ suc n → x / 2 < 2 ^ n
half_lt x n h = shr_lt n 1 (rw add-one h)

pub bit_ext : (n x y : ℕ) → x < 2 ^ n → y < 2 ^ n → ((j : ℕ) → j < n → bit x j ≡ bit y j) → x ≡ y
bit_ext zero x y h k e = omega arith
bit_ext (suc n) x y h k e =
    let lo : x % 2 ≡ y % 2 = same_low (x % 2) (y % 2) (mod-lt x two_pos) (mod-lt y two_pos) (sym (bit_low x) ∙ e 0 (zero-lt-suc n) ∙ bit_low y) in
    let hi : x / 2 ≡ y / 2 = bit_ext n (x / 2) (y / 2) (half_lt x n h) (half_lt y n k) (λ j l. sym (bit_up x j) ∙ e (suc j) (suc-le-suc l) ∙ bit_up y j) in
    omega arith

-- the lowest member
pub record Lowest (x t : ℕ) : Type 0 where
  pub here : bit x t ≡ true
  pub below : (j : ℕ) → j < t → bit x j ≡ false

lowest_step : (x d r t : ℕ) → x % 2 ≡ r → r < 2 → (r ≡ 0 → Lowest (x / 2) t) → Lowest x (under r t)
lowest_step x d zero t e h l = record {
  here = bit_up x t ∙ (l refl).here;
  below = λ j b. go j b;
}
  where
    go : (j : ℕ) → j < suc t → bit x j ≡ false
    go zero b = bit_low x ∙ ap (λ (n : ℕ). eqb n 1) e
    go (suc j) b = bit_up x j ∙ (l refl).below j (le_of_suc-le-suc b)
lowest_step x d (suc zero) t e h l = record {
  here = bit_low x ∙ ap (λ (n : ℕ). eqb n 1) e;
  below = λ j b. absurd (not-suc-le-zero b);
}
lowest_step x d (suc (suc r)) t e h l = absurd (omega arith)

pub lowest : (d x : ℕ) → 0 < x → x < 2 ^ d → Lowest x (count_trailing_zeros d x)
unfolding count_trailing_zeros
lowest zero x p h = absurd (omega arith)
lowest (suc d) x p h =
    lowest_step x d (x % 2) (count_trailing_zeros d (x / 2)) refl (mod-lt x two_pos)
    (λ e. lowest d (x / 2) (omega arith) (half_lt x d h))

under_lt : (d r t : ℕ) → (r ≡ 0 → t < d) → under r t < suc d
under_lt d zero t h = suc-le-suc (h refl)
under_lt d (suc r) t h = zero-lt-suc d

pub lowest_lt : (d x : ℕ) → 0 < x → x < 2 ^ d → count_trailing_zeros d x < d
unfolding count_trailing_zeros
lowest_lt zero x p h = absurd (omega arith)
lowest_lt (suc d) x p h = under_lt d (x % 2) (count_trailing_zeros d (x / 2)) (λ e. lowest_lt d (x / 2) (omega arith) (half_lt x d h))

-- without its lowest member, as the code `x & (x - 1)` says it
lower_step : (x r t : ℕ) → 0 < x → x % 2 ≡ r → r < 2 → (r ≡ 0 → (k : ℕ) → (bit (x / 2) k && bit (x / 2 - 1) k) ≡ (bit (x / 2) k && not (eqb k t)))
    → (k : ℕ) → (bit x k && bit (x - 1) k) ≡ (bit x k && not (eqb k (under r t)))
lower_step x zero t p e h l zero = let z : bit x 0 ≡ false = bit_low x ∙ ap (λ (n : ℕ). eqb n 1) e in rw z refl
lower_step x zero t p e h l (suc k) =
    let q : (x - 1) / 2 ≡ x / 2 - 1 = omega arith in
    rw (bit_up x k, bit_up (x - 1) k, q, eqb-suc-suc k t) (l refl k)
lower_step x (suc zero) t p e h l zero =
    let q : (x - 1) % 2 ≡ 0 = omega arith in
    let z : bit (x - 1) 0 ≡ false = bit_low (x - 1) ∙ ap (λ (n : ℕ). eqb n 1) q in
    rw z refl
lower_step x (suc zero) t p e h l (suc k) =
    let q : (x - 1) / 2 ≡ x / 2 = omega arith in
    rw (bit_up x k, bit_up (x - 1) k, q, eqb-suc-zero k) (go (bit (x / 2) k))
  where
    go : (b : Bool) → (b && b) ≡ (b && true)
    go true = refl
    go false = refl
lower_step x (suc (suc r)) t p e h l k = absurd (omega arith)

lower : (d x : ℕ) → 0 < x → x < 2 ^ d → (k : ℕ) → (bit x k && bit (x - 1) k) ≡ (bit x k && not (eqb k (count_trailing_zeros d x)))
unfolding count_trailing_zeros
lower zero x p h = absurd (omega arith)
lower (suc d) x p h = lower_step x (x % 2) (count_trailing_zeros d (x / 2)) p refl (mod-lt x two_pos) (λ e. lower d (x / 2) (omega arith) (half_lt x d h))

pub lowest_less : (d x : ℕ) → 0 < x → x < 2 ^ d → (k : ℕ) → bit (bit_and x (x - 1)) k ≡ (bit x k && not (eqb k (count_trailing_zeros d x)))
lowest_less d x p h k = bit_and_lem x (x - 1) k ∙ lower d x p h k

-- the set of all but those of y
not_low : (a b : ℕ) → a < 2 → a + b ≡ 1 → eqb b 1 ≡ not (eqb a 1)
not_low zero (suc zero) h e = refl
not_low zero zero h e = absurd (omega arith)
not_low zero (suc (suc b)) h e = absurd (omega arith)
not_low (suc zero) zero h e = refl
not_low (suc zero) (suc b) h e = absurd (omega arith)
not_low (suc (suc a)) b h e = absurd (omega arith)

pub bit_not : (n y j : ℕ) → y < 2 ^ n → j < n → bit (2 ^ n - 1 - y) j ≡ not (bit y j)
bit_not zero y j h l = absurd (omega arith)
bit_not (suc n) y zero h l =
    let p : 2 ^ suc n ≡ 2 ^ n * 2 = pow-suc 2 n in
    bit_low (2 ^ suc n - 1 - y) ∙ not_low (y % 2) ((2 ^ suc n - 1 - y) % 2) (mod-lt y two_pos) (omega arith) ∙ ap not (sym (bit_low y))
bit_not (suc n) y (suc j) h l =
    let p : 2 ^ suc n ≡ 2 ^ n * 2 = pow-suc 2 n in
    let q : (2 ^ suc n - 1 - y) / 2 ≡ 2 ^ n - 1 - y / 2 = omega arith in
    bit_up (2 ^ suc n - 1 - y) j ∙ ap (λ (m : ℕ). bit m j) q ∙ bit_not n (y / 2) j (half_lt y n h) (le_of_suc-le-suc l) ∙ ap not (sym (bit_up y j))

-- what the code `1 << j` is at sixteen bits
pub one_shl : (j : ℕ) → j < 16 → 1 * 2 ^ j % 65536 ≡ 1 * 2 ^ j
one_shl j h = shl_exact 1 j 16 (lit< tt) (omega arith)

pub one_lt : (j : ℕ) → j < 16 → 1 * 2 ^ j < 65536
one_lt j h = rw (one_shl j) at (mod-lt (1 * 2 ^ j) {m = 65536} (lit< tt))

-- one member less, as the code `x & !(1 << j)` says it
pub one_less : (x j k : ℕ) → j < 16 → k < 16 → bit (bit_and x (65535 - 1 * 2 ^ j % 65536)) k ≡ (bit x k && not (eqb k j))
one_less x j k h l =
    bit_and_lem x (65535 - 1 * 2 ^ j % 65536) k
    ∙ ap (λ (b : Bool). bit x k && b)
    (ap (λ (n : ℕ). bit (65535 - n) k) (one_shl j h) ∙ bit_not 16 (1 * 2 ^ j) k (one_lt j h) l ∙ ap not (bit_one j k))
