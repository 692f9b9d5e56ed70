-- SUMS OVER h: as many h have h · T below D as D divided by T, rounded up (`while_below`); and what a vertex asks for over all of them has a
-- closed form (`part_is`). The terms are c as long as y - h · t is c or more, then fall by t at each step; past the end they are 0, so it does
-- not matter how far the sum goes.
use mathlib.Core.Path.{◌≡◌, refl, sym, ap, ap₂, ◌∙◌}
use mathlib.Core.Bool.{Bool, true, false}
use Prim.Native.Nat.{ℕ, zero, suc, ◌+◌, ◌*◌, ◌-◌, ◌/◌, ◌%◌, ◌≤◌, ◌<◌, min}
use native.Mathlib.Omega.{arith}
use native.Mathlib.Nat.{mul_comm, mul-suc, mul-add, add-mul, mul-le-mul_right, mod-lt, mod-le, div-add-mod', le-div_iff_mul-le, add-mul-div_left}
use native.Mathlib.Decide.{dec_le}
use lib.Dec.{ltb}
use borrow.Author.Tests.{ltb-true, ltb-false}
use Rattle.graph.specs.Words.{pick, sum}
use Rattle.graph.proofs.Facts.{sum_same, sum_none, sum_upto, sum_add}
use Rattle.verdict.specs.Verdicts.{rounded_up}
use Rattle.sharp.specs.Closed.{below, ramp, part}

-- ---- sums of any terms
-- the first a and then b more
pub sum_split : (a b : ℕ) (f : ℕ → ℕ) → sum (a + b) f ≡ sum a f + sum b (λ i. f (a + i))
unfolding sum
sum_split a zero f = let e : a + 0 ≡ a = omega arith in rw e (omega arith)
sum_split a (suc b) f = let e : a + suc b ≡ suc (a + b) = omega arith in rw e (omega (arith, sum_split a b f))

pub sum_const : (n c : ℕ) (f : ℕ → ℕ) → ((i : ℕ) → i < n → f i ≡ c) → sum n f ≡ n * c
unfolding sum
sum_const zero c f h = omega arith
sum_const (suc n) c f h = omega (arith, sum_const n c f (λ i b. h i (omega arith)), h n (omega arith), mul-suc c n, mul_comm c n, mul_comm c (suc n))

-- a sum of sums in the other order
pub sum_swap : (a b : ℕ) (f : ℕ → ℕ → ℕ) → sum a (λ h. sum b (f h)) ≡ sum b (λ u. sum a (λ h. f h u))
unfolding sum
sum_swap zero b f = sym (sum_none b (λ u. sum 0 (λ h. f h u)) (λ u l. refl))
sum_swap (suc a) b f =
    ap (λ (x : ℕ). x + sum b (f a)) (sum_swap a b f)
    ∙ sum_add b (λ u. sum a (λ h. f h u)) (f a) (λ u. sum (suc a) (λ h. f h u)) (λ u l. refl)

-- ---- "over h = 0, 1, 2 and on while h times T_i is below D_k"
pub while_below : (x y h : ℕ) → 1 ≤ y → (h < rounded_up x y → h * y < x) × (h * y < x → h < rounded_up x y)
unfolding rounded_up
while_below x y h one =
    let q = le-div_iff_mul-le {k = y} {x = suc h} {y = x + (y - 1)} (omega arith) in
    let e : suc h * y ≡ h * y + y = omega (arith, mul_comm (suc h) y, mul-suc y h, mul_comm y h) in
    (λ l. omega (arith, q.0 (omega arith), e), λ l. let r = q.1 (omega (arith, e)) in omega (arith, r))

-- so from there on no h is
pub past_below : (x y h : ℕ) → 1 ≤ y → rounded_up x y ≤ h → x ≤ h * y
past_below x y h one l = elim (dec_le x (h * y)) [ yes q ↦ q | no q ↦ absurd (omega (arith, (while_below x y h one).1 (omega arith))) ]

-- ---- 0 + 1 + .. + (r - 1)
below_none : below 0 ≡ 0
unfolding below
below_none = refl

pub below_next : (r : ℕ) → below (suc r) ≡ below r + r
unfolding below
below_next zero = refl
below_next (suc r) =
    let s : ℕ = suc r in
    let e : suc s * suc s - suc s ≡ s * s - s + 2 * s = omega (arith, mul-suc (suc s) s, mul_comm (suc s) s, mul-suc s s, mul-suc s r) in
    ap (λ (x : ℕ). x / 2) e ∙ add-mul-div_left (s * s - s) s {y = 2} (omega arith)

module _ (y t : ℕ) (one : 1 ≤ t) where
  -- as long as no term is cut at 0
  falling : (n : ℕ) → ((h : ℕ) → h < n → h * t ≤ y) → sum n (λ h. y - h * t) + t * below n ≡ n * y
  unfolding sum
  falling zero h = omega (arith, ap (λ (x : ℕ). t * x) below_none)
  falling (suc n) h =
      omega (arith, falling n (λ i b. h i (omega arith)), h n (omega arith), below_next n, ap (λ (x : ℕ). t * x) (below_next n) ∙ mul-add t (below n) n, mul_comm t n, mul-suc y n, mul_comm y n, mul_comm y (suc n))

  -- what the code subtracts is no more than what it subtracts from
  pub ramp_whole : t * below (rounded_up y t) ≤ rounded_up y t * y
  ramp_whole = omega (arith, falling (rounded_up y t) (λ h l. let q = (while_below y t h one).0 l in omega arith))

  -- THE FALLING SUM, however far it goes
  pub ramp_is : (n : ℕ) → y ≤ n * t → sum n (λ h. y - h * t) ≡ ramp y t
  unfolding ramp
  ramp_is n l =
      let r = rounded_up y t in
      let few : r ≤ n = elim (dec_le r n) [ yes q ↦ q | no q ↦ absurd (omega (arith, (while_below y t n one).0 (omega arith))) ] in
      sum_upto r n (λ h. y - h * t) few (λ i b q. let p = past_below y t i one b in omega arith)
      ∙ omega (arith, falling r (λ h l. let q = (while_below y t h one).0 l in omega arith))

-- ---- THE SUM OF WHAT A VERTEX ASKS FOR, however far it goes
pub part_sum : (c t y n : ℕ) → 1 ≤ t → y ≤ n * t → sum n (λ h. min c (y - h * t)) ≡ part c t y
unfolding part
part_sum c t y n one l = go (ltb y c) refl
  where
    go : (b : Bool) → ltb y c ≡ b
        → sum n (λ h. min c (y - h * t)) ≡ pick b (ramp y t) (((y - c) / t + 1) * c + ramp ((y - c) % t + c - t) t)
    go true e =
        let s = ltb-true y c e in
        sum_same n (λ h. min c (y - h * t)) (λ h. y - h * t) (λ h b. omega arith) ∙ ramp_is y t one n l
    go false e =
        let s = ltb-false y c e in
        let q = (y - c) / t in
        let z = (y - c) % t + c - t in
        let d = div-add-mod' (y - c) t in
        let m = mod-lt (y - c) {m = t} (omega arith) in
        sym (sum_upto n (q + 1 + n) (λ h. min c (y - h * t)) (omega arith) (λ i b r. let p = mul-le-mul_right t b in omega arith))
        ∙ sum_split (q + 1) n (λ h. min c (y - h * t))
        ∙ ap₂ (λ (a b : ℕ). a + b)
        (sum_const (q + 1) c (λ h. min c (y - h * t)) (λ h b. let le : h ≤ q = omega arith in let p = mul-le-mul_right t le in omega arith))
        (sum_same n (λ i. min c (y - (q + 1 + i) * t)) (λ i. z - i * t) (λ i b. rest i) ∙ ramp_is z t one n (omega (arith, mod-le (y - c) t)))
      where
        rest : (i : ℕ) → min c (y - ((y - c) / t + 1 + i) * t) ≡ (y - c) % t + c - t - i * t
        rest i =
            let s = ltb-false y c e in
            omega (
              arith,
              div-add-mod' (y - c) t,
              mod-lt (y - c) {m = t} (omega arith),
              add-mul ((y - c) / t + 1) i t,
              add-mul ((y - c) / t) 1 t,
            )

-- and of the definition's terms: D less h · T less the tail is D less the tail less h · T
pub part_is : (c t d tail : ℕ) → 1 ≤ t → sum (rounded_up d t) (λ h. min c (d - h * t - tail)) ≡ part c t (d - tail)
part_is c t d tail one =
    sum_same (rounded_up d t) (λ h. min c (d - h * t - tail)) (λ h. min c (d - tail - h * t)) (λ h b. omega arith)
    ∙ part_sum c t (d - tail) (rounded_up d t) one (let p = past_below d t (rounded_up d t) one (omega arith) in omega arith)
