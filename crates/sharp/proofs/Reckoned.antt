-- Laws that the proofs of the code cite: the closed form in the machine's numbers, which nothing wraps, and what it comes to over a row of a good table's
-- tasks and vertices.
use mathlib.Core.Path.{◌≡◌, refl, sym, ap, ap₂, ◌∙◌}
use mathlib.Core.Bool.{Bool}
use mathlib.Core.List.{List}
use Prim.Native.Nat.{ℕ, zero, suc, ◌+◌, ◌*◌, ◌-◌, ◌/◌, ◌%◌, ◌≤◌, ◌<◌, min, max}
use native.Mathlib.Omega.{arith}
use native.Mathlib.Nat.{mul-suc, mul-le-mul, mul-le-mul_left, div-le_self}
use native.Mathlib.Numerals.{add-one}
use native.Mathlib.Decide.{ℕ_discrete}
use lib.ListN.{length, get_or, set, length-set}
use lib.Seq.{get_or-set_same, get_or-set_other}
use borrow.Author.Tests.{lt-ltb, le-ltb}
use Rattle.graph.specs.Words.{pick, sum, largest}
use Rattle.verdict.specs.Verdicts.{rounded_up}
use Rattle.verdict.proofs.Amounts.{sum_most, up_most}
use Rattle.verdict.proofs.Figured.{sum_next}
use Rattle.sharp.specs.Closed.{below, ramp, part, asked_from, due_by}
use Rattle.sharp.proofs.Sums.{ramp_whole, part_sum}

-- ---- the falling sum: r is y / t rounded up; y and t in 64 bits are p and q
square_least : (r : ℕ) → r ≤ r * r
square_least zero = omega arith
square_least (suc r) = omega (arith, mul-suc (suc r) r)

pub ramp_steps : (y t r p q : ℕ) → y ≤ 1000000 → 1 ≤ t → r ≡ rounded_up y t → p ≡ y → q ≡ t
    → (r * p ≤ 1000000000000) × (r * r ≤ 1000000000000) × (r ≤ r * r) × (q * ((r * r - r) / 2) ≤ r * p) × (r * p - q * ((r * r - r) / 2) ≡ ramp y t)
unfolding ramp below
ramp_steps y t r p q high one e f g =
    rw (e, f, g) (
      omega (arith, mul-le-mul {n₂ = 1000000} {m₂ = 1000000} few high),
      omega (arith, mul-le-mul {n₂ = 1000000} {m₂ = 1000000} few few),
      square_least (rounded_up y t),
      ramp_whole y t one,
      refl,
    )
  where
    few : rounded_up y t ≤ 1000000
    few = omega (arith, up_most y t one)

-- ---- what a vertex asks for
pub part_high : (c t y : ℕ) → c ≤ 1000000 → y ≤ 1000000 → 1 ≤ t → part c t y ≤ 1000000000000
part_high c t y h k one =
    omega (
      arith,
      part_sum c t y y one (omega (arith, mul-le-mul_left y one)),
      sum_most y c (λ h. min c (y - h * t)) (λ h l. omega arith),
      mul-le-mul {n₂ = 1000000} {m₂ = 1000000} h k,
    )

pub part_low : (c t y : ℕ) → y < c → ramp y t ≡ part c t y
unfolding part
part_low c t y h = sym (ap (λ (b : Bool). pick b (ramp y t) (((y - c) / t + 1) * c + ramp ((y - c) % t + c - t) t)) (lt-ltb y c h))

ramp_none : (y t : ℕ) → y ≡ 0 → ramp y t ≡ 0
unfolding ramp
ramp_none y t e = rw e (omega arith)

-- w is (y - c) / t + 1 in 64 bits, and p is c
module _ (c t y w p : ℕ) (e : w ≡ (y - c) / t + 1) (f : p ≡ c) (h : c ≤ y) where
  pub part_full : w * p + ramp ((y - c) % t + c - t) t ≡ part c t y
  unfolding part
  part_full =
      ap₂ (λ (a b : ℕ). a * b + ramp ((y - c) % t + c - t) t) e f
      ∙ sym (ap (λ (b : Bool). pick b (ramp y t) (((y - c) / t + 1) * c + ramp ((y - c) % t + c - t) t)) (le-ltb y c h))

  pub part_only : (y - c) % t + c ≤ t → w * p ≡ part c t y
  part_only l = omega (arith, part_full, ramp_none ((y - c) % t + c - t) t (omega arith))

  pub full_high : c ≤ 1000000 → y ≤ 1000000 → w * p ≤ 1000001000000
  full_high a b = omega (arith, mul-le-mul {n₁ = w} {m₁ = p} {n₂ = 1000001} {m₂ = 1000000} (omega (arith, div-le_self (y - c) t)) (omega arith))

-- ---- a row of vertices, and of tasks: nothing yet, and one more
pub asked_none : (costs tails : List ℕ) (at d t : ℕ) → 0 ≡ asked_from costs tails at 0 d t
unfolding asked_from sum
asked_none costs tails at d t = refl

pub asked_next : (costs tails : List ℕ) (at u d t x y : ℕ) → y ≡ d - get_or tails (at + u) 0 → x ≡ part (get_or costs (at + u) 0) t y
    → asked_from costs tails at (u + 1) d t ≡ asked_from costs tails at u d t + x
unfolding asked_from
asked_next costs tails at u d t x y e f =
    sum_next u (λ u. part (get_or costs (at + u) 0) t (d - get_or tails (at + u) 0))
    ∙ ap (λ (z : ℕ). sum u (λ u. part (get_or costs (at + u) 0) t (d - get_or tails (at + u) 0)) + z) (sym (f ∙ ap (part (get_or costs (at + u) 0) t) e))

pub due_none : (costs tails counts periods : List ℕ) (d : ℕ) → 0 ≡ due_by costs tails counts periods 0 d
unfolding due_by sum
due_none costs tails counts periods d = refl

pub due_next : (costs tails counts periods : List ℕ) (i d x : ℕ) → x ≡ asked_from costs tails (16 * i) (get_or counts i 0) d (get_or periods i 0)
    → due_by costs tails counts periods (i + 1) d ≡ due_by costs tails counts periods i d + x
unfolding due_by
due_next costs tails counts periods i d x e =
    sum_next i (λ i. asked_from costs tails (16 * i) (get_or counts i 0) d (get_or periods i 0))
    ∙ ap (λ (z : ℕ). sum i (λ i. asked_from costs tails (16 * i) (get_or counts i 0) d (get_or periods i 0)) + z) (sym e)

-- ---- the largest of some
pub largest_next : (n : ℕ) (f : ℕ → ℕ) → largest (n + 1) f ≡ max (largest n f) (f n)
unfolding largest
largest_next n f = rw add-one

-- ---- sixteen tails at their places of the row: those of the vertices so far are there, and what stood before task i's places stands there still
pub record Put (row₀ : List ℕ) (i : ℕ) (tails : List ℕ) (u : ℕ) (row : List ℕ) : Type 0 where
  pub size : length row ≡ 256
  pub here : (w : ℕ) → w < u → get_or row (16 * i + w) 0 ≡ get_or tails w 0
  pub earlier : (j : ℕ) → j < 16 * i → get_or row j 0 ≡ get_or row₀ j 0

pub put_none : {row : List ℕ} {i : ℕ} {tails : List ℕ} → length row ≡ 256 → Put row i tails 0 row
put_none e = record { size = e; here = λ w l. absurd (omega arith); earlier = λ j l. refl }

pub put_next : {row₀ : List ℕ} {i : ℕ} {tails : List ℕ} {u : ℕ} {row : List ℕ} (x : ℕ) → i < 16 → u < 16 → x ≡ get_or tails u 0 → Put row₀ i tails u row
    → Put row₀ i tails (u + 1) (set row (16 * i + u) x)
put_next {row₀} {i} {tails} {u} {row} x b l e r = record {
  size = length-set row (16 * i + u) x ∙ r.size;
  here = λ w h. elim (ℕ_discrete w u) [
    | yes q ↦ rw q (get_or-set_same row (16 * i + u) x 0 (omega (arith, r.size)) ∙ e)
    | no q ↦ get_or-set_other row (16 * i + u) (16 * i + w) x 0 (λ z. q (omega arith)) ∙ r.here w (omega arith)
  ];
  earlier = λ j h. get_or-set_other row (16 * i + u) j x 0 (λ z. omega arith) ∙ r.earlier j h;
}
