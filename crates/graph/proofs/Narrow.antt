-- The longest chain of sixteen vertices is that of the first v, where the others have no edge and no time.
use mathlib.Core.Path.{◌≡◌, refl, sym, ap, ◌∙◌}
use mathlib.Core.Bool.{Bool, true, false}
use mathlib.Core.List.{List, [], ◌∷◌}
use Prim.Native.Nat.{ℕ, zero, suc, ◌≤◌, ◌<◌}
use native.Mathlib.Omega.{arith}
use native.Mathlib.Decide.{dec_lt, dec_le}
use lib.ListN.{get_or}
use Rattle.graph.specs.Words.{pick, largest}
use Rattle.graph.specs.Graph.{edge, acyclic, longest_from, maximum, longest, longest_of}
use Rattle.graph.proofs.Facts.{off_when, past_end}
use Rattle.graph.proofs.Long.{maximum_most, at_more, from_length}

pub largest_same : (n : ℕ) (f g : ℕ → ℕ) → ((i : ℕ) → i < n → f i ≡ g i) → largest n f ≡ largest n g
unfolding largest
largest_same zero f g h = refl
largest_same (suc n) f g h = omega (arith, largest_same n f g (λ i b. h i (omega arith)), h n (omega arith))

-- terms from v on that are 0
pub largest_upto : (v n : ℕ) (f : ℕ → ℕ) → v ≤ n → ((i : ℕ) → v ≤ i → i < n → f i ≡ 0) → largest n f ≡ largest v f
unfolding largest
largest_upto v zero f h k = let z : v ≡ 0 = omega arith in rw z refl
largest_upto v (suc n) f h k =
    elim (dec_le v n) [
      | yes e ↦ omega (arith, largest_upto v n f e (λ i a b. k i a (omega arith)), k n e (omega arith))
      | no e ↦ let z : v ≡ suc n = omega arith in rw z refl
    ]

maximum_within : (l : List ℕ) (most : ℕ) → ((i : ℕ) → get_or l i 0 ≤ most) → maximum l ≤ most
unfolding maximum
maximum_within [] most h = omega arith
maximum_within (x ∷ l) most h = omega (arith, h 0, maximum_within l most (λ i. h (suc i)))

pub maximum_same : (l m : List ℕ) → ((i : ℕ) → get_or l i 0 ≡ get_or m i 0) → maximum l ≡ maximum m
maximum_same l m h =
    let a = maximum_within l (maximum m) (λ i. omega (arith, h i, maximum_most m i)) in
    let b = maximum_within m (maximum l) (λ i. omega (arith, h i, maximum_most l i)) in
    omega arith

past : (v : ℕ) (E : ℕ → ℕ → Bool) (f : ℕ → ℕ) (k u : ℕ) → v ≤ u → get_or (longest_from v E f k) u 0 ≡ 0
past v E f k u h = past_end (longest_from v E f k) u 0 (omega (arith, from_length v E f k))

largest_none : (f : ℕ → ℕ) → largest 0 f ≡ 0
unfolding largest
largest_none f = refl

-- ---- times that are the same below v
module _ (v : ℕ) (E : ℕ → ℕ → Bool) (f g : ℕ → ℕ) (same : (u : ℕ) → u < v → f u ≡ g u) where
  pub from_same : (k u : ℕ) → get_or (longest_from v E f k) u 0 ≡ get_or (longest_from v E g k) u 0
  unfolding longest_from
  from_same zero u = refl
  from_same (suc k) u =
      elim (dec_lt u v) [
        | yes h ↦
            omega (
              arith,
              at_more v E f (longest_from v E f k) u h,
              at_more v E g (longest_from v E g k) u h,
              same u h,
              largest_same v (λ w. pick (E u w) (get_or (longest_from v E f k) w 0) 0) (λ w. pick (E u w) (get_or (longest_from v E g k) w 0) 0)
                  (λ w b. ap (λ (x : ℕ). pick (E u w) x 0) (from_same k w)),
            )
        | no h ↦ past v E f (suc k) u (omega arith) ∙ sym (past v E g (suc k) u (omega arith))
      ]

  pub longest_same : longest v E f ≡ longest v E g
  unfolding longest
  longest_same = maximum_same (longest_from v E f 16) (longest_from v E g 16) (from_same 16)

-- ---- no edge and no time from v on
module _ (v : ℕ) (E : ℕ → ℕ → Bool) (f : ℕ → ℕ) (v16 : v ≤ 16) (ends : (u w : ℕ) → E u w ≡ true → (u < v) × (w < v))
    (unused : (u : ℕ) → v ≤ u → u < 16 → f u ≡ 0) where
  none_from : (u w : ℕ) → v ≤ u → E u w ≡ false
  none_from u w h = off_when _ (λ e. let b = (ends u w e).0 in omega arith)

  none_to : (u w : ℕ) → v ≤ w → E u w ≡ false
  none_to u w h = off_when _ (λ e. let b = (ends u w e).1 in omega arith)

  pub from_narrow : (k u : ℕ) → get_or (longest_from 16 E f k) u 0 ≡ get_or (longest_from v E f k) u 0
  unfolding longest_from
  from_narrow zero u = refl
  from_narrow (suc k) u =
      let g : ℕ → ℕ = λ w. pick (E u w) (get_or (longest_from 16 E f k) w 0) 0 in
      let g' : ℕ → ℕ = λ w. pick (E u w) (get_or (longest_from v E f k) w 0) 0 in
      elim (dec_lt u v) [
        | yes h ↦
            omega (
              arith,
              at_more 16 E f (longest_from 16 E f k) u (omega arith),
              at_more v E f (longest_from v E f k) u h,
              largest_upto v 16 g v16 (λ w a b. ap (λ (d : Bool). pick d (get_or (longest_from 16 E f k) w 0) 0) (none_to u w a)),
              largest_same v g g' (λ w b. ap (λ (x : ℕ). pick (E u w) x 0) (from_narrow k w)),
            )
        | no h ↦
            elim (dec_lt u 16) [
              | yes b ↦
                  omega (
                    arith,
                    at_more 16 E f (longest_from 16 E f k) u b,
                    unused u (omega arith) b,
                    past v E f (suc k) u (omega arith),
                    largest_upto 0 16 g (omega arith) (λ w a c. ap (λ (d : Bool). pick d (get_or (longest_from 16 E f k) w 0) 0) (none_from u w (omega arith))),
                    largest_none g,
                  )
              | no b ↦ past 16 E f (suc k) u (omega arith) ∙ sym (past v E f (suc k) u (omega arith))
            ]
      ]

  pub longest_narrow : longest 16 E f ≡ longest v E f
  unfolding longest
  longest_narrow = maximum_same (longest_from 16 E f 16) (longest_from v E f 16) (from_narrow 16)

-- WHAT `longest_of` MEANS, of a task of v vertices that passes the cycle test: its times are f, and the others have none
pub longest_of_is : (v : ℕ) (succ times : List ℕ) (f : ℕ → ℕ) → v ≤ 16 → acyclic succ ≡ true
    → ((u w : ℕ) → edge succ u w ≡ true → (u < v) × (w < v)) → ((u : ℕ) → u < 16 → get_or times u 0 ≡ f u)
    → ((u : ℕ) → v ≤ u → u < 16 → f u ≡ 0) → longest_of succ times ≡ longest v (edge succ) f
unfolding longest_of
longest_of_is v succ times f v16 passes ends same unused =
    ap (λ (b : Bool). pick b (longest 16 (edge succ) (λ u. get_or times u 0)) 0) passes
    ∙ longest_same 16 (edge succ) (λ u. get_or times u 0) f same
    ∙ longest_narrow v (edge succ) f v16 ends unused
