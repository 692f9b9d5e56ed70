-- The sixteen numbers of a slot, as the code takes them out of the row: where each stands, what they come to or-ed together, and their sum.
use mathlib.Core.Path.{◌≡◌, refl, sym, ap, ◌∙◌}
use mathlib.Core.List.{List, [], ◌∷◌}
use Prim.Native.Nat.{ℕ, zero, suc, ◌+◌, ◌*◌, ◌<◌}
use native.Mathlib.Omega.{arith}
use native.Mathlib.Decide.{ℕ_discrete}
use lib.ListN.{length, get_or, take, drop, length-take, length-drop}
use lib.Seq.{get_or-take, get_or-drop}
use lib.Dec.{eqb}
use lib.Bits.{bit_or, or_add_and, and_le_l, and_le_r}
use borrow.Author.Tests.{eq-eqb, ne_eqb, eqb-true}
use Rattle.std.specs.Prelude.{fold}
use Rattle.graph.specs.Words.{all, sum}
use Rattle.graph.proofs.Facts.{all_at, all_of, all_same, off_when, past_end, sum_first, sum_same}
use Rattle.slots.specs.Slots.{at, nothing_left, work_left}
use Rattle.slots.proofs.Cases.{none_left, work_sum}

-- ---- a list's numbers or-ed together are 0 exactly if each of them is
or_none : (a b : ℕ) → bit_or a b ≡ 0 → (a ≡ 0) × (b ≡ 0)
or_none a b h = let s = or_add_and a b in let l = and_le_l a b in let r = and_le_r a b in (omega arith, omega arith)

none_or : (a b : ℕ) → a ≡ 0 → b ≡ 0 → bit_or a b ≡ 0
none_or a b h k = omega (arith, or_add_and a b)

each_none : (a : ℕ) (l : List ℕ) → fold bit_or a l ≡ 0 → (a ≡ 0) × ((u : ℕ) → get_or l u 0 ≡ 0)
each_none a [] h = (h, λ u. past_end [] u 0 (omega arith))
each_none a (x ∷ l) h =
    let r = each_none (bit_or a x) l h in
    let q = or_none a x r.0 in
    (q.0, λ u. at_each u q.1 r.1)
  where
    at_each : (u : ℕ) → x ≡ 0 → ((u : ℕ) → get_or l u 0 ≡ 0) → get_or (x ∷ l) u 0 ≡ 0
    at_each zero z f = z
    at_each (suc u) z f = f u

none_each : (a : ℕ) (l : List ℕ) → a ≡ 0 → ((u : ℕ) → u < length l → get_or l u 0 ≡ 0) → fold bit_or a l ≡ 0
none_each a [] h f = h
none_each a (x ∷ l) h f = none_each (bit_or a x) l (none_or a x h (f 0 (omega arith))) (λ u b. f (suc u) (omega arith))

or_zero : (l : List ℕ) → eqb (fold bit_or 0 l) 0 ≡ all (length l) (λ u. eqb (get_or l u 0) 0)
or_zero l = elim (ℕ_discrete (fold bit_or 0 l) 0) [
  | yes e ↦ eq-eqb (fold bit_or 0 l) 0 e ∙ sym (all_of (length l) _ (λ u b. eq-eqb (get_or l u 0) 0 ((each_none 0 l e).1 u)))
  | no d ↦
      ne_eqb (fold bit_or 0 l) 0 d
      ∙ sym (off_when _ (λ h. d (none_each 0 l refl (λ u b. eqb-true (get_or l u 0) 0 (all_at (length l) _ h u b)))))
]

-- ---- and added up
added : (a : ℕ) (l : List ℕ) → fold (λ (n x : ℕ). n + x) a l ≡ a + sum (length l) (λ u. get_or l u 0)
unfolding sum
added a [] = omega arith
added a (x ∷ l) = omega (arith, added (a + x) l, sum_first (length l) (λ u. get_or (x ∷ l) u 0))

-- ---- a slot's numbers
abbrev pub row_of : List ℕ → ℕ → List ℕ
row_of rest s = take 16 (drop (16 * s) rest)

module _ (rest : List ℕ) (s : ℕ) (size : length rest ≡ 1024) (b : s < 64) where
  pub row_long : length (row_of rest s) ≡ 16
  row_long = omega (arith, length-take 16 (drop (16 * s) rest), length-drop (16 * s) rest)

  pub row_has : (u : ℕ) → u < 16 → get_or (row_of rest s) u 0 ≡ at rest s u
  row_has u c = get_or-take 16 (drop (16 * s) rest) u 0 c ∙ get_or-drop (16 * s) rest u 0

  pub none_or_ed : eqb (fold bit_or 0 (row_of rest s)) 0 ≡ nothing_left rest s
  none_or_ed =
      or_zero (row_of rest s)
      ∙ ap (λ (n : ℕ). all n (λ u. eqb (get_or (row_of rest s) u 0) 0)) row_long
      ∙ all_same 16 _ _ (λ u c. ap (λ (x : ℕ). eqb x 0) (row_has u c))
      ∙ none_left rest s b

  pub row_sum : fold (λ (n x : ℕ). n + x) 0 (row_of rest s) ≡ work_left rest s
  row_sum =
      added 0 (row_of rest s)
      ∙ (let z : 0 + sum (length (row_of rest s)) (λ u. get_or (row_of rest s) u 0) ≡ sum (length (row_of rest s)) (λ u. get_or (row_of rest s) u 0) = omega arith in z)
      ∙ ap (λ (n : ℕ). sum n (λ u. get_or (row_of rest s) u 0)) row_long
      ∙ sum_same 16 _ _ row_has
      ∙ work_sum rest s b
