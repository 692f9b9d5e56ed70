-- The numbers below n that pass a test, by their places: the q-th passes, each is below the next, and each that passes has a place. So a list that is
-- made of them keeps their order. And how many pass, where it is the first k that do.
use Rattle.std.proofs.Common.{◌≡◌, ℕ, zero, suc, ◌<◌, ◌≤◌, Bool, true, false, not, List, [], ◌∷◌, length, get_or, sym, refl, ap, ◌∙◌, arith}
use native.Mathlib.Decide.{ℕ_discrete, dec_le}
use Rattle.graph.specs.Words.{flag, sum, all, row, those_below, is_in}
use Rattle.graph.proofs.Facts.{clash, all_at, all_of, all_not, off_when, first_in, other_in, tail_in, below_pass, below_all, length_row}
use Rattle.graph.proofs.Members.{those_short}
use Rattle.table.proofs.Ascending.{Asc, keys_asc}
use Rattle.machine.specs.declared.State.{State}
use Rattle.machine.specs.States.{live, jobs_of}
use Rattle.machine.specs.Steps.{any_place}

-- ---- lists
pub at_in : (l : List ℕ) (q : ℕ) → q < length l → is_in (get_or l q 0) l ≡ true
at_in [] q b = absurd (omega arith)
at_in (x ∷ l) zero b = first_in x l
at_in (x ∷ l) (suc q) b = tail_in (get_or l q 0) x l (at_in l q (omega arith))

pub in_at : (l : List ℕ) (x : ℕ) → is_in x l ≡ true → (q : ℕ) × (q < length l) × (get_or l q 0 ≡ x)
unfolding is_in
in_at [] x h = absurd (clash h refl)
in_at (y ∷ l) x h = elim (ℕ_discrete x y) [
  | yes e ↦ (0, omega arith, sym e)
  | no d ↦ let r = in_at l x (sym (other_in x y l d) ∙ h) in (suc r.0, (let b = r.1 in omega arith), r.2)
]

pub asc_next : (low top : ℕ) (l : List ℕ) → Asc low top l → (j : ℕ) → suc j < length l → get_or l j 0 < get_or l (suc j) 0
unfolding Asc
asc_next low top [] h j b = absurd (omega arith)
asc_next low top (x ∷ []) h j b = absurd (omega arith)
asc_next low top (x ∷ y ∷ l) h zero b = let z = h.2.0 in omega arith
asc_next low top (x ∷ y ∷ l) h (suc j) b = asc_next (suc x) top (y ∷ l) h.2 j (omega arith)

-- ---- those below n that pass
module _ (n : ℕ) (p : ℕ → Bool) where
  pub below_at : (q : ℕ) → q < length (those_below n p) → (get_or (those_below n p) q 0 < n) × (p (get_or (those_below n p) q 0) ≡ true)
  below_at q b = below_pass n p (get_or (those_below n p) q 0) (at_in (those_below n p) q b)

  pub below_short : length (those_below n p) ≤ n
  unfolding those_below
  below_short = omega (arith, those_short p (row n (λ (j : ℕ). j)), length_row n (λ (j : ℕ). j))

  pub below_next : (q : ℕ) → suc q < length (those_below n p) → get_or (those_below n p) q 0 < get_or (those_below n p) (suc q) 0
  unfolding those_below row
  below_next q b = asc_next 0 n (those_below n p) (keys_asc p n 0 n (omega arith)) q b

  pub below_found : (x : ℕ) → x < n → p x ≡ true → (q : ℕ) × (q < length (those_below n p)) × (get_or (those_below n p) q 0 ≡ x)
  below_found x b e = in_at (those_below n p) x (below_all n p x b e)

-- ---- how many pass, where it is the first k
ones : (k : ℕ) (f : ℕ → Bool) → ((p : ℕ) → p < k → f p ≡ true) → sum k (λ p. flag (f p)) ≡ k
unfolding sum flag
ones zero f h = refl
ones (suc k) f h = let e = ones k f (λ p b. h p (omega arith)) in let z : flag (f k) ≡ 1 = ap flag (h k (omega arith)) in omega arith

pub count_first : (n k : ℕ) (f : ℕ → Bool) → k ≤ n → ((p : ℕ) → p < k → f p ≡ true) → ((p : ℕ) → k ≤ p → p < n → f p ≡ false) → sum n (λ p. flag (f p)) ≡ k
unfolding sum flag
count_first zero k f b yes-those no-others = let z : k ≡ 0 = omega arith in sym z
count_first (suc n) k f b yes-those no-others = elim (dec_le k n) [
  | yes l ↦
      let e = count_first n k f l yes-those (λ p x y. no-others p x (omega arith)) in
      let z : flag (f n) ≡ 0 = ap flag (no-others n l (omega arith)) in
      omega arith
  | no l ↦ let z : k ≡ suc n = omega arith in rw z (ones (suc n) f (λ p x. yes-those p (omega arith)))
]

-- ---- how many jobs there are, where the live ones come first
module _ (st : State) (i k : ℕ) (four : k ≤ 4) (first : (p : ℕ) → p < k → live st i p ≡ true) (others : (p : ℕ) → k ≤ p → p < 4 → live st i p ≡ false) where
  pub jobs_are : jobs_of st i ≡ k
  unfolding jobs_of
  jobs_are = count_first 4 k (live st i) four first others

-- ---- whether some place passes
not_false : (b : Bool) → not b ≡ false → b ≡ true
not_false true h = refl
not_false false h = absurd (clash refl h)

module _ (f : ℕ → Bool) where
  pub any_place_lem : any_place f ≡ true → (p : ℕ) × (p < 4) × (f p ≡ true)
  unfolding any_place
  any_place_lem h =
      let r = all_not 4 (λ p. not (f p)) (off_when _ (λ e. clash h (ap not e))) in
      (r.0, r.1, not_false (f r.0) r.2)

  pub place_any : (p : ℕ) → p < 4 → f p ≡ true → any_place f ≡ true
  unfolding any_place
  place_any p b e = ap not (off_when (all 4 (λ p. not (f p))) (λ h. clash (all_at 4 (λ p. not (f p)) h p b) (ap not e)))

  pub no_place : ((p : ℕ) → p < 4 → f p ≡ false) → any_place f ≡ false
  unfolding any_place
  no_place h = ap not (all_of 4 (λ p. not (f p)) (λ p b. ap not (h p b)))

  pub place_none : any_place f ≡ false → (p : ℕ) → p < 4 → f p ≡ false
  place_none h p b = off_when (f p) (λ e. clash (place_any p b e) h)
