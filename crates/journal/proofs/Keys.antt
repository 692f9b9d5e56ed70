-- Lists of vertices: those of a row ascend, and are what a test picks out of the numbers below 1024.
use mathlib.Core.Path.{◌≡◌, refl, sym, ap, ◌∙◌}
use mathlib.Core.Bool.{Bool, true, false}
use mathlib.Core.List.{List, [], ◌∷◌}
use Prim.Native.Nat.{ℕ, zero, suc, ◌+◌, ◌≤◌, ◌<◌}
use native.Mathlib.Omega.{arith}
use native.Mathlib.Decide.{ℕ_discrete}
use lib.ListN.{length}
use Rattle.graph.specs.Words.{flag, sum, row_from, row, those_below, is_in, Distinct}
use Rattle.graph.proofs.Facts.{clash, off_when, first_in, other_in, tail_in, sum_le, sum_none, sum_set, count_below, below_pass, below_all, below_distinct}
use Rattle.graph.proofs.Members.{below_same}
use Rattle.table.proofs.Ascending.{Asc, picked_out, keys_asc}
use Rattle.journal.specs.Runs.{keys_of}

-- ---- what stands in a row of numbers
in_from : (k i : ℕ) (f : ℕ → ℕ) (a : ℕ) → is_in a (row_from k i f) ≡ true → (j : ℕ) × (i ≤ j) × (j < i + k) × (a ≡ f j)
unfolding row_from is_in
in_from zero i f a h = absurd (clash h refl)
in_from (suc k) i f a h = elim (ℕ_discrete a (f i)) [
  | yes e ↦ (i, omega arith, omega arith, e)
  | no d ↦
      let r = in_from k (suc i) f a (sym (other_in a (f i) (row_from k (suc i) f) d) ∙ h) in
      (r.0, let l = r.1 in omega arith, let l = r.2 in omega arith, r.3)
]

pub in_row : (k : ℕ) (f : ℕ → ℕ) (a : ℕ) → is_in a (row k f) ≡ true → (j : ℕ) × (j < k) × (a ≡ f j)
unfolding row
in_row k f a h = let r = in_from k 0 f a h in (r.0, let l = r.2 in omega arith, r.3)

-- ---- a row of numbers ascends if each is below the next
asc_from : (k i low top : ℕ) (f : ℕ → ℕ) → (0 < k → low ≤ f i) → ((j : ℕ) → j < i + k → f j < top) → ((j : ℕ) → i ≤ j → j + 1 < i + k → f j < f (j + 1)) → Asc low top (row_from k i f)
unfolding row_from Asc
asc_from zero i low top f l h n = tt
asc_from (suc k) i low top f l h n = (
  l (omega arith),
  h i (omega arith),
  asc_from k (suc i) (suc (f i)) top f (λ p. first p) (λ j b. h j (omega arith)) (λ j a b. n j (omega arith) (omega arith)),
)
  where
    first : 0 < k → suc (f i) ≤ f (suc i)
    first p = let z = n i (omega arith) (omega arith) in let e : i + 1 ≡ suc i = omega arith in let q = ap f e in omega arith

pub asc_row : (k top : ℕ) (f : ℕ → ℕ) → ((j : ℕ) → j < k → f j < top) → ((j : ℕ) → j + 1 < k → f j < f (j + 1)) → Asc 0 top (row k f)
unfolding row
asc_row k top f h n = asc_from k 0 0 top f (λ p. omega arith) (λ j b. h j (omega arith)) (λ j a b. n j (omega arith))

-- ---- the vertices of a choice in ascending order
module _ (chosen : List ℕ) where
  pub keys_in : ((k : ℕ) → is_in k chosen ≡ true → k < 1024) → (k : ℕ) → is_in k (keys_of chosen) ≡ is_in k chosen
  unfolding keys_of
  keys_in small k = go (is_in k chosen) refl
    where
      go : (b : Bool) → is_in k chosen ≡ b → is_in k (those_below 1024 (λ j. is_in j chosen)) ≡ b
      go true e = below_all 1024 (λ j. is_in j chosen) k (small k e) e
      go false e = off_when _ (λ i. clash (below_pass 1024 (λ j. is_in j chosen) k i).1 e)

  pub keys_ascend : Asc 0 1024 (keys_of chosen)
  unfolding keys_of those_below row
  keys_ascend = keys_asc (λ k. is_in k chosen) 1024 0 1024 refl

  pub keys_distinct : Distinct (keys_of chosen)
  unfolding keys_of
  keys_distinct = below_distinct 1024 (λ k. is_in k chosen)

  -- an ascending list is its own
  pub keys_same : Asc 0 1024 chosen → keys_of chosen ≡ chosen
  unfolding keys_of those_below row
  keys_same h = picked_out (λ k. is_in k chosen) 1024 0 1024 chosen refl h (λ k a b. refl)

-- only the members count
pub keys_by_members : (a b : List ℕ) → ((k : ℕ) → k < 1024 → is_in k a ≡ is_in k b) → keys_of a ≡ keys_of b
unfolding keys_of
keys_by_members a b h = below_same 1024 (λ k. is_in k a) (λ k. is_in k b) h

-- ---- how many
flags : (flag true ≡ 1) × (flag false ≡ 0)
unfolding flag
flags = (refl, refl)

flag_le : (a b : Bool) → (a ≡ true → b ≡ true) → flag a ≤ flag b
unfolding flag
flag_le true b h = rw (h refl) (omega arith)
flag_le false b h = omega arith

none_flag : (k : ℕ) → flag (is_in k []) ≡ 0
unfolding flag is_in
none_flag k = refl

-- a list with no number twice, of numbers below n
length_sum : (n : ℕ) (l : List ℕ) → Distinct l → ((x : ℕ) → is_in x l ≡ true → x < n) → length l ≡ sum n (λ k. flag (is_in k l))
unfolding Distinct
length_sum n [] d b = sym (sum_none n (λ k. flag (is_in k [])) (λ k h. none_flag k))
length_sum n (y ∷ l) d b =
    let i = length_sum n l d.1 (λ x h. b x (tail_in x y l h)) in
    let g : flag (is_in y (y ∷ l)) ≡ flag (is_in y l) + 1 =
    ap flag (first_in y l) ∙ flags.0 ∙ sym (ap (λ (z : ℕ). z + 1) (ap flag d.0 ∙ flags.1)) in
    let s = sum_set n (λ k. flag (is_in k l)) (λ k. flag (is_in k (y ∷ l))) 1 y (b y (first_in y l)) (λ k q. ap flag (other_in k y l q)) g in
    omega arith

-- has as many as its ascending list
pub keys_length : (chosen : List ℕ) → Distinct chosen → ((k : ℕ) → is_in k chosen ≡ true → k < 1024) → length (keys_of chosen) ≡ length chosen
unfolding keys_of
keys_length chosen d b = count_below 1024 (λ k. is_in k chosen) ∙ sym (length_sum 1024 chosen d b)

-- and no more than the numbers that pass a test that all of it pass
pub at_most : (n : ℕ) (p : ℕ → Bool) (l : List ℕ) → Distinct l → ((k : ℕ) → is_in k l ≡ true → (k < n) × (p k ≡ true)) → length l ≤ length (those_below n p)
at_most n p l d h =
    let a = length_sum n l d (λ k e. (h k e).0) in
    let b = count_below n p in
    let c = sum_le n (λ k. flag (is_in k l)) (λ k. flag (p k)) (λ k q. flag_le (is_in k l) (p k) (λ e. (h k e).1)) in
    omega arith
