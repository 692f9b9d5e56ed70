-- How many vertices sixty-four sets have: as many as are available. The sets go by slot, 16 times age place plus task, and the vertices by task, age place
-- and vertex, so the same numbers are added up in another order.
use mathlib.Core.Path.{◌≡◌, refl, sym, ap, ◌∙◌}
use mathlib.Core.Bool.{Bool, true, false}
use mathlib.Core.List.{List, ◌∷◌}
use Prim.Native.Nat.{ℕ, zero, suc, ◌+◌, ◌*◌, ◌/◌, ◌%◌, ◌^◌, ◌<◌}
use native.Mathlib.Omega.{arith}
use native.Mathlib.Nat.{add-zero, mul-zero, mul-suc}
use lib.ListN.{length, get_or}
use lib.Count.{ones, ones_in, ones_cat}
use Rattle.std.specs.List.{sum_by}
use Rattle.std.proofs.lemmas.List.Recursion.{is_sum_by}
use Rattle.graph.specs.Words.{pick, flag, sum, set_of}
use Rattle.graph.proofs.Facts.{row_at, sum_same, sum_none, sum_add, count_below}
use Rattle.graph.proofs.Sets.{set_small}
use Rattle.table.specs.declared.Table.{Table}
use Rattle.machine.specs.declared.State.{State}
use Rattle.machine.specs.Steps.{available, availables, available_sets}

-- the sum over a list, by places
sum_front : (n : ℕ) (f : ℕ → ℕ) → sum (suc n) f ≡ f 0 + sum n (λ k. f (suc k))
unfolding sum
sum_front zero f = omega arith
sum_front (suc n) f = let e = sum_front n f in omega (arith, e)

pub sum_by_is : (f : ℕ → ℕ) (xs : List ℕ) → sum_by f xs ≡ sum (length xs) (λ k. f (get_or xs k 0))
unfolding sum
sum_by_is f xs =
    sym (is_sum_by (λ (l : List ℕ). sum (length l) (λ k. f (get_or l k 0))) f refl (λ x l. sum_front (length l) (λ k. f (get_or (x ∷ l) k 0))) xs)

-- ---- the digits of a set are its members
no_ones : (ones 0 ≡ 0) × (ones 1 ≡ 1)
unfolding ones ones_in
no_ones = (refl, refl)

ones_set : (n : ℕ) (p : ℕ → Bool) → ones (set_of n p) ≡ sum n (λ u. flag (p u))
unfolding set_of sum flag
ones_set zero p = no_ones.0
ones_set (suc n) p = go (p n) (ones_set n p) (set_small p n)
  where
    go : (b : Bool) → ones (sum n (λ i. pick (p i) (2 ^ i) 0)) ≡ sum n (λ u. flag (p u)) → sum n (λ i. pick (p i) (2 ^ i) 0) < 2 ^ n
        → ones (sum n (λ i. pick (p i) (2 ^ i) 0) + pick b (2 ^ n) 0) ≡ sum n (λ u. flag (p u)) + flag b
    go true e h =
        let q : sum n (λ i. pick (p i) (2 ^ i) 0) + 2 ^ n ≡ 1 * 2 ^ n + sum n (λ i. pick (p i) (2 ^ i) 0) = omega arith in
        let c = ones_cat n 1 (sum n (λ i. pick (p i) (2 ^ i) 0)) h in
        let o = no_ones.1 in
        ap ones q ∙ c ∙ omega arith
    go false e h = ap ones (add-zero _) ∙ e ∙ sym (add-zero _)

-- ---- sums by blocks, and in either order
sum_more : (a b : ℕ) (f : ℕ → ℕ) → sum (a + b) f ≡ sum a f + sum b (λ u. f (a + u))
unfolding sum
sum_more a zero f = ap (λ (n : ℕ). sum n f) (add-zero a) ∙ sym (add-zero (sum a f))
sum_more a (suc b) f =
    let e = sum_more a b f in
    let q : a + suc b ≡ suc (a + b) = omega arith in
    ap (λ (n : ℕ). sum n f) q ∙ omega arith

sum_blocks : (w n : ℕ) (f : ℕ → ℕ) → sum (w * n) f ≡ sum n (λ i. sum w (λ u. f (w * i + u)))
unfolding sum
sum_blocks w zero f = ap (λ (k : ℕ). sum k f) (mul-zero w)
sum_blocks w (suc n) f =
    ap (λ (k : ℕ). sum k f) (mul-suc w n) ∙ sum_more (w * n) w f ∙ ap (λ (k : ℕ). k + sum w (λ u. f (w * n + u))) (sum_blocks w n f)

sum_swap : (n m : ℕ) (f : ℕ → ℕ → ℕ) → sum n (λ i. sum m (λ p. f i p)) ≡ sum m (λ p. sum n (λ i. f i p))
unfolding sum
sum_swap zero m f = sym (sum_none m (λ p. 0) (λ p h. refl))
sum_swap (suc n) m f =
    ap (λ (k : ℕ). k + sum m (f n)) (sum_swap n m f) ∙ sum_add m (λ p. sum n (λ i. f i p)) (f n) (λ p. sum n (λ i. f i p) + f n p) (λ p h. refl)

-- by task, age place and vertex; or by slot and vertex
by_slot : (f : ℕ → ℕ) → sum 1024 f ≡ sum 64 (λ k. sum 16 (λ u. f (64 * (k % 16) + 16 * (k / 16) + u)))
by_slot f =
    sum_blocks 64 16 f
    ∙ sum_same 16 _ _ (λ i h. sum_blocks 16 4 (λ k. f (64 * i + k)))
    ∙ sum_swap 16 4 (λ i p. sum 16 (λ u. f (64 * i + (16 * p + u))))
    ∙ sum_same 4 _ _ (λ p l. sum_same 16 _ _ (λ i h. sum_same 16 _ _ (λ u k.
    let e : 64 * i + (16 * p + u) ≡ 64 * ((16 * p + i) % 16) + 16 * ((16 * p + i) / 16) + u = omega arith in ap f e)))
    ∙ sym (sum_blocks 16 4 (λ k. sum 16 (λ u. f (64 * (k % 16) + 16 * (k / 16) + u))))

-- 45: THE SETS HAVE AS MANY VERTICES AS ARE AVAILABLE
pub all_counted : (t : Table) (st : State) (sets : List ℕ) (r : ℕ) → sets ≡ available_sets t st
    → r ≡ sum 64 (λ k. ones (get_or sets k 0)) → r ≡ length (availables t st)
unfolding available_sets availables
all_counted t st sets r e q =
    q
    ∙ sum_same 64 _ _ (λ k h.
    ap (λ (l : List ℕ). ones (get_or l k 0)) e
    ∙ ap ones (row_at 64 (λ s. set_of 16 (λ u. available t st (64 * (s % 16) + 16 * (s / 16) + u))) k 0 h)
    ∙ ones_set 16 (λ u. available t st (64 * (k % 16) + 16 * (k / 16) + u)))
    ∙ sym (by_slot (λ k. flag (available t st k)))
    ∙ sym (count_below 1024 (available t st))
