-- What a chain over the numbers below n gives, in the words of graph's definitions: that all pass a test, and the lowest that does.
use Rattle.std.proofs.Common.{◌≡◌, ℕ, zero, suc, ◌+◌, ◌<◌, ◌≤◌, Bool, true, false, ◌&&◌, List, [], ◌∷◌, length, get_or, Option, Some, None, sym, refl, ap, ◌∙◌, add-zero, arith}
use native.Mathlib.Decide.{dec_lt}
use Rattle.std.specs.Option.{MatchOption}
use Rattle.std.specs.List.{range_with_len, list_all, filter}
use Rattle.graph.specs.Words.{flag, sum, all, lowest_or}
use Rattle.graph.proofs.Facts.{lowest_or_none}
use Rattle.slots.proofs.Cases.{sum_next}
use Rattle.slots.proofs.Behind.{all_more, all_off, all_done_lem}
use Rattle.machine.proofs.Lowest.{lowest_or_is}

-- the lowest that a search of the numbers below m finds, where none from m on passes
pub found_is : (n m : ℕ) (p : ℕ → Bool) → m ≤ n → ((k : ℕ) → m ≤ k → k < n → p k ≡ false) → (r : Option ℕ)
    → MatchOption r ((k : ℕ) → 0 ≤ k → k < m → p k ≡ false) (λ i. (0 ≤ i) × (i < m) × (p i ≡ true) × ((k : ℕ) → 0 ≤ k → k < i → p k ≡ false))
    → r ≡ lowest_or n p Some None
found_is n m p low past None h = sym (lowest_or_none n p Some None (λ j b. elim (dec_lt j m) [ yes l ↦ h j (omega arith) l | no l ↦ past j (omega arith) b ]))
found_is n m p low past (Some i) h = let below = h.1 in sym (lowest_or_is n p Some None i (record { below = omega arith; passes = h.2; none_lower = λ j b. h.3 j (omega arith) b }))

-- a test and those after it, those below having passed
one_more : (p : ℕ → Bool) (n i : ℕ) (after : Bool) → i < n → all i p ≡ true → (all (i + 1) p ≡ true → after ≡ all n p) → (p i && after) ≡ all n p
one_more p n i after b h go = by (p i) refl
  where
    by : (c : Bool) → p i ≡ c → (p i && after) ≡ all n p
    by true q = ap (λ (c : Bool). c && after) q ∙ go (all_more i p h q)
    by false q = ap (λ (c : Bool). c && after) q ∙ all_off n p i b q

all_from : (p : ℕ → Bool) (n i k : ℕ) → i + k ≡ n → all i p ≡ true → list_all p (range_with_len i k) ≡ all n p
all_from p n i zero e h = all_done_lem n p i (omega arith) h
all_from p n i (suc k) e h = one_more p n i (list_all p (range_with_len (i + 1) k)) (omega arith) h (λ a. all_from p n (i + 1) k (omega arith) a)

pub all_in_range : (p : ℕ → Bool) (n : ℕ) → list_all p (range_with_len 0 n) ≡ all n p
unfolding all
all_in_range p n = all_from p n 0 n (omega arith) refl

-- a test of each entry of a list; `here` is the entry that stands at a place of the whole list
entries_from : (p q : ℕ → Bool) (n : ℕ) (l : List ℕ) (i : ℕ) → i + length l ≡ n → ((k j : ℕ) → k < length l → j ≡ i + k → q j ≡ p (get_or l k 0)) → all i q ≡ true → list_all p l ≡ all n q
entries_from p q n [] i e h a = all_done_lem n q i (omega arith) a
entries_from p q n (x ∷ l) i e h a =
    ap (λ (c : Bool). c && list_all p l) (sym (h 0 i (omega arith) (omega arith)))
    ∙ one_more q n i (list_all p l) (omega arith) a (λ b. entries_from p q n l (i + 1) (omega arith) (λ k j c z. h (suc k) j (omega arith) (omega arith)) b)

pub all_entries : (p : ℕ → Bool) (l : List ℕ) (n : ℕ) → length l ≡ n → list_all p l ≡ all n (λ k. p (get_or l k 0))
unfolding all
all_entries p l n e = entries_from p (λ k. p (get_or l k 0)) n l 0 (omega arith) (λ k j b z. let y : j ≡ k = omega arith in ap (λ (m : ℕ). p (get_or l m 0)) y) refl

-- how many pass a test, from i on
counted_from : (p : ℕ → Bool) (n i k : ℕ) → i + k ≡ n → sum n (λ q. flag (p q)) ≡ sum i (λ q. flag (p q)) + length (filter p (range_with_len i k))
unfolding flag
counted_from p n i zero e = let z : n ≡ i = omega arith in ap (λ (m : ℕ). sum m (λ q. flag (p q))) z ∙ sym (add-zero (sum i (λ q. flag (p q))))
counted_from p n i (suc k) e =
    let after = counted_from p n (i + 1) k (omega arith) in
    let next = sum_next i (λ q. flag (p q)) in
    let here = one (p i) refl in
    omega (arith, after, next, here)
  where
    one : (b : Bool) → p i ≡ b → length (filter p (i ∷ range_with_len (i + 1) k)) ≡ flag (p i) + length (filter p (range_with_len (i + 1) k))
    one true q = rw q (omega arith)
    one false q = rw q (omega arith)

pub counted : (p : ℕ → Bool) (n : ℕ) → length (filter p (range_with_len 0 n)) ≡ sum n (λ q. flag (p q))
unfolding sum
counted p n = let h = counted_from p n 0 n (omega arith) in omega (arith, h)
