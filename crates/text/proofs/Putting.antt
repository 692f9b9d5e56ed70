-- What a test leaves of a text; list after list, how long they are together, and zeros behind the last.
use mathlib.Core.Path.{◌≡◌, refl, sym, ap, ◌∙◌}
use mathlib.Core.List.{List, [], ◌++◌, append-nil, append_assoc}
use Prim.Native.Nat.{ℕ, zero, suc, ◌+◌, ◌*◌, ◌-◌, ◌≤◌, ◌<◌}
use native.Mathlib.Omega.{arith}
use native.Mathlib.Nat.{add-zero, zero-add, mul-suc}
use native.Mathlib.Numerals.{add-one}
use lib.ListN.{length, drop, replicate, length-append, length-replicate}
use lib.Dec.{eqb}
use borrow.Author.Tests.{eq-eqb, ne_eqb}
use Rattle.graph.specs.Words.{pick, join_from, in_order}
use Rattle.text.specs.Laid.{laid}
use Rattle.text.proofs.Laying.{laid_front}

-- ---- a test on a number passed, or did not
pub said : (n k : ℕ) (x y : List ℕ) → n ≡ k → x ≡ pick (eqb n k) x y
said n k x y e = rw (eq-eqb n k e)

pub said_not : (n k : ℕ) (x y : List ℕ) → (n ≡ k → ⊥) → y ≡ pick (eqb n k) x y
said_not n k x y e = rw (ne_eqb n k e)

-- ---- list after list
join_more : (k i : ℕ) (f : ℕ → List ℕ) → join_from k i f ++ f (i + k) ≡ join_from (suc k) i f
unfolding join_from
join_more zero i f = ap f (add-zero i) ∙ sym (append-nil (f i))
join_more (suc k) i f =
    let e : i + suc k ≡ suc i + k = omega arith in
    append_assoc (f i) (join_from k (suc i) f) (f (i + suc k)) ∙ ap (λ (j : ℕ). f i ++ (join_from k (suc i) f ++ f j)) e ∙ ap (λ (l : List ℕ). f i ++ l) (join_more k (suc i) f)

pub one_more_lem : (k : ℕ) (f : ℕ → List ℕ) → in_order k f ++ f k ≡ in_order (k + 1) f
unfolding in_order
one_more_lem k f = ap (λ (j : ℕ). join_from k 0 f ++ f j) (sym (zero-add k)) ∙ join_more k 0 f ∙ ap (λ (n : ℕ). join_from n 0 f) (sym (add-one k))

pub none_before : (f : ℕ → List ℕ) → [] ≡ in_order 0 f
unfolding in_order join_from
none_before f = refl

-- where each has at most c bytes
pub joined_most : (k i c : ℕ) (f : ℕ → List ℕ) → ((j : ℕ) → j < i + k → length (f j) ≤ c) → length (join_from k i f) ≤ c * k
unfolding join_from
joined_most zero i c f h = omega arith
joined_most (suc k) i c f h =
    simp length-append (omega (arith, h i (omega arith), joined_most k (suc i) c f (λ j b. h j (omega arith)), mul-suc c k))

-- ---- zeros behind the text
drop_zeros : (n m : ℕ) → drop {A = ℕ} n (replicate m 0) ≡ replicate (m - n) 0
drop_zeros zero m = let e : m ≡ m - 0 = omega arith in ap (λ (k : ℕ). replicate {A = ℕ} k 0) e
drop_zeros (suc n) zero = let e : 0 ≡ 0 - suc n = omega arith in ap (λ (k : ℕ). replicate {A = ℕ} k 0) e
drop_zeros (suc n) (suc m) = let e : m - n ≡ suc m - suc n = omega arith in drop_zeros n m ∙ ap (λ (k : ℕ). replicate {A = ℕ} k 0) e

pub zeros_behind : (m : ℕ) (l : List ℕ) → length l ≤ m → laid (replicate m 0) 0 l ≡ l ++ replicate (m - length l) 0
zeros_behind m l h = laid_front (replicate m 0) l (omega (arith, length-replicate {A = ℕ} m 0)) ∙ ap (λ (x : List ℕ). l ++ x) (drop_zeros (length l) m)
