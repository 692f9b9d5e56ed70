-- Laws of `laid`: its length, its byte at each place, one list after another, laying from the front.
use mathlib.Core.Path.{◌≡◌, refl, sym, ap, ap₂, ◌∙◌}
use mathlib.Core.Bool.{Bool, true, false}
use mathlib.Core.List.{List, [], ◌∷◌, ◌++◌}
use Prim.Native.Nat.{ℕ, ◌+◌, ◌-◌, ◌^◌, ◌≤◌, ◌<◌, min}
use native.Mathlib.Omega.{arith}
use native.Mathlib.Nat.{sub-zero}
use native.Mathlib.Numerals.{add-one}
use lib.Dec.{ltb}
use lib.ListN.{length, get_or, take, drop, set, length-append, length-take, length-drop, length-set, get_or-append}
use lib.Seq.{ext_get_or, get_or-append-add, get_or-take, get_or-drop, get_or-set_same, get_or-set_other, take-suc}
use borrow.Author.Tests.{ltb-true, ltb-false, lt-ltb, le-ltb, le-leb, lt-leb}
use Rattle.std.proofs.lemmas.List.{get_or_append_left, get_or-append_right}
use Rattle.graph.specs.Words.{pick}
use Rattle.graph.proofs.Facts.{length_row, row_at}
use Rattle.text.specs.Laid.{within, laid}

-- ---- before the n places from `at` on, in them, after them
pub data Where (at n k : ℕ) : Type 0 where
  before : k < at → Where at n k
  inside : at ≤ k → k < at + n → Where at n k
  after : at + n ≤ k → Where at n k

pub where_is : (at n k : ℕ) → Where at n k
where_is at n k = go (ltb k at) refl
  where
    there : (b : Bool) → at ≤ k → ltb k (at + n) ≡ b → Where at n k
    there true h e = inside h (ltb-true k (at + n) e)
    there false h e = after (ltb-false k (at + n) e)

    go : (b : Bool) → ltb k at ≡ b → Where at n k
    go true e = before (ltb-true k at e)
    go false e = there (ltb k (at + n)) (ltb-false k at e) refl

within_before : (at n k : ℕ) → k < at → within at n k ≡ false
unfolding within
within_before at n k h = rw (lt-leb at k h)

within_inside : (at n k : ℕ) → at ≤ k → k < at + n → within at n k ≡ true
unfolding within
within_inside at n k h i = rw (le-leb at k h, lt-ltb k (at + n) i)

within_after : (at n k : ℕ) → at + n ≤ k → within at n k ≡ false
unfolding within
within_after at n k h = let i : at ≤ k = omega arith in rw (le-leb at k i, le-ltb k (at + n) h)

-- ---- its length, and its byte at each place
pub length_laid : (buf : List ℕ) (at : ℕ) (l : List ℕ) → length (laid buf at l) ≡ length buf
unfolding laid
length_laid buf at l = length_row (length buf) _

pub laid_at : (buf : List ℕ) (at : ℕ) (l : List ℕ) (k : ℕ) → k < length buf
    → get_or (laid buf at l) k 0 ≡ pick (within at (length l) k) (get_or l (k - at) 0) (get_or buf k 0)
unfolding laid
laid_at buf at l k h = row_at (length buf) _ k 0 h

module _ (buf : List ℕ) (at : ℕ) (l : List ℕ) (k : ℕ) (h : k < length buf) where
  -- what stood before it stays
  pub laid_before : k < at → get_or (laid buf at l) k 0 ≡ get_or buf k 0
  laid_before i = laid_at buf at l k h ∙ rw (within_before at (length l) k i)

  pub laid_inside : at ≤ k → k < at + length l → get_or (laid buf at l) k 0 ≡ get_or l (k - at) 0
  laid_inside i j = laid_at buf at l k h ∙ rw (within_inside at (length l) k i j)

  -- and what stands after it
  pub laid_after : at + length l ≤ k → get_or (laid buf at l) k 0 ≡ get_or buf k 0
  laid_after i = laid_at buf at l k h ∙ rw (within_after at (length l) k i)

-- two buffers as long as the first are the same where every place is
same_bytes : (buf x y : List ℕ) → length x ≡ length buf → length y ≡ length buf
    → ((k : ℕ) → k < length buf → get_or x k 0 ≡ get_or y k 0) → x ≡ y
same_bytes buf x y e f h = ext_get_or 0 x y (e ∙ sym f) (λ k i. h k (omega arith))

-- ---- nothing laid; one list after another
pub laid_none : (buf : List ℕ) (at : ℕ) → laid buf at [] ≡ buf
laid_none buf at = same_bytes buf (laid buf at []) buf (length_laid buf at []) refl (λ k h. go k h (where_is at 0 k))
  where
    go : (k : ℕ) → k < length buf → Where at 0 k → get_or (laid buf at []) k 0 ≡ get_or buf k 0
    go k h (before i) = laid_before buf at [] k h i
    go k h (inside i j) = absurd (omega arith)
    go k h (after i) = laid_after buf at [] k h i

pub laid_then : (buf : List ℕ) (at : ℕ) (l m : List ℕ) → laid (laid buf at l) (at + length l) m ≡ laid buf at (l ++ m)
laid_then buf at l m = same_bytes buf (laid one (at + length l) m) (laid buf at (l ++ m)) (length_laid one (at + length l) m ∙ length_laid buf at l)
    (length_laid buf at (l ++ m)) (λ k h. go k h (where_is at (length l) k) (where_is (at + length l) (length m) k))
  where
    one : List ℕ
    one = laid buf at l

    long : length one ≡ length buf
    long = length_laid buf at l

    sum : length (l ++ m) ≡ length l + length m
    sum = length-append l m

    go : (k : ℕ) → k < length buf → Where at (length l) k → Where (at + length l) (length m) k
        → get_or (laid one (at + length l) m) k 0 ≡ get_or (laid buf at (l ++ m)) k 0
    go k h (before i) w = laid_before one (at + length l) m k (omega (arith, long)) (omega arith) ∙ laid_before buf at l k h i ∙ sym (laid_before buf at (l ++ m) k h i)
    go k h (inside i j) w =
        laid_before one (at + length l) m k (omega (arith, long)) j ∙ laid_inside buf at l k h i j ∙ sym (get_or-append l m 0 (k - at) (omega arith))
        ∙ sym (laid_inside buf at (l ++ m) k h i (omega (arith, sum)))
    go k h (after i) (before j) = absurd (omega arith)
    go k h (after i) (inside j n) =
        let e : length l + (k - (at + length l)) ≡ k - at = omega arith in
        laid_inside one (at + length l) m k (omega (arith, long)) j n ∙ sym (get_or-append-add l m (k - (at + length l)) 0) ∙ ap (λ (p : ℕ). get_or (l ++ m) p 0) e
        ∙ sym (laid_inside buf at (l ++ m) k h (omega arith) (omega (arith, sum)))
    go k h (after i) (after j) =
        laid_after one (at + length l) m k (omega (arith, long)) j ∙ laid_after buf at l k h i ∙ sym (laid_after buf at (l ++ m) k h (omega (arith, sum)))

-- ---- cut off
-- where nothing of it falls inside the buffer, nothing changes
pub laid_outside : (buf : List ℕ) (at : ℕ) (l : List ℕ) → length buf ≤ at → laid buf at l ≡ buf
laid_outside buf at l o = same_bytes buf (laid buf at l) buf (length_laid buf at l) refl (λ k h. laid_before buf at l k h (omega arith))

-- what would fall outside may be left out
pub laid_cut : (buf : List ℕ) (at n : ℕ) (l : List ℕ) → length buf ≤ at + n → laid buf at (take n l) ≡ laid buf at l
laid_cut buf at n l o = same_bytes buf (laid buf at (take n l)) (laid buf at l) (length_laid buf at (take n l)) (length_laid buf at l)
    (λ k h. go k h (where_is at (length l) k))
  where
    short : length (take n l) ≡ min n (length l)
    short = length-take n l

    go : (k : ℕ) → k < length buf → Where at (length l) k → get_or (laid buf at (take n l)) k 0 ≡ get_or (laid buf at l) k 0
    go k h (before i) = laid_before buf at (take n l) k h i ∙ sym (laid_before buf at l k h i)
    go k h (inside i j) =
        laid_inside buf at (take n l) k h i (omega (arith, short)) ∙ get_or-take n l (k - at) 0 (omega arith) ∙ sym (laid_inside buf at l k h i j)
    go k h (after i) = laid_after buf at (take n l) k h (omega (arith, short)) ∙ sym (laid_after buf at l k h i)

-- ---- one byte
pub laid_one : (buf : List ℕ) (at b : ℕ) → at < length buf → laid buf at (b ∷ []) ≡ set buf at b
laid_one buf at b o = same_bytes buf (laid buf at (b ∷ [])) (set buf at b) (length_laid buf at (b ∷ [])) (length-set buf at b)
    (λ k h. go k h (where_is at 1 k))
  where
    go : (k : ℕ) → k < length buf → Where at 1 k → get_or (laid buf at (b ∷ [])) k 0 ≡ get_or (set buf at b) k 0
    go k h (before i) = laid_before buf at (b ∷ []) k h i ∙ sym (get_or-set_other buf at k b 0 (λ e. omega arith))
    go k h (inside i j) =
        let e : k ≡ at = omega arith in
        let z : k - at ≡ 0 = omega arith in
        laid_inside buf at (b ∷ []) k h i j ∙ ap (λ (p : ℕ). get_or (b ∷ []) p 0) z ∙ sym (get_or-set_same buf at b 0 o) ∙ sym (ap (λ (p : ℕ). get_or (set buf at b) p 0) e)
    go k h (after i) = laid_after buf at (b ∷ []) k h i ∙ sym (get_or-set_other buf at k b 0 (λ e. omega arith))

-- ---- byte by byte: the first i of a list are laid, then i + 1
pub laid_more : (buf : List ℕ) (at : ℕ) (l : List ℕ) (i : ℕ) → i < length l → at + i < length buf
    → set (laid buf at (take i l)) (at + i) (get_or l i 0) ≡ laid buf at (take (i + 1) l)
laid_more buf at l i h o =
    let e : i ≡ length (take i l) = omega (arith, length-take i l) in
    sym (laid_one (laid buf at (take i l)) (at + i) (get_or l i 0) (omega (arith, length_laid buf at (take i l))))
    ∙ ap (λ (k : ℕ). laid (laid buf at (take i l)) (at + k) (get_or l i 0 ∷ [])) e ∙ laid_then buf at (take i l) (get_or l i 0 ∷ [])
    ∙ ap (laid buf at) (sym (take-suc l i 0 h)) ∙ ap (λ (k : ℕ). laid buf at (take k l)) (sym (add-one i))

-- ---- a byte, then a list from the next place on: where that place would be no number of 64 bits, nothing of either falls inside
pub one_then : (buf : List ℕ) (at b next : ℕ) (l mid : List ℕ) → mid ≡ laid buf at (b ∷ []) → next ≡ min (at + 1) (2 ^ 64 - 1) → length buf < 2 ^ 64
    → laid mid next l ≡ laid buf at (b ∷ l)
one_then buf at b next l mid e f h = go (ltb (at + 1) (2 ^ 64)) refl
  where
    go : (t : Bool) → ltb (at + 1) (2 ^ 64) ≡ t → laid mid next l ≡ laid buf at (b ∷ l)
    go true g =
        let i = ltb-true (at + 1) (2 ^ 64) g in
        let n : next ≡ at + 1 = omega arith in
        ap₂ (λ (x : List ℕ) (k : ℕ). laid x k l) e n ∙ laid_then buf at (b ∷ []) l
    go false g =
        let i = ltb-false (at + 1) (2 ^ 64) g in
        let o : length buf ≤ at = omega arith in
        laid_outside mid next l (omega (arith, ap length e, length_laid buf at (b ∷ []))) ∙ e ∙ laid_outside buf at (b ∷ []) o ∙ sym (laid_outside buf at (b ∷ l) o)

-- ---- as the code lays it: what fits of the list stands between what stood before it and what stands after
pub laid_mid : (buf : List ℕ) (at : ℕ) (l : List ℕ) (from n : ℕ) → from ≡ min at (length buf) → n ≡ min (length l) (length buf - from)
    → take from buf ++ (take n l ++ drop n (drop from buf)) ≡ laid buf at l
laid_mid buf at l from n e f = same_bytes buf (take from buf ++ (take n l ++ drop n (drop from buf))) (laid buf at l) long (length_laid buf at l)
    (λ k h. go k h (where_is at (length l) k))
  where
    front : length (take from buf) ≡ from
    front = omega (arith, length-take from buf)

    mid : length (take n l) ≡ n
    mid = omega (arith, length-take n l)

    long : length (take from buf ++ (take n l ++ drop n (drop from buf))) ≡ length buf
    long = simp (length-append, length-drop) (omega (arith, front, mid))

    go : (k : ℕ) → k < length buf → Where at (length l) k → get_or (take from buf ++ (take n l ++ drop n (drop from buf))) k 0 ≡ get_or (laid buf at l) k 0
    go k h (before i) =
        get_or_append_left (take from buf) _ 0 k (omega (arith, front)) ∙ get_or-take from buf k 0 (omega arith) ∙ sym (laid_before buf at l k h i)
    go k h (inside i j) =
        get_or-append_right (take from buf) _ from k 0 front (omega arith) ∙ get_or_append_left (take n l) _ 0 (k - from) (omega (arith, mid))
        ∙ get_or-take n l (k - from) 0 (omega arith) ∙ ap (λ (p : ℕ). get_or l p 0) (omega arith) ∙ sym (laid_inside buf at l k h i j)
    go k h (after i) =
        get_or-append_right (take from buf) _ from k 0 front (omega arith) ∙ get_or-append_right (take n l) _ n (k - from) 0 mid (omega arith)
        ∙ get_or-drop n (drop from buf) (k - from - n) 0 ∙ get_or-drop from buf (n + (k - from - n)) 0 ∙ ap (λ (p : ℕ). get_or buf p 0) (omega arith)
        ∙ sym (laid_after buf at l k h i)

-- ---- from the front: the whole buffer, and what was laid
pub laid_front : (buf l : List ℕ) → length l ≤ length buf → laid buf 0 l ≡ l ++ drop (length l) buf
laid_front buf l o = same_bytes buf (laid buf 0 l) (l ++ drop (length l) buf) (length_laid buf 0 l)
    (length-append l (drop (length l) buf) ∙ long) (λ k h. go k h (where_is 0 (length l) k))
  where
    long : length l + length (drop (length l) buf) ≡ length buf
    long = omega (arith, length-drop (length l) buf)

    go : (k : ℕ) → k < length buf → Where 0 (length l) k → get_or (laid buf 0 l) k 0 ≡ get_or (l ++ drop (length l) buf) k 0
    go k h (before i) = absurd (omega arith)
    go k h (inside i j) = laid_inside buf 0 l k h i j ∙ ap (λ (p : ℕ). get_or l p 0) (sub-zero k) ∙ sym (get_or-append l (drop (length l) buf) 0 k (omega arith))
    go k h (after i) =
        let e : length l + (k - length l) ≡ k = omega arith in
        laid_after buf 0 l k h i ∙ sym (ap (λ (p : ℕ). get_or buf p 0) e) ∙ sym (get_or-drop (length l) buf (k - length l) 0)
        ∙ sym (get_or-append-add l (drop (length l) buf) (k - length l) 0) ∙ ap (λ (p : ℕ). get_or (l ++ drop (length l) buf) p 0) e
