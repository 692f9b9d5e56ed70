-- One tick less for each vertex of a list, by its place in the four rows, one after the other: what is left to do from here gives what all of it gives
-- from the start.
use Rattle.std.proofs.Common.{◌≡◌, ℕ, zero, suc, ◌+◌, ◌-◌, ◌<◌, Bool, true, false, List, [], ◌∷◌, length, get_or, drop, set, sym, refl, ap, ◌∙◌, subst, add-one, arith, length-set, drop-cons, get_or-set_other, get_or-set_same, ext_get_or}
use native.Mathlib.Decide.{ℕ_discrete}
use lib.Seq.{drop-length}
use Rattle.graph.specs.Words.{pick, row, is_in, Distinct}
use Rattle.graph.proofs.Facts.{clash, length_row, row_at, first_in, other_in, tail_in}

put_back : (l : List ℕ) (x : ℕ) → set l x (get_or l x 0) ≡ l
put_back l x = ext_get_or 0 (set l x (get_or l x 0)) l (length-set l x (get_or l x 0)) (λ k b. elim (ℕ_discrete k x) [
  | yes e ↦ ap (λ (j : ℕ). get_or (set l x (get_or l x 0)) j 0) e ∙ get_or-set_same l x (get_or l x 0) 0 (let z = length-set l x (get_or l x 0) in omega arith) ∙ ap (λ (j : ℕ). get_or l j 0) (sym e)
  | no d ↦ get_or-set_other l x k (get_or l x 0) 0 d
])

-- what remains at place k once each of the list has run: one tick less than before
unfoldable pub less_in : List ℕ → List ℕ → List ℕ → ℕ → ℕ
less_in l before now k = pick (is_in k l) (get_or before k 0 - 1) (get_or now k 0)

less_none : (before now : List ℕ) (k : ℕ) → less_in [] before now k ≡ get_or now k 0
unfolding less_in is_in
less_none before now k = refl

module _ (x : ℕ) (l before now : List ℕ) (b : x < length now) where
  less_one : (k : ℕ) → less_in l before (set now x (get_or before x 0 - 1)) k ≡ less_in (x ∷ l) before now k
  unfolding less_in
  less_one k = elim (ℕ_discrete k x) [
    | yes e ↦ at k e
    | no d ↦
        ap (λ (y : ℕ). pick (is_in k l) (get_or before k 0 - 1) y) (get_or-set_other now x k (get_or before x 0 - 1) 0 d)
        ∙ ap (λ (c : Bool). pick c (get_or before k 0 - 1) (get_or now k 0)) (sym (other_in k x l d))
  ]
    where
      either : (c : Bool) (y : ℕ) → pick c y y ≡ y
      either true y = refl
      either false y = refl

      here : pick (is_in x l) (get_or before x 0 - 1) (get_or (set now x (get_or before x 0 - 1)) x 0) ≡ pick (is_in x (x ∷ l)) (get_or before x 0 - 1) (get_or now x 0)
      here =
          ap (λ (y : ℕ). pick (is_in x l) (get_or before x 0 - 1) y) (get_or-set_same now x (get_or before x 0 - 1) 0 b)
          ∙ either (is_in x l) (get_or before x 0 - 1)
          ∙ sym (ap (λ (c : Bool). pick c (get_or before x 0 - 1) (get_or now x 0)) (first_in x l))

      at : (k : ℕ) → k ≡ x → pick (is_in k l) (get_or before k 0 - 1) (get_or (set now x (get_or before x 0 - 1)) k 0) ≡ pick (is_in k (x ∷ l)) (get_or before k 0 - 1) (get_or now k 0)
      at k e = rw e here

-- the first j of the list have run
pub record RanTo (l before : List ℕ) (j : ℕ) (now : List ℕ) : Type 0 where
  pub size : length now ≡ 1024
  pub same : (k : ℕ) → less_in (drop j l) before now k ≡ less_in l before before k

pub ran_none : (l before : List ℕ) → length before ≡ 1024 → RanTo l before 0 before
ran_none l before e = record { size = e; same = λ k. refl }

module _ (l before : List ℕ) (j : ℕ) (now : List ℕ) (r : RanTo l before j now) where
  pub ran_one : (x y : ℕ) → j < length l → x ≡ get_or l j 0 → x < 1024 → y ≡ get_or before x 0 - 1 → RanTo l before (j + 1) (set now x y)
  ran_one x y b e small q =
      let s : drop j l ≡ x ∷ drop (suc j) l = drop-cons l j 0 b ∙ ap (λ (z : ℕ). z ∷ drop (suc j) l) (sym e) in
      rw add-one (record {
        size = length-set now x y ∙ r.size;
        same = λ k.
            ap (λ (z : ℕ). less_in (drop (suc j) l) before (set now x z) k) q
            ∙ less_one x (drop (suc j) l) before now (omega (arith, r.size)) k
            ∙ ap (λ (m : List ℕ). less_in m before now k) (sym s)
            ∙ r.same k;
      })

  -- a vertex of which nothing remains
  pub ran_skip : (x : ℕ) → j < length l → x ≡ get_or l j 0 → x < 1024 → get_or now x 0 ≡ 0 → get_or before x 0 ≡ 0 → RanTo l before (j + 1) now
  ran_skip x b e small z w = subst (RanTo l before (j + 1)) (ap (set now x) (sym z) ∙ put_back now x) (ran_one x 0 b e small (omega arith))

  pub ran_all : j ≡ length l → now ≡ row 1024 (less_in l before before)
  ran_all q =
      let e : drop j l ≡ [] = ap (λ (n : ℕ). drop n l) q ∙ drop-length l in
      ext_get_or 0 now (row 1024 (less_in l before before)) (r.size ∙ sym (length_row 1024 (less_in l before before)))
      (λ k b.
      let h : k < 1024 = omega (arith, r.size) in
      sym (less_none before now k) ∙ ap (λ (m : List ℕ). less_in m before now k) (sym e) ∙ r.same k ∙ sym (row_at 1024 (less_in l before before) k 0 h))

-- ---- a list in which none is twice: what is still to run is as it was
drop_distinct : (j : ℕ) (l : List ℕ) → Distinct l → Distinct (drop j l)
unfolding Distinct
drop_distinct zero l d = d
drop_distinct (suc j) [] d = d
drop_distinct (suc j) (x ∷ l) d = drop_distinct j l d.1

abbrev pub Untouched : List ℕ → List ℕ → ℕ → List ℕ → Type 0
Untouched l before j now = (k : ℕ) → is_in k (drop j l) ≡ true → get_or now k 0 ≡ get_or before k 0

module _ (l before : List ℕ) (once : Distinct l) (j : ℕ) (now : List ℕ) (r : Untouched l before j now) (x : ℕ) (b : j < length l) (e : x ≡ get_or l j 0) where
  parts : drop j l ≡ x ∷ drop (suc j) l
  parts = drop-cons l j 0 b ∙ ap (λ (z : ℕ). z ∷ drop (suc j) l) (sym e)

  pub next_untouched : get_or now x 0 ≡ get_or before x 0
  next_untouched = r x (ap (is_in x) parts ∙ first_in x (drop (suc j) l))

  pub not_again : is_in x (drop (suc j) l) ≡ false
  unfolding Distinct
  not_again = (subst Distinct parts (drop_distinct j l once)).0

  pub others_untouched : (y : ℕ) → Untouched l before (j + 1) (set now x y)
  others_untouched y k h =
      let g : is_in k (drop (suc j) l) ≡ true = sym (ap (λ (n : ℕ). is_in k (drop n l)) (add-one j)) ∙ h in
      let d : k ≡ x → ⊥ = λ q. clash g (ap (λ (z : ℕ). is_in z (drop (suc j) l)) q ∙ not_again) in
      get_or-set_other now x k y 0 d ∙ r k (ap (is_in k) parts ∙ tail_in k x (drop (suc j) l) g)

  pub all_untouched : Untouched l before (j + 1) now
  all_untouched = subst (Untouched l before (j + 1)) (put_back now x) (others_untouched (get_or now x 0))
