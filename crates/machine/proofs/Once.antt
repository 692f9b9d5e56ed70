-- A choice in memory: what it lists, and a list of which each number is taken once, one after the other.
use Rattle.std.proofs.Common.{◌≡◌, ℕ, suc, ◌+◌, ◌%◌, ◌<◌, ◌≤◌, min, Bool, true, false, eqb, List, [], ◌∷◌, ◌++◌, length, get_or, take, set, sym, refl, ap, ◌∙◌, subst, ap₂, mod-eq_of_lt, add-one, arith, length-set, length-take-le, take_all, get_or-set_other, get_or-take, take-suc, get_or-set_same, take-suc-set, ext_get_or, eq-eqb, ne_eqb}
use Rattle.std.specs.List.{list_any}
use native.Mathlib.Decide.{ℕ_discrete}
use Rattle.graph.specs.Words.{pick, row, is_in, Distinct}
use Rattle.graph.proofs.Facts.{clash, length_row, row_at, first_in, other_in}
use Rattle.machine.specs.Steps.{listed}

-- ---- what a choice lists, where its numbers are below 1,024: its first places as they are
pub listed_is : (n : ℕ) (keys : List ℕ) → length keys ≡ 8 → n ≤ 8 → ((j : ℕ) → j < n → get_or keys j 0 < 1024)
    → listed (record { keys = keys; count = n }) ≡ take n keys
listed_is n keys e h small =
    let m : min n 8 ≡ n = omega arith in
    let l = length-take-le n keys (omega arith) in
    ap (λ (k : ℕ). row k (λ j. get_or keys j 0 % 1024)) m
    ∙ ext_get_or 0 (row n (λ j. get_or keys j 0 % 1024)) (take n keys) (length_row n _ ∙ sym l) (λ j b.
    let c : j < n = omega (arith, length_row n (λ j. get_or keys j 0 % 1024)) in
    row_at n (λ j. get_or keys j 0 % 1024) j 0 c ∙ mod-eq_of_lt (small j c) ∙ sym (get_or-take n keys j 0 c))

-- one more place
pub small_set : (n : ℕ) (keys : List ℕ) (x : ℕ) → n < length keys → x < 1024 → ((j : ℕ) → j < n → get_or keys j 0 < 1024) → (j : ℕ) → j < n + 1 → get_or (set keys n x) j 0 < 1024
small_set n keys x b h small j l = elim (ℕ_discrete j n) [
  | yes e ↦ let z = ap (λ (i : ℕ). get_or (set keys n x) i 0) e ∙ get_or-set_same keys n x 0 b in omega arith
  | no d ↦ let z = get_or-set_other keys n j x 0 d in omega (arith, small j (omega arith))
]

-- ---- a search in std's words
pub any_is_in : (k : ℕ) (l : List ℕ) → list_any (λ y. eqb y k) l ≡ is_in k l
unfolding is_in
any_is_in k [] = refl
any_is_in k (y ∷ l) = elim (ℕ_discrete y k) [
  | yes e ↦ rw (eq-eqb y k e, eq-eqb k y (sym e)) refl
  | no d ↦ rw (ne_eqb y k d, ne_eqb k y (λ e. d (sym e))) (any_is_in k l)
]

-- ---- one more at the end
in_end : (x k : ℕ) (l : List ℕ) → is_in x (l ++ (k ∷ [])) ≡ pick (eqb x k) true (is_in x l)
unfolding is_in
in_end x k [] = refl
in_end x k (y ∷ l) = ap (pick (eqb x y) true) (in_end x k l) ∙ go (eqb x y) (eqb x k)
  where
    go : (a b : Bool) → pick a true (pick b true (is_in x l)) ≡ pick b true (pick a true (is_in x l))
    go true true = refl
    go true false = refl
    go false true = refl
    go false false = refl

distinct_end : (k : ℕ) (l : List ℕ) → Distinct l → is_in k l ≡ false → Distinct (l ++ (k ∷ []))
unfolding is_in Distinct
distinct_end k [] d e = (refl, tt)
distinct_end k (y ∷ l) d e =
    let n : k ≡ y → ⊥ = λ q. clash (ap (λ (z : ℕ). is_in z (y ∷ l)) q ∙ first_in y l) e in (
      in_end y k l ∙ ap₂ (λ (a b : Bool). pick a true b) (ne_eqb y k (λ q. n (sym q))) d.0,
      distinct_end k l d.1 (sym (other_in k y l n) ∙ e),
    )

-- `keys` holds, in its first n places, those of the first j of `given`, none of them twice
pub record Once (given : List ℕ) (j : ℕ) (keys : List ℕ) (n : ℕ) : Type 0 where
  pub room : n ≤ j
  pub size : length keys ≡ 8
  pub small : (i : ℕ) → i < n → get_or keys i 0 < 1024
  pub distinct : Distinct (take n keys)
  pub same : (k : ℕ) → is_in k (take n keys) ≡ is_in k (take j given)

pub once_none : (given keys : List ℕ) → length keys ≡ 8 → Once given 0 keys 0
unfolding Distinct
once_none given keys e = record { room = omega arith; size = e; small = λ i b. absurd (omega arith); distinct = tt; same = λ k. refl }

module _ (given : List ℕ) (j : ℕ) (keys : List ℕ) (n : ℕ) (r : Once given j keys n) (x : ℕ) (b : j < length given) (e : x ≡ get_or given j 0) where
  further : (k : ℕ) → is_in k (take (suc j) given) ≡ pick (eqb k x) true (is_in k (take n keys))
  further k =
      ap (is_in k) (take-suc given j 0 b ∙ ap (λ (y : ℕ). take j given ++ (y ∷ [])) (sym e))
      ∙ in_end k x (take j given)
      ∙ ap (pick (eqb k x) true) (sym (r.same k))

  pub once_new : n < 8 → x < 1024 → is_in x (take n keys) ≡ false → Once given (j + 1) (set keys n x) (n + 1)
  once_new h low q =
      let s : take (suc n) (set keys n x) ≡ take n keys ++ (x ∷ []) = take-suc-set keys n x (omega (arith, r.size)) in
      let t : take (n + 1) (set keys n x) ≡ take n keys ++ (x ∷ []) = ap (λ (i : ℕ). take i (set keys n x)) (add-one n) ∙ s in
      record {
        room = let z = r.room in omega arith;
        size = length-set keys n x ∙ r.size;
        small = small_set n keys x (omega (arith, r.size)) low r.small;
        distinct = subst Distinct (sym t) (distinct_end x (take n keys) r.distinct q);
        same = λ k. ap (is_in k) t ∙ in_end k x (take n keys) ∙ sym (further k) ∙ ap (λ (i : ℕ). is_in k (take i given)) (sym (add-one j));
      }

  pub once_again : is_in x (take n keys) ≡ true → Once given (j + 1) keys n
  once_again q =
      record {
        room = let z = r.room in omega arith;
        size = r.size;
        small = r.small;
        distinct = r.distinct;
        same = λ k. sym (further k ∙ go k) ∙ ap (λ (i : ℕ). is_in k (take i given)) (sym (add-one j));
      }
    where
      go : (k : ℕ) → pick (eqb k x) true (is_in k (take n keys)) ≡ is_in k (take n keys)
      go k = elim (ℕ_discrete k x) [
        | yes z ↦ ap (λ (c : Bool). pick c true (is_in k (take n keys))) (eq-eqb k x z) ∙ sym (ap (λ (y : ℕ). is_in y (take n keys)) z ∙ q)
        | no z ↦ ap (λ (c : Bool). pick c true (is_in k (take n keys))) (ne_eqb k x z)
      ]

-- all were taken
pub once_all : (given : List ℕ) (j : ℕ) (keys : List ℕ) (n : ℕ) → Once given j keys n → j ≤ 8 → length given ≤ j
    → Distinct (listed (record { keys = keys; count = n })) × ((k : ℕ) → is_in k (listed (record { keys = keys; count = n })) ≡ is_in k given)
once_all given j keys n r h l =
    let e = listed_is n keys r.size (let z = r.room in omega arith) r.small in
    (subst Distinct (sym e) r.distinct, λ k. ap (is_in k) e ∙ r.same k ∙ ap (is_in k) (take_all j given l))
