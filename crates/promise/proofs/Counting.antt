-- HOW OFTEN A JOB STANDS IN A RUN LIST: as many times as vertices of it were chosen. So a tick takes that much off what remains of it. Which age place is
-- that of a job is told by its ticks left, since no two jobs of a task have the same.
use mathlib.Core.Path.{◌≡◌, refl, sym, ap, ◌∙◌}
use mathlib.Core.Bool.{Bool, true, false, ◌&&◌}
use mathlib.Core.List.{List, [], ◌∷◌}
use Prim.Native.Nat.{ℕ, zero, suc, ◌+◌, ◌*◌, ◌≤◌, ◌<◌}
use native.Mathlib.Omega.{arith}
use native.Mathlib.Decide.{ℕ_discrete, dec_lt}
use lib.ListN.{length, get_or}
use lib.Dec.{ltb, eqb}
use borrow.Author.Tests.{lt-ltb, le-ltb, eq-eqb, ne_eqb, eqb-true}
use Rattle.graph.specs.Words.{pick, row, sum, is_in, Distinct, flag}
use Rattle.graph.proofs.Facts.{clash, both_true, and_true, off_when, row_at, sum_first, sum_same, sum_none, sum_set, first_in, other_in}
use Rattle.table.specs.declared.Table.{Table}
use Rattle.table.specs.Memory.{D}
use Rattle.machine.specs.declared.State.{State}
use Rattle.machine.specs.declared.Triple.{Triple}
use Rattle.machine.specs.States.{live, remaining, left}
use Rattle.machine.specs.Steps.{task_in, age_in, vertex_in, run_of, worked, Legal}
use Rattle.machine.specs.Ticking.{nobody, triple_of, run_list}
use Rattle.machine.proofs.Index.{name_task, name_age, name_vertex, name_of, vertex_below}
use Rattle.machine.proofs.Working.{run_off}
use Rattle.machine.proofs.Standing.{available_is}
use Rattle.promise.specs.Account.{times_in, is_job, times_of}
use Rattle.promise.proofs.Count.{chosen_available, at_most}

flag_true : flag true ≡ 1
unfolding flag
flag_true = refl

flag_false : flag false ≡ 0
unfolding flag
flag_false = refl

-- ---- in a list of chosen vertices
of_job : ℕ → ℕ → List ℕ → ℕ
of_job i p [] = 0
of_job i p (k ∷ l) = flag (eqb (task_in k) i && eqb (age_in k) p) + of_job i p l

-- what stands at place j of its run list
entry : List ℕ → ℕ → Triple
entry l j = pick (ltb j (length l)) (triple_of (get_or l j 0)) nobody

is_of : ℕ → ℕ → Triple → Bool
is_of i p x = eqb x.task i && eqb x.age p

entry_first : (k : ℕ) (l : List ℕ) → entry (k ∷ l) 0 ≡ triple_of k
unfolding entry
entry_first k l = ap (λ (q : Bool). pick q (triple_of k) nobody) (lt-ltb 0 (suc (length l)) (omega arith))

entry_next : (k : ℕ) (l : List ℕ) (j : ℕ) → entry (k ∷ l) (suc j) ≡ entry l j
unfolding entry
entry_next k l j = ap (λ (q : Bool). pick q (triple_of (get_or l j 0)) nobody) (shift (dec_lt j (length l)))
  where
    shift : Dec (j < length l) → ltb (suc j) (suc (length l)) ≡ ltb j (length l)
    shift (yes q) = lt-ltb (suc j) (suc (length l)) (omega arith) ∙ sym (lt-ltb j (length l) q)
    shift (no q) = le-ltb (suc j) (suc (length l)) (omega arith) ∙ sym (le-ltb j (length l) (omega arith))

is_nobody : (i p : ℕ) → i < 16 → is_of i p nobody ≡ false
unfolding is_of nobody
is_nobody i p h = ap (λ (q : Bool). q && eqb 255 p) (ne_eqb 255 i (λ e. absurd (omega arith)))

entry_past : (j : ℕ) → entry [] j ≡ nobody
unfolding entry
entry_past j = let e : ltb j 0 ≡ false = le-ltb j 0 (omega arith) in ap (λ (q : Bool). pick q (triple_of (get_or [] j 0)) nobody) e

is_triple : (i p k : ℕ) → is_of i p (triple_of k) ≡ (eqb (task_in k) i && eqb (age_in k) p)
unfolding is_of triple_of
is_triple i p k = refl

entries : (n i p : ℕ) (l : List ℕ) → i < 16 → length l ≤ n → sum n (λ j. flag (is_of i p (entry l j))) ≡ of_job i p l
unfolding of_job
entries n i p [] h b = sum_none n _ (λ j c. ap (λ (x : Triple). flag (is_of i p x)) (entry_past j) ∙ ap flag (is_nobody i p h) ∙ flag_false)
entries zero i p (k ∷ l) h b = absurd (omega arith)
entries (suc n) i p (k ∷ l) h b =
    let f = sum_first n (λ j. flag (is_of i p (entry (k ∷ l) j))) in
    let a : flag (is_of i p (entry (k ∷ l) 0)) ≡ flag (is_of i p (triple_of k)) = ap (λ (x : Triple). flag (is_of i p x)) (entry_first k l) in
    let g : sum n (λ j. flag (is_of i p (entry (k ∷ l) (suc j)))) ≡ sum n (λ j. flag (is_of i p (entry l j))) =
    sum_same n _ _ (λ j c. ap (λ (x : Triple). flag (is_of i p x)) (entry_next k l j)) in
    let r = entries n i p l h (omega arith) in
    let s = ap flag (is_triple i p k) in
    f ∙ omega arith

-- ---- by vertex
empty : (x : ℕ) → is_in x [] ≡ false
unfolding is_in
empty x = refl

by_vertex : (i p : ℕ) → p < 4 → (l : List ℕ) → Distinct l → of_job i p l ≡ sum 16 (λ u. flag (is_in (64 * i + 16 * p + u) l))
unfolding of_job Distinct
by_vertex i p m [] d = sym (sum_none 16 _ (λ u b. ap flag (empty (64 * i + 16 * p + u)) ∙ flag_false))
by_vertex i p m (k ∷ l) d = go (eqb (task_in k) i && eqb (age_in k) p) refl (by_vertex i p m l d.1)
  where
    go : (c : Bool) → eqb (task_in k) i && eqb (age_in k) p ≡ c → of_job i p l ≡ sum 16 (λ u. flag (is_in (64 * i + 16 * p + u) l))
        → flag c + of_job i p l ≡ sum 16 (λ u. flag (is_in (64 * i + 16 * p + u) (k ∷ l)))
    go true e h =
        let r = both_true (eqb (task_in k) i) (eqb (age_in k) p) e in
        let e₁ = eqb-true (task_in k) i r.0 in
        let e₂ = eqb-true (age_in k) p r.1 in
        let u : ℕ = vertex_in k in
        let v = vertex_below k in
        let n = name_of k in
        let q : 64 * i + 16 * p + u ≡ k = omega arith in
        let a : flag (is_in (64 * i + 16 * p + u) (k ∷ l)) ≡ 1 = ap (λ (x : ℕ). flag (is_in x (k ∷ l))) q ∙ ap flag (first_in k l) ∙ flag_true in
        let b : flag (is_in (64 * i + 16 * p + u) l) ≡ 0 = ap (λ (x : ℕ). flag (is_in x l)) q ∙ ap flag d.0 ∙ flag_false in
        let s = sum_set 16 (λ u. flag (is_in (64 * i + 16 * p + u) l)) (λ u. flag (is_in (64 * i + 16 * p + u) (k ∷ l))) 1 u (omega arith)
        (λ w z. ap flag (other_in (64 * i + 16 * p + w) k l (λ y. z (omega arith)))) (omega arith) in
        let f = flag_true in
        omega arith
    go false e h =
        let f = flag_false in
        let s = cut in
        omega arith
      where
        its : (u : ℕ) → u < 16 → 64 * i + 16 * p + u ≡ k → eqb (task_in k) i && eqb (age_in k) p ≡ true
        its u b y = and_true _ _
            (eq-eqb (task_in k) i (sym (ap task_in y) ∙ name_task i p u m b))
            (eq-eqb (age_in k) p (sym (ap age_in y) ∙ name_age i p u m b))

        cut : sum 16 (λ u. flag (is_in (64 * i + 16 * p + u) (k ∷ l))) ≡ sum 16 (λ u. flag (is_in (64 * i + 16 * p + u) l))
        cut = sum_same 16 _ _ (λ u b. ap flag (other_in (64 * i + 16 * p + u) k l (λ y. clash (its u b y) e)))

pub times_is : (i p : ℕ) (chosen : List ℕ) → i < 16 → p < 4 → length chosen ≤ 8 → Distinct chosen
    → times_in i p (run_list chosen) ≡ sum 16 (λ u. flag (is_in (64 * i + 16 * p + u) chosen))
unfolding times_in run_list is_of entry
times_is i p chosen h m b d =
    sum_same 8 _ _ (λ j c. ap (λ (x : Triple). flag (is_of i p x)) (row_at 8 _ j nobody c)) ∙ entries 8 i p chosen h b ∙ by_vertex i p m chosen d

-- none stands in the run list of a refused tick
pub times_none : (i p : ℕ) → i < 16 → times_in i p (row 8 (λ j. nobody)) ≡ 0
unfolding times_in is_of
times_none i p h = sum_none 8 _ (λ j c. ap (λ (x : Triple). flag (is_of i p x)) (row_at 8 _ j nobody c) ∙ ap flag (is_nobody i p h) ∙ flag_false)

-- ---- what remained within a tick is what remains after step 4 and what ran
module _ (t : Table) (mid : State) (named : ℕ) (chosen : List ℕ) (few : t.m ≤ 8) (legal : Legal t mid chosen)
    (i : ℕ) (b : i < 16) (p : ℕ) (h : p < 4) where
  -- of what was chosen something remained
  some : (u : ℕ) → u < 16 → is_in (64 * i + 16 * p + u) chosen ≡ true → 1 ≤ remaining mid i p u
  some u l e =
      let a = available_is t mid (64 * i + 16 * p + u) (chosen_available t mid chosen legal (64 * i + 16 * p + u) e).1 in
      rw (name_task i p u h l, name_age i p u h l, name_vertex i p u h l) at a.some

  one : (c : Bool) (r : ℕ) → (c ≡ true → 1 ≤ r) → flag (c && ltb 0 r) ≡ flag c
  one true r s = ap flag (lt-ltb 0 r (s refl))
  one false r s = refl

  pub split : sum 16 (remaining (worked t mid named chosen) i p) + times_in i p (run_list chosen) ≡ sum 16 (remaining mid i p)
  unfolding run_of
  split =
      let l : length chosen ≤ 8 = let a = at_most t mid chosen legal in omega arith in
      let z = times_is i p chosen b h l legal.distinct in
      let y = sum_same 16 (λ u. flag (is_in (64 * i + 16 * p + u) chosen && ltb 0 (remaining mid i p u))) (λ u. flag (is_in (64 * i + 16 * p + u) chosen))
      (λ u l. one (is_in (64 * i + 16 * p + u) chosen) (remaining mid i p u) (some u l)) in
      let r = run_off t mid named chosen i p b h in
      omega arith

-- ---- at which place
sum_one : (n : ℕ) (f : ℕ → ℕ) (p : ℕ) → p < n → ((q : ℕ) → q < n → (q ≡ p → ⊥) → f q ≡ 0) → sum n f ≡ f p
unfolding sum
sum_one zero f p h z = absurd (omega arith)
sum_one (suc n) f p h z = elim (ℕ_discrete p n) [
  | yes e ↦ let r = sum_none n f (λ q b. z q (omega arith) (λ k. omega arith)) in let y = ap f e in omega arith
  | no e ↦ let r = sum_one n f p (omega arith) (λ q b k. z q (omega arith) k) in let y = z n (omega arith) (λ k. e (sym k)) in omega arith
]

-- the job stands at place p within the tick, and no other of its task has its ticks left
pub times_at : (t : Table) (mid : State) (ran : List Triple) (i a z p : ℕ) → p < 4 → live mid i p ≡ true → left mid i p + z ≡ a + D t i
    → ((q : ℕ) → q < 4 → live mid i q ≡ true → left mid i q ≡ left mid i p → q ≡ p)
    → times_of t mid ran i a z ≡ times_in i p ran
unfolding times_of is_job
times_at t mid ran i a z p h l e alone =
    sum_one 4 (λ q. pick (live mid i q && eqb (left mid i q + z) (a + D t i)) (times_in i q ran) 0) p h
    (λ q b n. ap (λ (c : Bool). pick c (times_in i q ran) 0) (off_when _ (λ y.
    let r = both_true (live mid i q) (eqb (left mid i q + z) (a + D t i)) y in
    let k = eqb-true (left mid i q + z) (a + D t i) r.1 in
    n (alone q b r.0 (omega arith)))))
    ∙ ap (λ (c : Bool). pick c (times_in i p ran) 0) (and_true _ _ l (eq-eqb (left mid i p + z) (a + D t i) e))

pub times_of_none : (t : Table) (mid : State) (i a z : ℕ) → i < 16 → times_of t mid (row 8 (λ j. nobody)) i a z ≡ 0
unfolding times_of
times_of_none t mid i a z h = sum_none 4 _ (λ p b. zero_of (is_job t mid i a z p) (times_in i p (row 8 (λ j. nobody))) (times_none i p h))
  where
    zero_of : (c : Bool) (x : ℕ) → x ≡ 0 → pick c x 0 ≡ 0
    zero_of true x e = e
    zero_of false x e = refl
