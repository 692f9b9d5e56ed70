-- One off a slot's work for each place of a list at which something remains, one after the other: what is left to do from here gives what all
-- of it gives from the start.
use Rattle.std.proofs.Common.{◌≡◌, ℕ, suc, ◌+◌, ◌-◌, ◌*◌, ◌/◌, ◌%◌, ◌<◌, Bool, true, false, ◌&&◌, ltb, List, [], ◌∷◌, length, get_or, drop, set, sym, refl, ap, ◌∙◌, ap₂, add-one, arith, length-set, drop-cons, get_or-set_other, get_or-set_same, ext_get_or, le-ltb, lt-ltb}
use native.Mathlib.Decide.{ℕ_discrete}
use lib.Seq.{drop-length}
use Rattle.graph.specs.Words.{flag, pick, row, sum, is_in, Distinct}
use Rattle.graph.proofs.Facts.{length_row, row_at, first_in, other_in, sum_same, sum_none, sum_set}
use Rattle.machine.proofs.Ran.{less_in, RanTo, ran_none, ran_one, ran_skip, ran_all, Untouched, next_untouched, not_again, others_untouched, all_untouched}

-- how many of slot i's vertices run, by the row of what remains
unfoldable pub run_in : List ℕ → List ℕ → ℕ → ℕ
run_in l rest i = sum 16 (λ u. flag (is_in (16 * i + u) l && ltb 0 (get_or rest (16 * i + u) 0)))

flags : (flag true ≡ 1) × (flag false ≡ 0)
unfolding flag
flags = (refl, refl)

and_off : (c : Bool) → (c && false) ≡ false
and_off true = refl
and_off false = refl

run_none : (rest : List ℕ) (i : ℕ) → run_in [] rest i ≡ 0
unfolding run_in is_in
run_none rest i = sum_none 16 _ (λ u h. flags.1)

module _ (x : ℕ) (l rest : List ℕ) (i : ℕ) where
  -- nothing remains of the first
  pub run_skip : get_or rest x 0 ≡ 0 → run_in (x ∷ l) rest i ≡ run_in l rest i
  unfolding run_in
  run_skip z = sum_same 16 _ _ (λ u h. at (16 * i + u))
    where
      at : (k : ℕ) → flag (is_in k (x ∷ l) && ltb 0 (get_or rest k 0)) ≡ flag (is_in k l && ltb 0 (get_or rest k 0))
      at k = elim (ℕ_discrete k x) [
        | yes e ↦
            let q : ltb 0 (get_or rest k 0) ≡ false = le-ltb 0 (get_or rest k 0) (let w = ap (λ (j : ℕ). get_or rest j 0) e in omega arith) in
            rw q (ap flag (and_off (is_in k (x ∷ l)) ∙ sym (and_off (is_in k l))))
        | no d ↦ ap (λ (c : Bool). flag (c && ltb 0 (get_or rest k 0))) (other_in k x l d)
      ]

  -- something does: it counts for its slot, and afterwards not again
  module _ (y : ℕ) (b : x < length rest) (s : 0 < get_or rest x 0) (once : is_in x l && ltb 0 y ≡ false) where
    elsewhere : (k : ℕ) → (k ≡ x → ⊥) → flag (is_in k (x ∷ l) && ltb 0 (get_or rest k 0)) ≡ flag (is_in k l && ltb 0 (get_or (set rest x y) k 0))
    elsewhere k d =
        ap (λ (c : Bool). flag (c && ltb 0 (get_or rest k 0))) (other_in k x l d)
        ∙ ap (λ (r : ℕ). flag (is_in k l && ltb 0 r)) (sym (get_or-set_other rest x k y 0 d))

    here : flag (is_in x (x ∷ l) && ltb 0 (get_or rest x 0)) ≡ flag (is_in x l && ltb 0 (get_or (set rest x y) x 0)) + 1
    here =
        let g : flag (is_in x (x ∷ l) && ltb 0 (get_or rest x 0)) ≡ 1 = rw (first_in x l, lt-ltb 0 (get_or rest x 0) s) flags.0 in
        let f : flag (is_in x l && ltb 0 (get_or (set rest x y) x 0)) ≡ 0 = ap (λ (r : ℕ). flag (is_in x l && ltb 0 r)) (get_or-set_same rest x y 0 b) ∙ ap flag once ∙ flags.1 in
        omega arith

    pub run_other : (i ≡ x / 16 → ⊥) → run_in (x ∷ l) rest i ≡ run_in l (set rest x y) i
    unfolding run_in
    run_other d = sum_same 16 _ _ (λ u h. elsewhere (16 * i + u) (λ e. d (omega arith)))

    pub run_own : i ≡ x / 16 → run_in (x ∷ l) rest i ≡ run_in l (set rest x y) i + 1
    unfolding run_in
    run_own e =
        let q : 16 * i + x % 16 ≡ x = omega arith in
        sum_set 16 _ _ 1 (x % 16) (omega arith) (λ u d. elsewhere (16 * i + u) (λ z. d (omega arith))) (rw q here)

-- the first j of the list are through; `left` is what remains of those that are not
pub record OffTo (l rest before : List ℕ) (j : ℕ) (left work : List ℕ) : Type 0 where
  pub long : length left ≡ 1024
  pub size : length work ≡ 64
  pub same : (i : ℕ) → i < 64 → get_or work i 0 - run_in (drop j l) left i ≡ get_or before i 0 - run_in l rest i

pub off_none : (l rest before : List ℕ) → length rest ≡ 1024 → length before ≡ 64 → OffTo l rest before 0 rest before
off_none l rest before h e = record { long = h; size = e; same = λ i b. refl }

module _ (l rest before : List ℕ) (j : ℕ) (left work : List ℕ) (r : OffTo l rest before j left work) where
  module _ (x : ℕ) (b : j < length l) (e : x ≡ get_or l j 0) where
    next : drop j l ≡ x ∷ drop (suc j) l
    next = drop-cons l j 0 b ∙ ap (λ (z : ℕ). z ∷ drop (suc j) l) (sym e)

    -- a vertex of which nothing remains
    pub off_skip : get_or left x 0 ≡ 0 → OffTo l rest before (j + 1) left work
    off_skip z =
        rw add-one (record {
          long = r.long;
          size = r.size;
          same = λ i c.
              ap (λ (n : ℕ). get_or work i 0 - n) (sym (run_skip x (drop (suc j) l) left i z))
              ∙ ap (λ (m : List ℕ). get_or work i 0 - run_in m left i) (sym next)
              ∙ r.same i c;
        })

    -- one that runs
    pub off_one : (y w : ℕ) → x < 1024 → 0 < get_or left x 0 → is_in x (drop (suc j) l) && ltb 0 y ≡ false → w ≡ get_or work (x / 16) 0 - 1
        → OffTo l rest before (j + 1) (set left x y) (set work (x / 16) w)
    off_one y w small s once q =
        let h : x < length left = omega (arith, r.long) in
        rw add-one (record {
          long = length-set left x y ∙ r.long;
          size = length-set work (x / 16) w ∙ r.size;
          same = λ i c. after i h ∙ ap (λ (m : List ℕ). get_or work i 0 - run_in m left i) (sym next) ∙ r.same i c;
        })
      where
        after : (i : ℕ) → x < length left
            → get_or (set work (x / 16) w) i 0 - run_in (drop (suc j) l) (set left x y) i ≡ get_or work i 0 - run_in (x ∷ drop (suc j) l) left i
        after i h = elim (ℕ_discrete i (x / 16)) [
          | yes d ↦
              let o = run_own x (drop (suc j) l) left i y h s once d in
              let a : get_or (set work (x / 16) w) i 0 ≡ get_or work (x / 16) 0 - 1 =
              ap (λ (k : ℕ). get_or (set work (x / 16) w) k 0) d ∙ get_or-set_same work (x / 16) w 0 (omega (arith, r.size)) ∙ q in
              let z = ap (λ (k : ℕ). get_or work k 0) d in
              omega arith
          | no d ↦
              ap₂ (λ (a n : ℕ). a - n) (get_or-set_other work (x / 16) i w 0 d) (sym (run_other x (drop (suc j) l) left i y h s once d))
        ]

  pub off_all : j ≡ length l → work ≡ row 64 (λ i. get_or before i 0 - run_in l rest i)
  off_all q =
      let e : drop j l ≡ [] = ap (λ (n : ℕ). drop n l) q ∙ drop-length l in
      ext_get_or 0 work (row 64 (λ i. get_or before i 0 - run_in l rest i)) (r.size ∙ sym (length_row 64 (λ i. get_or before i 0 - run_in l rest i)))
      (λ i b.
      let h : i < 64 = omega (arith, r.size) in
      let none : run_in (drop j l) left i ≡ 0 = ap (λ (m : List ℕ). run_in m left i) e ∙ run_none left i in
      let s = r.same i h in
      let z : get_or work i 0 ≡ get_or before i 0 - run_in l rest i = omega arith in
      z ∙ sym (row_at 64 (λ i. get_or before i 0 - run_in l rest i) i 0 h))

-- ---- both at once, of a list in which none is twice: the first j have run
pub record Runs (l rest before : List ℕ) (j : ℕ) (left work : List ℕ) : Type 0 where
  pub ran : RanTo l rest j left
  pub kept : Untouched l rest j left
  pub off : OffTo l rest before j left work

pub runs_none : (l rest before : List ℕ) → length rest ≡ 1024 → length before ≡ 64 → Runs l rest before 0 rest before
runs_none l rest before h e = record { ran = ran_none l rest h; kept = λ k q. refl; off = off_none l rest before h e }

module _ (l rest before : List ℕ) (j : ℕ) (left work : List ℕ) (r : Runs l rest before j left work) where
  module _ (once : Distinct l) (x : ℕ) (b : j < length l) (e : x ≡ get_or l j 0) (small : x < 1024) where
    same_yet : get_or left x 0 ≡ get_or rest x 0
    same_yet = next_untouched l rest once j left r.kept x b e

    pub runs_one : (y w : ℕ) → 0 < get_or left x 0 → y ≡ get_or left x 0 - 1 → w ≡ get_or work (x / 16) 0 - 1 → Runs l rest before (j + 1) (set left x y) (set work (x / 16) w)
    runs_one y w s p q = record {
      ran = ran_one l rest j left r.ran x y b e small (p ∙ ap (λ (z : ℕ). z - 1) same_yet);
      kept = others_untouched l rest once j left r.kept x b e y;
      off = off_one l rest before j left work r.off x b e y w small s (ap (λ (c : Bool). c && ltb 0 y) (not_again l rest once j left r.kept x b e)) q;
    }

    pub runs_skip : get_or left x 0 ≡ 0 → Runs l rest before (j + 1) left work
    runs_skip z = record {
      ran = ran_skip l rest j left r.ran x b e small z (sym same_yet ∙ z);
      kept = all_untouched l rest once j left r.kept x b e;
      off = off_skip l rest before j left work r.off x b e z;
    }

  pub runs_all : j ≡ length l → (left ≡ row 1024 (λ k. pick (is_in k l) (get_or rest k 0 - 1) (get_or rest k 0))) × (work ≡ row 64 (λ s. get_or before s 0 - run_in l rest s))
  unfolding less_in
  runs_all q = (ran_all l rest j left r.ran q, off_all l rest before j left work r.off q)
