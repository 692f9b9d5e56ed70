-- A row is not refused exactly if it passes each test; and then what it lists is a legal choice.
use mathlib.Core.Path.{◌≡◌, refl, sym, ap, subst, ◌∙◌}
use mathlib.Core.Logic.{⊎_elim}
use mathlib.Core.Bool.{Bool, true, false, ◌&&◌, ◌||◌, not}
use mathlib.Core.List.{List}
use Prim.Native.Nat.{ℕ, ◌+◌, ◌*◌, ◌-◌, ◌≤◌, ◌<◌, min}
use native.Mathlib.Omega.{arith}
use lib.ListN.{length, get_or}
use lib.Dec.{ltb, leb, eqb}
use borrow.Author.Tests.{ltb-true, ltb-false, not-false, not-true, eqb-true}
use Rattle.graph.specs.Words.{pick, bit, is_in, lowest_or, Distinct}
use Rattle.graph.proofs.Facts.{clash, both_true, and_true, all_at, length_row, lowest_or_cases, lowest_or_none, below_all, off_when}
use Rattle.graph.proofs.Lists.{any_some, some_any}
use Rattle.table.specs.declared.Table.{Table}
use Rattle.table.proofs.Ascending.{Asc}
use Rattle.machine.specs.declared.State.{State}
use Rattle.machine.specs.States.{wait}
use Rattle.machine.specs.Steps.{released, available, availables, left_in, Legal}
use Rattle.journal.specs.Rows.{row_set, row_count, row_task, row_age, row_vertex, row_key, row_end, listed, is_stopped, cut_short, wrong_mark, row_triple, ascending, bad_list, triple_available, not_available, too_few, passes_over, choice_fault, set_fault, fault}
use Rattle.journal.specs.Runs.{keys_of}
use Rattle.journal.proofs.Keys.{in_row, asc_row, keys_same, keys_distinct, at_most}

-- ---- 46
-- an available vertex that is not chosen and has fewer ticks left than one chosen
pub passes_over_lem : (t : Table) (st : State) (chosen : List ℕ) (a b : ℕ) → is_in a (availables t st) ≡ true → is_in a chosen ≡ false
    → is_in b chosen ≡ true → ltb (left_in st a) (left_in st b) ≡ true → passes_over t st chosen ≡ true
unfolding passes_over
passes_over_lem t st chosen a b h n k e =
    some_any (availables t st) _ a h (and_true _ _ (ap not n) (some_any chosen (λ b. ltb (left_in st a) (left_in st b)) b k e))

-- there is none where the choice is legal
pub legal_over : (t : Table) (st : State) (chosen : List ℕ) → Legal t st chosen → passes_over t st chosen ≡ false
unfolding passes_over
legal_over t st chosen l = off_when _ (λ e.
    let x = any_some (availables t st) _ e in
    let y = both_true (not (is_in x.0 chosen)) _ x.2 in
    let z = any_some chosen _ y.1 in
    let f = l.first x.0 z.0 x.1 (not-true _ y.0) z.1 in
    let g = ltb-true (left_in st x.0) (left_in st z.0) z.2 in
    omega arith)

-- ALL TESTS of a row, in their order
pub record Passes (t : Table) (st : State) (s : List ℕ) (at : ℕ) : Type 0 where
  pub runs : is_stopped st.phase ≡ false
  pub whole : cut_short s at ≡ false
  pub mark : wrong_mark s at ≡ false
  pub list : bad_list t s at ≡ false
  pub tasks : (i : ℕ) → i < 16 → bit (row_set s at) i && leb t.n i ≡ false
  pub free : (i : ℕ) → i < t.n → bit (row_set s at) i && ltb 0 (wait st i) ≡ false
  pub available : not_available t (released t st (row_set s at)) s at ≡ false
  pub enough : too_few t (released t st (row_set s at)) s at ≡ false
  pub first : passes_over t (released t st (row_set s at)) (listed s at) ≡ false

module _ (t : Table) (st : State) (s : List ℕ) (at : ℕ) where
  abbrev mid : State
  mid = released t st (row_set s at)

  pick_zero : (b : Bool) (n x : ℕ) → pick b n x ≡ 0 → 1 ≤ n → (b ≡ false) × (x ≡ 0)
  pick_zero true n x e h = absurd (omega arith)
  pick_zero false n x e h = (refl, e)

  lowest_zero : (n : ℕ) (p : ℕ → Bool) (y x : ℕ) → 1 ≤ y → lowest_or n p (λ i. y) x ≡ 0 → ((j : ℕ) → j < n → p j ≡ false) × (x ≡ 0)
  lowest_zero n p y x h e = ⊎_elim
      (λ r. let z = r.3 in absurd (omega arith))
      (λ r. (r.0, sym r.1 ∙ e))
      (lowest_or_cases n p (λ i. y) x)

  -- not refused: it passes each
  pub passes : fault t st s at ≡ 0 → Passes t st s at
  unfolding fault set_fault choice_fault
  passes e =
      let a = pick_zero (is_stopped st.phase) 47 _ e (omega arith) in
      let b = pick_zero (cut_short s at) 40 _ a.1 (omega arith) in
      let c = pick_zero (wrong_mark s at) 41 _ b.1 (omega arith) in
      let d = pick_zero (bad_list t s at) 42 _ c.1 (omega arith) in
      let f = lowest_zero 16 (λ i. bit (row_set s at) i && leb t.n i) 31 _ (omega arith) d.1 in
      let g = lowest_zero t.n (λ i. bit (row_set s at) i && ltb 0 (wait st i)) 33 _ (omega arith) f.1 in
      let h = pick_zero (not_available t mid s at) 44 _ g.1 (omega arith) in
      let i = pick_zero (too_few t mid s at) 45 _ h.1 (omega arith) in
      let j = pick_zero (passes_over t mid (listed s at)) 46 _ i.1 (omega arith) in
      record { runs = a.0; whole = b.0; mark = c.0; list = d.0; tasks = f.0; free = g.0; available = h.0; enough = i.0; first = j.0 }

  -- and the other way
  pub passed : Passes t st s at → fault t st s at ≡ 0
  unfolding fault set_fault choice_fault
  passed p =
      rw (p.runs, p.whole, p.mark, p.list)
      (lowest_or_none 16 (λ i. bit (row_set s at) i && leb t.n i) _ _ p.tasks
      ∙ lowest_or_none t.n (λ i. bit (row_set s at) i && ltb 0 (wait st i)) _ _ p.free
      ∙ rw (p.available, p.enough, p.first) refl)

  -- ---- what the tests say of a row that passes them
  module _ (p : Passes t st s at) where
    or_false : (a b : Bool) → a || b ≡ false → (a ≡ false) × (b ≡ false)
    or_false true b h = absurd (clash refl h)
    or_false false b h = (refl, h)

    pub in_whole : row_end s at ≤ length s
    unfolding cut_short
    in_whole = ltb-false (length s) (row_end s at) p.whole

    pub the_mark : (get_or s at 0 ≡ 0x4A) × (get_or s (at + 1) 0 ≡ 0x52)
    unfolding wrong_mark
    the_mark =
        let b = both_true (eqb (get_or s at 0) 0x4A) (eqb (get_or s (at + 1) 0) 0x52) (not-false _ p.mark) in
        (eqb-true (get_or s at 0) 0x4A b.0, eqb-true (get_or s (at + 1) 0) 0x52 b.1)

    pub count_low : row_count s at ≤ t.m
    unfolding bad_list
    count_low = ltb-false t.m (row_count s at) (or_false _ _ p.list).0

    ascends : ascending s at ≡ true
    unfolding bad_list
    ascends = not-false _ (or_false (ltb t.m (row_count s at)) _ p.list).1

    ascends_at : (j : ℕ) → j + 1 < row_count s at → row_triple s at j < row_triple s at (j + 1)
    unfolding ascending
    ascends_at j b = ltb-true (row_triple s at j) (row_triple s at (j + 1)) (all_at (row_count s at - 1) (λ j. ltb (row_triple s at j) (row_triple s at (j + 1))) ascends j (omega arith))

    -- each triple is a vertex that is available
    pub each : (j : ℕ) → j < row_count s at → (row_task s at j < 16) × (row_age s at j < 4) × (row_vertex s at j < 16) × (available t mid (row_key s at j) ≡ true)
    unfolding not_available triple_available row_key
    each j b =
        let a = all_at (row_count s at) (λ j. triple_available t mid (row_task s at j) (row_age s at j) (row_vertex s at j)) (not-false _ p.available) j b in
        let c = both_true (ltb (row_task s at j) 16 && ltb (row_age s at j) 4 && ltb (row_vertex s at j) 16) _ a in
        let d = both_true (ltb (row_task s at j) 16 && ltb (row_age s at j) 4) _ c.0 in
        let e = both_true (ltb (row_task s at j) 16) _ d.0 in
        (ltb-true (row_task s at j) 16 e.0, ltb-true (row_age s at j) 4 e.1, ltb-true (row_vertex s at j) 16 d.1, c.1)

    key_below : (j : ℕ) → j < row_count s at → row_key s at j < 1024
    unfolding row_key
    key_below j b = let e = each j b in let x = e.0 in let y = e.1 in let z = e.2 in omega arith

    pub listed_ascends : Asc 0 1024 (listed s at)
    unfolding listed row_key row_triple
    listed_ascends = asc_row (row_count s at) 1024 (row_key s at) key_below (λ j b.
        let e = each j (omega arith) in
        let f = each (j + 1) b in
        narrow (row_task s at j) (row_age s at j) (row_vertex s at j) (row_task s at (j + 1)) (row_age s at (j + 1)) (row_vertex s at (j + 1)) e.1 e.2 f.1 f.2 (ascends_at j b))
      where
        narrow : (a p u b q v : ℕ) → p < 4 → u < 16 → q < 4 → v < 16 → 65536 * a + 256 * p + u < 65536 * b + 256 * q + v → 64 * a + 16 * p + u < 64 * b + 16 * q + v
        narrow a p u b q v h k l m n = omega arith

    pub listed_keys : keys_of (listed s at) ≡ listed s at
    listed_keys = keys_same (listed s at) listed_ascends

    pub listed_length : length (listed s at) ≡ row_count s at
    unfolding listed
    listed_length = length_row (row_count s at) (row_key s at)

    listed_available : (a : ℕ) → is_in a (listed s at) ≡ true → (a < 1024) × (available t mid a ≡ true)
    unfolding listed
    listed_available a h =
        let r = in_row (row_count s at) (row_key s at) a h in
        let k = key_below r.0 r.1 in
        let q = r.2 in
        (omega arith, ap (available t mid) r.2 ∙ (each r.0 r.1).3)

    -- WHAT IT LISTS IS A LEGAL CHOICE
    pub listed_legal : Legal t mid (listed s at)
    unfolding availables too_few
    listed_legal = record {
      distinct = once;
      number =
          let c = listed_length in
          let h = ltb-false (row_count s at) (min t.m (length (availables t mid))) p.enough in
          let l = at_most 1024 (available t mid) (listed s at) once listed_available in
          let m = count_low in
          omega arith;
      only = λ a h. let e = listed_available a h in below_all 1024 (available t mid) a e.0 e.1;
      first = λ a b h n k. ltb-false (left_in mid a) (left_in mid b) (off_when _ (λ e. clash (over a b h n k e) p.first));
    }
      where
        once : Distinct (listed s at)
        once = subst Distinct listed_keys (keys_distinct (listed s at))

        over : (a b : ℕ) → is_in a (availables t mid) ≡ true → is_in a (listed s at) ≡ false → is_in b (listed s at) ≡ true
            → ltb (left_in mid a) (left_in mid b) ≡ true → passes_over t mid (listed s at) ≡ true
        over a b h n k e = passes_over_lem t mid (listed s at) a b h n k e
