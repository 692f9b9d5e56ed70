-- The row that is written of a legal tick passes every test.
use mathlib.Core.Path.{◌≡◌, refl, sym, ap, ◌∙◌}
use mathlib.Core.Bool.{true, false, ◌&&◌, not}
use mathlib.Core.List.{List, ◌++◌}
use Prim.Native.Nat.{ℕ, suc, ◌+◌, ◌*◌, ◌-◌, ◌≤◌, ◌<◌, min}
use native.Mathlib.Omega.{arith}
use lib.ListN.{length, get_or, drop}
use lib.Dec.{ltb, leb}
use borrow.Author.Tests.{lt-ltb, le-ltb, eq-eqb}
use Rattle.graph.specs.Words.{bit, is_in}
use Rattle.graph.proofs.Facts.{and_true, all_of, below_pass}
use Rattle.table.specs.declared.Table.{Table}
use Rattle.machine.specs.declared.State.{State}
use Rattle.machine.specs.States.{wait}
use Rattle.machine.specs.Steps.{task_in, age_in, vertex_in, released, available, availables, Legal}
use Rattle.machine.proofs.Places.{at_in, asc_next}
use Rattle.machine.proofs.Index.{name_of, age_below, vertex_below}
use Rattle.machine.proofs.Cases.{beyond, too_soon, Admitted}
use Rattle.journal.specs.Rows.{row_set, row_count, row_task, row_age, row_vertex, row_key, row_end, listed, is_stopped, cut_short, wrong_mark, row_triple, ascending, bad_list, triple_available, not_available, too_few, passes_over, fault}
use Rattle.journal.specs.Runs.{keys_of, row_bytes}
use Rattle.journal.proofs.Keys.{keys_in, keys_ascend, keys_distinct, keys_length}
use Rattle.journal.proofs.Passing.{Passes, legal_over, passed}
use Rattle.journal.proofs.Written.{first_mark, second_mark, set_is, count_is, task_is, age_is, vertex_is, key_is, listed_is, whole_row}

-- a legal choice in ascending order
module _ (t : Table) (mid : State) (chosen : List ℕ) (legal : Legal t mid chosen) where
  pub chosen_available : (k : ℕ) → is_in k chosen ≡ true → (k < 1024) × (available t mid k ≡ true)
  unfolding availables
  chosen_available k e = below_pass 1024 (available t mid) k (legal.only k e)

  pub same_members : (k : ℕ) → is_in k (keys_of chosen) ≡ is_in k chosen
  same_members = keys_in chosen (λ k e. (chosen_available k e).0)

  keys_many : length (keys_of chosen) ≡ length chosen
  keys_many = keys_length chosen legal.distinct (λ k e. (chosen_available k e).0)

  pub keys_legal : Legal t mid (keys_of chosen)
  keys_legal = record {
    distinct = keys_distinct chosen;
    number = keys_many ∙ legal.number;
    only = λ a h. legal.only a (sym (same_members a) ∙ h);
    first = λ a b h n k. legal.first a b h (sym (same_members a) ∙ n) (sym (same_members b) ∙ k);
  }

  pub keys_most : length (keys_of chosen) ≤ t.m
  keys_most = let e = keys_many in let f = legal.number in omega arith

  key_at : (j : ℕ) → j < length (keys_of chosen) → (get_or (keys_of chosen) j 0 < 1024) × (available t mid (get_or (keys_of chosen) j 0) ≡ true)
  key_at j h = chosen_available (get_or (keys_of chosen) j 0) (sym (same_members (get_or (keys_of chosen) j 0)) ∙ at_in (keys_of chosen) j h)

module _ (t : Table) (st : State) (named : ℕ) (chosen : List ℕ) (ok : Admitted (λ u s. chosen) t st named)
    (legal : Legal t (released t st named) chosen) (s : List ℕ) (at : ℕ) (rest : List ℕ) (e : drop at s ≡ row_bytes named (keys_of chosen) ++ rest) where
  abbrev keys : List ℕ
  keys = keys_of chosen

  abbrev mid : State
  mid = released t st named

  same_set : row_set s at ≡ named
  same_set = set_is named keys s at rest e

  same_mid : released t st (row_set s at) ≡ mid
  same_mid = ap (released t st) same_set

  count : row_count s at ≡ length keys
  count = count_is named keys s at rest e

  wider : (a p u b q v : ℕ) → p < 4 → u < 16 → q < 4 → v < 16 → 64 * a + 16 * p + u < 64 * b + 16 * q + v → 65536 * a + 256 * p + u < 65536 * b + 256 * q + v
  wider a p u b q v h k l m n = omega arith

  up : (a b : ℕ) → a < b → 65536 * task_in a + 256 * age_in a + vertex_in a < 65536 * task_in b + 256 * age_in b + vertex_in b
  up a b h =
      let x = name_of a in
      let y = name_of b in
      wider (task_in a) (age_in a) (vertex_in a) (task_in b) (age_in b) (vertex_in b) (age_below a) (vertex_below a) (age_below b) (vertex_below b) (omega arith)

  ascends : ascending s at ≡ true
  unfolding ascending row_triple
  ascends = all_of (row_count s at - 1) (λ j. ltb (row_triple s at j) (row_triple s at (j + 1))) (λ j h. lt-ltb _ _ (one j h))
    where
      one : (j : ℕ) → j < row_count s at - 1 → row_triple s at j < row_triple s at (j + 1)
      one j h =
          let c = count in
          let n : j + 1 ≡ suc j = omega arith in
          let u = up (get_or keys j 0) (get_or keys (j + 1) 0) (rw n (asc_next 0 1024 keys (keys_ascend chosen) j (omega arith))) in
          let a = task_is named keys s at rest e j (omega arith) in
          let p = age_is named keys s at rest e j (omega arith) in
          let b = vertex_is named keys s at rest e j (omega arith) in
          let f = task_is named keys s at rest e (j + 1) (omega arith) in
          let q = age_is named keys s at rest e (j + 1) (omega arith) in
          let g = vertex_is named keys s at rest e (j + 1) (omega arith) in
          omega arith

  lists : bad_list t s at ≡ false
  unfolding bad_list
  lists = let c = count in let m = keys_most t mid chosen legal in rw (le-ltb t.m (row_count s at) (omega arith), ascends) refl

  all_available : not_available t mid s at ≡ false
  unfolding not_available triple_available row_key
  all_available = ap not (all_of (row_count s at) (λ j. triple_available t mid (row_task s at j) (row_age s at j) (row_vertex s at j)) one)
    where
      one : (j : ℕ) → j < row_count s at → triple_available t mid (row_task s at j) (row_age s at j) (row_vertex s at j) ≡ true
      one j h =
          let c = count in
          let a = task_is named keys s at rest e j (omega arith) in
          let p = age_is named keys s at rest e j (omega arith) in
          let b = vertex_is named keys s at rest e j (omega arith) in
          let x = name_of (get_or keys j 0) in
          let y = age_below (get_or keys j 0) in
          let z = vertex_below (get_or keys j 0) in
          let k = key_is named keys s at rest e j (omega arith) in
          let v = key_at t mid chosen legal j (omega arith) in
          let l = v.0 in
          and_true _ _ (and_true _ _ (and_true _ _
          (lt-ltb (row_task s at j) 16 (omega arith)) (lt-ltb (row_age s at j) 4 (omega arith))) (lt-ltb (row_vertex s at j) 16 (omega arith)))
          (ap (available t mid) k ∙ v.1)

  pub row_passes : Passes t st s at
  unfolding is_stopped cut_short wrong_mark beyond too_soon too_few
  row_passes = record {
    runs = ap is_stopped ok.running;
    whole = le-ltb (length s) (row_end s at) (whole_row named keys s at rest e);
    mark = rw (eq-eqb (get_or s at 0) 0x4A (first_mark named keys s at rest e), eq-eqb (get_or s (at + 1) 0) 0x52 (second_mark named keys s at rest e)) refl;
    list = lists;
    tasks = λ i h. ap (λ (n : ℕ). bit n i && leb t.n i) same_set ∙ ok.tasks i h;
    free = λ i h. ap (λ (n : ℕ). bit n i && ltb 0 (wait st i)) same_set ∙ ok.free i h;
    available = ap (λ (z : State). not_available t z s at) same_mid ∙ all_available;
    enough =
        ap (λ (z : State). too_few t z s at) same_mid
        ∙ (let c = count in let n = (keys_legal t mid chosen legal).number in le-ltb (row_count s at) (min t.m (length (availables t mid))) (omega arith));
    first =
        ap (λ (z : State). passes_over t z (listed s at)) same_mid ∙ ap (passes_over t mid) (listed_is named keys s at rest e)
        ∙ legal_over t mid keys (keys_legal t mid chosen legal);
  }

  -- so it is not refused
  pub not_refused : fault t st s at ≡ 0
  not_refused = passed t st s at row_passes
