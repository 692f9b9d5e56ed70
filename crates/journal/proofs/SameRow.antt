-- Two journals with the same bytes over a row judge it alike.
use mathlib.Core.Path.{◌≡◌, refl, sym, ap, ◌∙◌}
use mathlib.Core.Bool.{not}
use mathlib.Core.List.{List}
use Prim.Native.Nat.{ℕ, ◌+◌, ◌*◌, ◌-◌, ◌<◌}
use native.Mathlib.Omega.{arith}
use native.Mathlib.Nat.{add-zero}
use lib.ListN.{get_or}
use lib.Dec.{ltb}
use Rattle.graph.specs.Words.{all, row}
use Rattle.graph.proofs.Facts.{all_same}
use Rattle.table.specs.declared.Table.{Table}
use Rattle.machine.specs.declared.State.{State}
use Rattle.machine.specs.Steps.{released}
use Rattle.journal.specs.Rows.{row_set, row_count, row_task, row_age, row_vertex, row_key, listed, cut_short, wrong_mark, row_triple, ascending, bad_list, triple_available, not_available, too_few, choice_fault, set_fault, fault}
use Rattle.machine.proofs.Filling.{row_ext}

module _ (s : List ℕ) (a : ℕ) (r : List ℕ) (b : ℕ) (same : (i : ℕ) → i < 5 + 3 * row_count s a → get_or s (a + i) 0 ≡ get_or r (b + i) 0) where
  pub same_count : row_count s a ≡ row_count r b
  unfolding row_count
  same_count = same 4 (omega arith)

  pub same_set : row_set s a ≡ row_set r b
  unfolding row_set
  same_set = let x = same 2 (omega arith) in let y = same 3 (omega arith) in omega arith

  same_task : (j : ℕ) → j < row_count s a → row_task s a j ≡ row_task r b j
  unfolding row_task
  same_task j h =
      let m : a + 5 + 3 * j ≡ a + (5 + 3 * j) = omega arith in
      let n : b + (5 + 3 * j) ≡ b + 5 + 3 * j = omega arith in
      ap (λ (k : ℕ). get_or s k 0) m ∙ same (5 + 3 * j) (omega arith) ∙ ap (λ (k : ℕ). get_or r k 0) n

  same_age : (j : ℕ) → j < row_count s a → row_age s a j ≡ row_age r b j
  unfolding row_age
  same_age j h =
      let m : a + 6 + 3 * j ≡ a + (6 + 3 * j) = omega arith in
      let n : b + (6 + 3 * j) ≡ b + 6 + 3 * j = omega arith in
      ap (λ (k : ℕ). get_or s k 0) m ∙ same (6 + 3 * j) (omega arith) ∙ ap (λ (k : ℕ). get_or r k 0) n

  same_vertex : (j : ℕ) → j < row_count s a → row_vertex s a j ≡ row_vertex r b j
  unfolding row_vertex
  same_vertex j h =
      let m : a + 7 + 3 * j ≡ a + (7 + 3 * j) = omega arith in
      let n : b + (7 + 3 * j) ≡ b + 7 + 3 * j = omega arith in
      ap (λ (k : ℕ). get_or s k 0) m ∙ same (7 + 3 * j) (omega arith) ∙ ap (λ (k : ℕ). get_or r k 0) n

  same_key : (j : ℕ) → j < row_count s a → row_key s a j ≡ row_key r b j
  unfolding row_key
  same_key j h = let x = same_task j h in let y = same_age j h in let z = same_vertex j h in omega arith

  pub same_listed : listed s a ≡ listed r b
  unfolding listed
  same_listed = row_ext (row_count s a) 0 (row_key s a) (row_key r b) same_key ∙ ap (λ (n : ℕ). row n (row_key r b)) same_count

  same_mark : wrong_mark s a ≡ wrong_mark r b
  unfolding wrong_mark
  same_mark =
      let x : get_or s a 0 ≡ get_or r b 0 =
      ap (λ (k : ℕ). get_or s k 0) (sym (add-zero a)) ∙ same 0 (omega arith) ∙ ap (λ (k : ℕ). get_or r k 0) (add-zero b) in
      rw (x, same 1 (omega arith)) refl

  same_triple : (j : ℕ) → j < row_count s a → row_triple s a j ≡ row_triple r b j
  unfolding row_triple
  same_triple j h = let x = same_task j h in let y = same_age j h in let z = same_vertex j h in omega arith

  same_ascending : ascending s a ≡ ascending r b
  unfolding ascending
  same_ascending =
      all_same (row_count s a - 1) _ (λ j. ltb (row_triple r b j) (row_triple r b (j + 1))) (λ j h. rw (same_triple j (omega arith), same_triple (j + 1) (omega arith)) refl)
      ∙ ap (λ (n : ℕ). all (n - 1) (λ j. ltb (row_triple r b j) (row_triple r b (j + 1)))) same_count

  module _ (t : Table) where
    same_bad : bad_list t s a ≡ bad_list t r b
    unfolding bad_list
    same_bad = rw (same_count, same_ascending) refl

    module _ (st : State) where
      same_available : not_available t st s a ≡ not_available t st r b
      unfolding not_available
      same_available = ap not (
          all_same (row_count s a) _ (λ j. triple_available t st (row_task r b j) (row_age r b j) (row_vertex r b j)) (λ j h. rw (same_task j h, same_age j h, same_vertex j h) refl)
          ∙ ap (λ (n : ℕ). all n (λ j. triple_available t st (row_task r b j) (row_age r b j) (row_vertex r b j))) same_count)

      same_few : too_few t st s a ≡ too_few t st r b
      unfolding too_few
      same_few = rw same_count refl

      same_choice : choice_fault t st s a ≡ choice_fault t st r b
      unfolding choice_fault
      same_choice = rw (same_available, same_few, same_listed) refl

    -- what is said of the row is the same
    pub same_fault : (st : State) → cut_short s a ≡ cut_short r b → fault t st s a ≡ fault t st r b
    unfolding fault set_fault
    same_fault st c = rw (c, same_mark, same_bad, same_set, same_choice (released t st (row_set r b))) refl
