-- A row's refusals in their order, as the code finds them; and the machine's part in them.
use mathlib.Core.Path.{◌≡◌, refl, sym, subst, ap, ap₂, ◌∙◌}
use mathlib.Core.Bool.{Bool, true, false, ◌&&◌}
use mathlib.Core.List.{List}
use Prim.Native.Nat.{ℕ, ◌≤◌, min}
use native.Mathlib.Omega.{arith}
use lib.ListN.{length}
use lib.Dec.{ltb, leb}
use borrow.Author.Tests.{le-ltb}
use Rattle.std.specs.Prelude.{is_some}
use Rattle.std.specs.declared.option.Option.{Option}
use Rattle.std.specs.declared.option.Option.TheVariants.{Some, None}
use Rattle.graph.specs.Words.{bit, row, lowest_or}
use Rattle.graph.proofs.Facts.{lowest_or_none}
use Rattle.graph.proofs.Bits.{bit_zero}
use Rattle.table.specs.declared.Table.{Table}
use Rattle.machine.specs.declared.State.{State}
use Rattle.machine.specs.States.{wait}
use Rattle.machine.specs.declared.Ticked.{Ticked}
use Rattle.machine.specs.declared.Offer.{Offer}
use Rattle.machine.specs.Steps.{released, availables, available_sets, left_at, offered}
use Rattle.machine.specs.Ticking.{advance}
use Rattle.machine.proofs.Found.{lowest_some, lowest_no, some_of, none_of}
use Rattle.journal.specs.Rows.{row_set, row_count, row_end, listed, is_stopped, cut_short, wrong_mark, bad_list, not_available, too_few, passes_over, choice_fault, set_fault, fault}
use Rattle.journal.specs.declared.faults.Fault.{Fault}
use Rattle.journal.specs.declared.faults.Fault.TheVariants.{AfterMiss, CutShort, WrongMark, BadList, NoSuchTask, TooEarly, NotAvailable, TooFew, PassesOver}
use Rattle.journal.specs.Faults.{number}

-- none of the refusals' numbers is 0
pub number_some : (f : Fault) → number f ≡ 0 → ⊥
number_some AfterMiss h = omega arith
number_some CutShort h = omega arith
number_some WrongMark h = omega arith
number_some BadList h = omega arith
number_some NoSuchTask h = omega arith
number_some TooEarly h = omega arith
number_some NotAvailable h = omega arith
number_some TooFew h = omega arith
number_some PassesOver h = omega arith

-- what holds of a row holds of the place that it was read at
pub moved : (P : List ℕ → ℕ → Type 0) → (s z : List ℕ) (at k : ℕ) → s ≡ z → at ≡ k → P s at → P z k
moved P s z at k e f h = let Q : ℕ → Type 0 = λ n. P z n in let R : List ℕ → Type 0 = λ l. P l at in subst Q f (subst R e h)

-- ---- those of its bytes and its release set
module _ (t : Table) (st : State) (s : List ℕ) (at : ℕ) where
  pub stopped_47 : is_stopped st.phase ≡ true → fault t st s at ≡ 47
  unfolding fault
  stopped_47 a = rw a refl

  module _ (a : is_stopped st.phase ≡ false) where
    pub cut_40 : cut_short s at ≡ true → fault t st s at ≡ 40
    unfolding fault
    cut_40 b = rw (a, b) refl

    module _ (w : row_end s at ≤ length s) where
      b : cut_short s at ≡ false
      unfolding cut_short
      b = le-ltb (length s) (row_end s at) w

      pub mark_41 : wrong_mark s at ≡ true → fault t st s at ≡ 41
      unfolding fault
      mark_41 c = rw (a, b, c) refl

      module _ (c : wrong_mark s at ≡ false) where
        pub list_42 : bad_list t s at ≡ true → fault t st s at ≡ 42
        unfolding fault
        list_42 d = rw (a, b, c, d) refl

        module _ (d : bad_list t s at ≡ false) where
          to_set : fault t st s at ≡ set_fault t st s at
          unfolding fault
          to_set = rw (a, b, c, d) refl

          -- `set` is the release set, and n the least above it
          abbrev above : ℕ → ℕ → Bool
          above set i = bit set i && leb t.n i

          abbrev early : ℕ → ℕ → Bool
          early set i = bit set i && ltb 0 (wait st i)

          module _ (r : Option ℕ) (e : r ≡ lowest_or 16 (above (row_set s at)) Some None) where
            pub beyond_31 : is_some r ≡ true → fault t st s at ≡ 31
            unfolding set_fault
            beyond_31 h = let y = some_of r h in to_set ∙ lowest_some 16 (above (row_set s at)) (λ i. 31) _ y.0 (sym e ∙ y.1)

            module _ (h : is_some r ≡ false) (q : Option ℕ) (f : q ≡ lowest_or t.n (early (row_set s at)) Some None) where
              to_early : fault t st s at ≡ lowest_or t.n (early (row_set s at)) (λ i. 33) (choice_fault t (released t st (row_set s at)) s at)
              unfolding set_fault
              to_early = to_set ∙ lowest_no 16 (above (row_set s at)) (λ i. 31) _ (sym e ∙ none_of r h)

              pub early_33 : is_some q ≡ true → fault t st s at ≡ 33
              early_33 k = let y = some_of q k in to_early ∙ lowest_some t.n (early (row_set s at)) (λ i. 33) _ y.0 (sym f ∙ y.1)

              pub set_passes : is_some q ≡ false → fault t st s at ≡ choice_fault t (released t st (row_set s at)) s at
              set_passes k = to_early ∙ lowest_no t.n (early (row_set s at)) (λ i. 33) _ (sym f ∙ none_of q k)

          -- no task is named
          pub none_named : row_set s at ≡ 0 → fault t st s at ≡ choice_fault t (released t st (row_set s at)) s at
          none_named z = set_passes
              None (sym (lowest_or_none 16 (above (row_set s at)) Some None (λ i b. off i (leb t.n i)))) refl
              None (sym (lowest_or_none t.n (early (row_set s at)) Some None (λ i b. off i (ltb 0 (wait st i))))) refl
            where
              off : (i : ℕ) (b : Bool) → bit (row_set s at) i && b ≡ false
              off i b = ap (λ (x : ℕ). bit x i && b) z ∙ ap (λ (x : Bool). x && b) (bit_zero i)

  -- ---- those of its choice
  pub choice_44 : not_available t st s at ≡ true → 44 ≡ choice_fault t st s at
  unfolding choice_fault
  choice_44 a = rw a refl

  pub choice_45 : not_available t st s at ≡ false → too_few t st s at ≡ true → 45 ≡ choice_fault t st s at
  unfolding choice_fault
  choice_45 a b = rw (a, b) refl

  pub choice_46 : not_available t st s at ≡ false → too_few t st s at ≡ false → passes_over t st (listed s at) ≡ true → 46 ≡ choice_fault t st s at
  unfolding choice_fault
  choice_46 a b c = rw (a, b, c) refl

  pub choice_0 : not_available t st s at ≡ false → too_few t st s at ≡ false → passes_over t st (listed s at) ≡ false → 0 ≡ choice_fault t st s at
  unfolding choice_fault
  choice_0 a b c = rw (a, b, c) refl

  pub few_is : (r : Bool) (count n : ℕ) → r ≡ ltb count (min t.m n) → count ≡ row_count s at → n ≡ length (availables t st) → r ≡ too_few t st s at
  unfolding too_few
  few_is r count n e a b = e ∙ ap (λ (k : ℕ). ltb k (min t.m n)) a ∙ ap (λ (k : ℕ). ltb (row_count s at) (min t.m k)) b

-- ---- what the machine offers, and its tick, by their parts
module _ (t : Table) (st : State) (set : ℕ) where
  pub offered_sets : (o : Offer) → o ≡ offered t st set → o.sets ≡ available_sets t (released t st set)
  unfolding offered
  offered_sets o e = ap (λ (x : Offer). x.sets) e

  pub offered_left : (o : Offer) → o ≡ offered t st set → o.left ≡ row 64 (left_at (released t st set))
  unfolding offered
  offered_left o e = ap (λ (x : Offer). x.left) e

  pub advanced : (named : ℕ) (l chosen : List ℕ) (r : Ticked) → set ≡ named → l ≡ chosen → r ≡ advance t st set l → r ≡ advance t st named chosen
  advanced named l chosen r a b e = e ∙ ap₂ (λ (n : ℕ) (x : List ℕ). advance t st n x) a b
