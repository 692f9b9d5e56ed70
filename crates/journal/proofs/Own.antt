-- The machine's own run, taken from its answers, is a legal run.
use mathlib.Core.Path.{◌≡◌, refl, sym, ap, subst, ◌∙◌}
use mathlib.Core.Logic.{◌⊎◌, inl, inr, ⊎_elim}
use mathlib.Core.Bool.{true}
use mathlib.Core.List.{List, [], ◌∷◌}
use Prim.Native.Nat.{ℕ, zero, suc, ◌+◌, ◌^◌, ◌≤◌, ◌<◌}
use native.Mathlib.Omega.{arith}
use native.Mathlib.Decide.{dec_lt}
use lib.ListN.{length, get_or, drop, drop_of_length-le}
use lib.Seq.{drop-cons}
use lib.Dec.{ltb}
use borrow.Author.Tests.{lt-ltb, le-ltb, ne_eqb}
use Rattle.graph.specs.Words.{pick, row_from, row, those_below, is_in, first_or, lowest_or}
use Rattle.table.specs.declared.Table.{Table}
use Rattle.table.specs.declared.Outcome.TheVariants.{Read}
use Rattle.table.specs.Reading.{read}
use Rattle.table.proofs.Sound.{read_good}
use Rattle.machine.specs.declared.Phase.TheVariants.{Stopped}
use Rattle.machine.specs.declared.State.{State}
use Rattle.machine.specs.declared.Triple.{Triple}
use Rattle.machine.specs.declared.Ticked.{Ticked}
use Rattle.machine.specs.States.{zeros}
use Rattle.machine.specs.Steps.{task_in, released, worked, ended, finished, missed, own_choice, Legal}
use Rattle.machine.specs.Ticking.{nobody, triple_of, run_list, ticked, judged, advance_to, advance, tick_on, tick}
use Rattle.machine.proofs.Places.{at_in}
use Rattle.machine.proofs.Index.{name_of}
use Rattle.machine.proofs.Own.{own_legal}
use Rattle.machine.proofs.Cases.{Admitted, admitted_advances}
use Rattle.machine.proofs.Refusing.{on_table}
use Rattle.journal.specs.Runs.{Tick, tick_with, answer_of, LegalTick, LegalRun, key_if, ran_keys, own_run, NoneRefused}
use Rattle.journal.proofs.Ticks.{taken_admitted}
use Rattle.journal.proofs.Lawful.{chosen_available}

-- ---- the run list names what was chosen
-- the places from i on, of which k are left
place : List ℕ → ℕ → Triple
place chosen j = pick (ltb j (length chosen)) (triple_of (get_or chosen j 0)) nobody

no_keys : (k i : ℕ) (chosen : List ℕ) → length chosen ≤ i → ran_keys (row_from k i (place chosen)) ≡ []
unfolding row_from ran_keys key_if nobody place
no_keys zero i chosen h = refl
no_keys (suc k) i chosen h = rw (le-ltb i (length chosen) h) (no_keys k (suc i) chosen (omega arith))

keys_from : (k i : ℕ) (chosen : List ℕ) → length chosen ≤ i + k → ((x : ℕ) → is_in x chosen ≡ true → x < 1024) → ran_keys (row_from k i (place chosen)) ≡ drop i chosen
unfolding row_from ran_keys key_if triple_of place
keys_from zero i chosen h b = sym (drop_of_length-le chosen {i = i} (omega arith))
keys_from (suc k) i chosen h b = elim (dec_lt i (length chosen)) [
  | yes l ↦
      let x = get_or chosen i 0 in
      let s : x < 1024 = b x (at_in chosen i l) in
      let q = name_of x in
      let r = keys_from k (suc i) chosen (omega arith) b in
      rw (lt-ltb i (length chosen) l, ne_eqb (task_in x) 255 (λ z. omega arith), q, r) (sym (drop-cons chosen i 0 l))
  | no l ↦ no_keys (suc k) i chosen (omega arith) ∙ sym (drop_of_length-le chosen {i = i} (omega arith))
]

pub ran_is : (chosen : List ℕ) → length chosen ≤ 8 → ((x : ℕ) → is_in x chosen ≡ true → x < 1024) → ran_keys (run_list chosen) ≡ chosen
unfolding run_list row place
ran_is chosen h b = keys_from 8 0 chosen h b

advance_ran : (t : Table) (st : State) (named : ℕ) (chosen : List ℕ) → (advance t st named chosen).answer.ran ≡ run_list chosen
unfolding advance advance_to judged lowest_or first_or ticked
advance_ran t st named chosen = go (ended (worked t (released t st named) named chosen)) (those_below 16 (missed (ended (worked t (released t st named) named chosen))))
  where
    go : (z : State) (l : List ℕ) → (first_or l (λ i. ticked 34 i chosen (finished (worked t (released t st named) named chosen)) (zeros z.clock (Stopped i)))
        (ticked 0 255 chosen (finished (worked t (released t st named) named chosen)) z)).answer.ran ≡ run_list chosen
    go z [] = refl
    go z (i ∷ l) = refl

-- ---- one tick
module _ (file : List ℕ) (well : (read file).outcome ≡ Read) where
  abbrev t : Table
  t = (read file).table

  module _ (st : State) (named : ℕ) (small : named < 2 ^ 16) (taken : (answer_of (tick file st named) ≡ 0) ⊎ (answer_of (tick file st named) ≡ 34)) where
    abbrev own : List ℕ
    own = own_choice t (released t st named)

    legal : Legal t (released t st named) own
    legal = own_legal t (released t st named)

    on_file : tick file st named ≡ tick_on own_choice t st named
    unfolding tick
    on_file = on_table own_choice file st named well

    ok : Admitted own_choice t st named
    ok = taken_admitted own_choice t st named (⊎_elim (λ e. inl (sym (ap answer_of on_file) ∙ e)) (λ e. inr (sym (ap answer_of on_file) ∙ e)) taken)

    keys_own : ran_keys (tick file st named).answer.ran ≡ own
    keys_own =
        ap (λ (z : Ticked). ran_keys z.answer.ran) (on_file ∙ admitted_advances own_choice t st named ok)
        ∙ ap ran_keys (advance_ran t st named own)
        ∙ ran_is own few (λ k e. (chosen_available t (released t st named) own legal k e).0)
      where
        few : length own ≤ 8
        few = let h = legal.number in let m = (read_good file well).m_high in omega arith

    pub own_tick : Tick
    own_tick = record { named = named; chosen = ran_keys (tick file st named).answer.ran }

    chosen_own : own_tick.chosen ≡ own
    unfolding own_tick
    chosen_own = keys_own

    pub same_tick : tick_with file st own_tick ≡ tick file st named
    unfolding tick_with own_tick tick_on
    same_tick =
        on_table (λ u s. own_tick.chosen) file st named well
        ∙ ap (λ (l : List ℕ). tick_on (λ u s. l) t st named) chosen_own
        ∙ sym on_file

    pub own_is_legal : LegalTick file st own_tick
    unfolding own_tick
    own_is_legal = record {
      bits = small;
      taken = ⊎_elim (λ e. inl (ap answer_of same_tick ∙ e)) (λ e. inr (ap answer_of same_tick ∙ e)) taken;
      choice = subst (Legal t (released t st named)) (sym chosen_own) legal;
    }

  pub own_run_lem : (sets : List ℕ) (st : State) → NoneRefused file st sets → LegalRun file st (own_run file st sets)
  unfolding NoneRefused LegalRun own_run own_tick
  own_run_lem [] st h = tt
  own_run_lem (named ∷ sets) st h = (
    own_is_legal st named h.0 h.1,
    subst (λ (z : Ticked). LegalRun file z.state (own_run file (tick file st named).state sets)) (sym (same_tick st named h.0 h.1))
        (own_run_lem sets (tick file st named).state h.2),
  )
