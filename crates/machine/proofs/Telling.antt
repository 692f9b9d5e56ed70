-- WHAT A REFUSAL TELLS: the refusals of a tick one after the other, as the code tells them by rows; where there is none the tick is admitted, and any
-- is the tick's. Each test by rows is the one of specs/Ticking.antt, so the first that fails by rows is the first that fails there.
use Rattle.std.proofs.Common.{◌≡◌, ℕ, ◌<◌, Some, None, Result, Ok, Err, Bool, true, false, ◌&&◌, ltb, leb, List, get_or, sym, refl, ap, ◌∙◌, ⊎_elim, arith}
use Rattle.graph.specs.Words.{pick, bit, lowest_or}
use Rattle.table.specs.declared.Table.{Table}
use Rattle.table.specs.Good.{GoodTable}
use Rattle.machine.specs.declared.Phase.{Phase}
use Rattle.machine.specs.declared.Phase.TheVariants.{Running, Stopped}
use Rattle.machine.specs.declared.State.{State}
use Rattle.machine.specs.declared.Reply.{Reply}
use Rattle.machine.specs.Fitting.{fits}
use Rattle.machine.specs.Rows.{fits_by, reply_of, refusal_in, refusal_of}
use Rattle.machine.specs.Ticking.{refuse, tick_on}
use Rattle.machine.proofs.Lowest.{lowest_cases}
use Rattle.machine.proofs.Found.{lowest_some, lowest_no}
use Rattle.machine.proofs.Cases.{beyond, too_soon, Admitted, unfit_30, stopped_32, beyond_31, early_33}
use Rattle.machine.proofs.Apart.{Apart, ticks_in}
use Rattle.machine.proofs.Deciding.{fits_by_lem}

-- ---- the refusals one after the other, as the code tells them
module _ (fit : Bool) (p : Phase) (named n : ℕ) (waits : List ℕ) where
  pub no_30 : fit ≡ false → Err (reply_of 30 255) ≡ refusal_of fit p named n waits
  unfolding refusal_of
  no_30 e = rw e refl

  module _ (f : fit ≡ true) where
    pub no_32 : (k : ℕ) → p ≡ Stopped k → Err (reply_of 32 255) ≡ refusal_of fit p named n waits
    unfolding refusal_of refusal_in
    no_32 k e = rw (f, e) refl

    module _ (r : p ≡ Running) where
      running : refusal_of fit p named n waits
          ≡ lowest_or 16 (λ i. bit named i && leb n i) (λ i. Err (reply_of 31 i))
          (lowest_or n (λ i. bit named i && ltb 0 (get_or waits i 0)) (λ i. Err (reply_of 33 i)) (Ok tt))
      unfolding refusal_of refusal_in
      running = rw (f, r) refl

      pub no_31 : (i : ℕ) → Some i ≡ lowest_or 16 (λ j. bit named j && leb n j) Some None → Err (reply_of 31 i) ≡ refusal_of fit p named n waits
      no_31 i l = sym (running ∙ lowest_some 16 _ (λ j. Err (reply_of 31 j)) _ i (sym l))

      module _ (none : None ≡ lowest_or 16 (λ j. bit named j && leb n j) Some None) where
        pub no_33 : (i : ℕ) → Some i ≡ lowest_or n (λ j. bit named j && ltb 0 (get_or waits j 0)) Some None → Err (reply_of 33 i) ≡ refusal_of fit p named n waits
        no_33 i l = sym (running ∙ lowest_no 16 _ (λ j. Err (reply_of 31 j)) _ (sym none) ∙ lowest_some n _ (λ j. Err (reply_of 33 j)) _ i (sym l))

        pub no_none : None ≡ lowest_or n (λ j. bit named j && ltb 0 (get_or waits j 0)) Some None → Ok tt ≡ refusal_of fit p named n waits
        no_none h = sym (running ∙ lowest_no 16 _ (λ j. Err (reply_of 31 j)) _ (sym none) ∙ lowest_no n _ (λ j. Err (reply_of 33 j)) _ (sym h))

module _ (t : Table) (good : GoodTable t) (st : State) (in_it : ℕ) (deadlines waits : List ℕ) (a : Apart st in_it deadlines waits) where
  abbrev ticks : List ℕ
  ticks = ticks_in in_it deadlines st.clock

  -- THE REFUSAL, by the rows: where there is none the tick is admitted, and any other is the tick's
  module _ (choose : Table → State → List ℕ) (named : ℕ) where
    early_same : (i : ℕ) → i < t.n → (bit named i && ltb 0 (get_or waits i 0)) ≡ too_soon st named i
    unfolding too_soon
    early_same i b = ap (λ (w : ℕ). bit named i && ltb 0 w) (a.rests i (let h = good.n_high in omega arith))

    abbrev pub Told : Result (Unit {0}) Reply → Type 0
    Told r = (r ≡ Ok tt → Admitted choose t st named) × ((x : Reply) → r ≡ Err x → refuse st x.number x.place x.task ≡ tick_on choose t st named)

    other : (r : Result (Unit {0}) Reply) (n k : ℕ) → r ≡ Err (reply_of n k) → tick_on choose t st named ≡ refuse st n 0 k → Told r
    other r n k e q = (
      λ z. absurd (grind (arith, sym z ∙ e)),
      λ x d. let m : x ≡ reply_of n k = grind (arith, sym d ∙ e) in rw m (sym q),
    )

    pub refused : (r : Result (Unit {0}) Reply) → r ≡ refusal_of (fits_by st.phase t t.costs in_it ticks waits st.work st.remaining) st.phase named t.n waits → Told r
    unfolding refusal_of refusal_in beyond
    refused r e = by (fits t st) refl st.phase refl (e ∙ ap (λ (f : Bool). refusal_of f st.phase named t.n waits) (fits_by_lem t good st in_it deadlines waits a))
      where
        by : (c : Bool) → fits t st ≡ c → (p : Phase) → st.phase ≡ p → r ≡ pick c (refusal_in p named t.n waits) (Err (reply_of 30 255)) → Told r
        by false f p q h = other r 30 255 h (unfit_30 choose t st named f)
        by true f (Stopped k) q h = other r 32 255 h (stopped_32 choose t st named f k q)
        by true f Running q h = ⊎_elim
            (λ x. other r 31 x.0 (h ∙ x.2) (beyond_31 choose t st named f q x.0 x.1))
            (λ x. ⊎_elim
            (λ y. other r 33 y.0 (h ∙ x.1 ∙ y.2) (early_33 choose t st named f q x.0 y.0 (record {
              below = y.1.below;
              passes = sym (early_same y.0 y.1.below) ∙ y.1.passes;
              none_lower = λ j l. sym (early_same j (let z = y.1.below in omega arith)) ∙ y.1.none_lower j l;
            })))
            (λ y. (
              λ z. record { fitting = f; running = q; tasks = x.0; free = λ j l. sym (early_same j l) ∙ y.0 j l },
              λ w d. absurd (grind (arith, sym (h ∙ x.1 ∙ y.1) ∙ d)),
            ))
            (lowest_cases t.n (λ i. bit named i && ltb 0 (get_or waits i 0)) (λ i. Err (reply_of 33 i)) (Ok tt)))
            (lowest_cases 16 (λ i. bit named i && leb t.n i) (λ i. Err (reply_of 31 i)) _)
