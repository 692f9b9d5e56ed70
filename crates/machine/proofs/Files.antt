-- The same of a file's bytes: what opening and ticks give from a file that is read fits its table, for a table that is read is good.
use Rattle.std.proofs.Common.{◌≡◌, ℕ, ◌^◌, ◌<◌, true, List, sym, refl, ap, ◌∙◌, subst}
use Rattle.table.specs.declared.Outcome.{Outcome}
use Rattle.table.specs.declared.Outcome.TheVariants.{Read}
use Rattle.table.specs.declared.Table.{Table}
use Rattle.table.specs.Reading.{when_read, read}
use Rattle.table.proofs.Sound.{read_good}
use Rattle.machine.specs.declared.Phase.{Phase}
use Rattle.machine.specs.declared.Phase.TheVariants.{Running, Stopped}
use Rattle.machine.specs.declared.State.{State}
use Rattle.machine.specs.declared.Opened.{Opened}
use Rattle.machine.specs.declared.Ticked.{Ticked}
use Rattle.machine.specs.States.{zeros, unopened, open_read, opening}
use Rattle.machine.specs.Steps.{released, own_choice, Legal}
use Rattle.machine.specs.Fitting.{fits}
use Rattle.machine.specs.Ticking.{refuse, tick_on, tick_by, tick}
use Rattle.machine.proofs.Own.{own_legal}
use Rattle.machine.proofs.Cases.{stopped_32, unfit_30}
use Rattle.machine.proofs.Fitted.{InRange}
use Rattle.machine.proofs.Keeping.{Keeps, zeros_range, opened_fits, legal_tick_keeps}
use Rattle.machine.proofs.Refusing.{on_table, unopened_unfit}

module _ (s : List ℕ) (well : (read s).outcome ≡ Read) where
  -- opening a file that is read: number 0, place 0, task 255, and all tasks idle with wait 0
  pub opening_read : (clock : ℕ) → opening s clock ≡ record { reply = record { number = 0; place = 0; task = 255 }; state = zeros clock Running }
  unfolding opening open_read
  opening_read clock = ap (λ (o : Outcome). when_read o unopened (λ _. record { reply = record { number = 0; place = 0; task = 255 }; state = zeros clock Running })) well

  -- OPENING FITS
  pub opening_fits : (clock : ℕ) → clock < 2 ^ 32 → fits (read s).table (opening s clock).state ≡ true
  opening_fits clock h = ap (λ (x : Opened). fits (read s).table x.state) (opening_read clock) ∙ opened_fits (read s).table (read_good s well) clock h

  opening_range : (clock : ℕ) → clock < 2 ^ 32 → InRange (opening s clock).state
  opening_range clock h = subst (λ (x : Opened). InRange x.state) (sym (opening_read clock)) (zeros_range clock Running h)

  -- A TICK KEEPS FITTING, running or stopped, however it chooses within the law
  module _ (choose : Table → State → List ℕ) (st : State) (range : InRange st) (fitting : fits (read s).table st ≡ true)
      (named : ℕ) (bits : named < 2 ^ 16) (legal : Legal (read s).table (released (read s).table st named) (choose (read s).table (released (read s).table st named))) where
    abbrev Fine : Ticked → Type 0
    Fine x = (fits (read s).table x.state ≡ true) × InRange x.state

    same_fine : Fine (refuse st 32 0 255)
    unfolding refuse
    same_fine = (fitting, range)

    pub tick_fits : (fits (read s).table (tick_by choose s st named).state ≡ true) × InRange (tick_by choose s st named).state
    tick_fits = subst Fine (sym (on_table choose s st named well)) (by st.phase refl)
      where
        by : (p : Phase) → st.phase ≡ p → Fine (tick_on choose (read s).table st named)
        by Running e = let k = legal_tick_keeps choose (read s).table (read_good s well) st range named bits fitting e legal in (k.fitting, k.range)
        by (Stopped i) e = subst Fine (sym (stopped_32 choose (read s).table st named fitting i e)) same_fine

  -- a running state that fits is answered 0, 34, 31 or 33 by the machine's own tick
  pub own_tick_answers : (st : State) → InRange st → fits (read s).table st ≡ true → st.phase ≡ Running → (named : ℕ) → named < 2 ^ 16
      → Keeps (read s).table st (tick s st named)
  unfolding tick
  own_tick_answers st range fitting running named bits = subst (Keeps (read s).table st) (sym (on_table own_choice s st named well))
      (legal_tick_keeps own_choice (read s).table (read_good s well) st range named bits fitting running (own_legal (read s).table (released (read s).table st named)))

  -- the state of a refused opening is answered 30
  pub unopened_30 : (choose : Table → State → List ℕ) (c named : ℕ) → tick_by choose s (zeros c (Stopped 255)) named ≡ refuse (zeros c (Stopped 255)) 30 0 255
  unopened_30 choose c named = on_table choose s (zeros c (Stopped 255)) named well
      ∙ unfit_30 choose (read s).table (zeros c (Stopped 255)) named (unopened_unfit (read s).table (read_good s well).n_high c)

-- what is reached from opening by ticks with one file, each with any release set and any choice within the law
pub data Reached (s : List ℕ) : State → Type 0 where
  just_opened : (clock : ℕ) → clock < 2 ^ 32 → Reached s (opening s clock).state
  after_tick : (st : State) → Reached s st → (named : ℕ) → named < 2 ^ 16 → (choose : Table → State → List ℕ)
      → Legal (read s).table (released (read s).table st named) (choose (read s).table (released (read s).table st named))
      → Reached s (tick_by choose s st named).state

-- ALL THAT IS REACHED FITS
pub reached_fits : (s : List ℕ) → (read s).outcome ≡ Read → (st : State) → Reached s st → (fits (read s).table st ≡ true) × InRange st
reached_fits s well st (just_opened clock h) = (opening_fits s well clock h, opening_range s well clock h)
reached_fits s well st (after_tick st₀ r named bits choose legal) =
    let k = reached_fits s well st₀ r in
    tick_fits s well choose st₀ k.1 k.0 named bits legal
