-- THE EXAMPLES WITHOUT THE TEST THAT A STATE FITS. That test looks at a thousand numbers, so computing it in each tick takes long. But opening of a file
-- that is read fits, and a tick keeps it so (`reached_fits` and `tick_fits` of the crate machine); on a state that fits a tick is its other refusals and its
-- steps (`bare_is`). So the examples hold if they do by such bare ticks (`bare_hold_lem`), and those are what is computed.
use mathlib.Core.Path.{◌≡◌, refl, sym, ap, subst, ◌∙◌}
use mathlib.Core.Bool.{Bool, true, false, ◌&&◌}
use mathlib.Core.List.{List, [], ◌∷◌}
use Prim.Native.Nat.{ℕ, ◌^◌, ◌<◌}
use lib.ListN.{length, get_or}
use lib.Dec.{T, ltb, leb, eqb}
use borrow.Author.Tests.{ltb-true}
use Rattle.graph.specs.Words.{bit, all, lowest_or}
use Rattle.graph.proofs.Facts.{clash, both_true, and_true}
use Rattle.table.specs.declared.Table.{Table}
use Rattle.table.specs.declared.Loaded.{Loaded}
use Rattle.table.specs.declared.Outcome.{Outcome}
use Rattle.table.specs.declared.Outcome.TheVariants.{Read, Short, Mark, Range, Ticks, Order, Edge, Cycle, Extra}
use Rattle.table.specs.Reading.{read}
use Rattle.machine.specs.declared.Phase.TheVariants.{Running}
use Rattle.machine.specs.declared.State.{State}
use Rattle.machine.specs.declared.Opened.{Opened}
use Rattle.machine.specs.declared.Ticked.{Ticked}
use Rattle.machine.specs.States.{live, wait, deadline, zeros, opening}
use Rattle.machine.specs.Fitting.{fits}
use Rattle.machine.specs.Steps.{released, worked, own_choice}
use Rattle.machine.specs.Ticking.{advance_to, advance, refuse, when_running, tick_on, tick}
use Rattle.machine.proofs.Own.{own_legal}
use Rattle.machine.proofs.Fitted.{InRange}
use Rattle.machine.proofs.Refusing.{on_table}
use Rattle.machine.proofs.Files.{just_opened, reached_fits, opening_read, tick_fits}
use Rattle.examples.specs.Examples.{Row, Example, judging, reading, playing, due_at, printing, answered, plays, holds, hold}
use Rattle.examples.specs.Later.{after}

-- the steps of a tick, the state within it computed once
unfoldable pub bare_steps : Table → State → ℕ → Ticked
bare_steps t mid named = let chosen = own_choice t mid in advance_to chosen (worked t mid named chosen)

-- A TICK of the machine's own on a table, without the test that the state fits
unfoldable pub bare_tick : Table → State → ℕ → Ticked
bare_tick t st named =
    when_running st.phase (refuse st 32 0 255)
    (lowest_or 16 (λ i. bit named i && leb t.n i) (refuse st 31 0)
    (lowest_or t.n (λ i. bit named i && ltb 0 (wait st i)) (refuse st 33 0)
    (bare_steps t (released t st named) named)))

bare_on : (t : Table) (st : State) (named : ℕ) → fits t st ≡ true → tick_on own_choice t st named ≡ bare_tick t st named
unfolding tick_on bare_tick bare_steps advance
bare_on t st named e = rw e refl

-- whether a reading succeeded
unfoldable pub is_read : Outcome → Bool
is_read Read = true
is_read (Short p) = false
is_read (Mark p) = false
is_read (Range p) = false
is_read (Ticks p) = false
is_read (Order p) = false
is_read (Edge p) = false
is_read (Cycle p) = false
is_read (Extra p) = false

pub is_read_lem : (o : Outcome) → is_read o ≡ true → o ≡ Read
unfolding is_read
is_read_lem Read h = refl
is_read_lem (Short p) h = absurd (clash h refl)
is_read_lem (Mark p) h = absurd (clash h refl)
is_read_lem (Range p) h = absurd (clash h refl)
is_read_lem (Ticks p) h = absurd (clash h refl)
is_read_lem (Order p) h = absurd (clash h refl)
is_read_lem (Edge p) h = absurd (clash h refl)
is_read_lem (Cycle p) h = absurd (clash h refl)
is_read_lem (Extra p) h = absurd (clash h refl)

-- ROWS by bare ticks; each release set has sixteen bits
unfoldable pub bare_plays : Table → State → List Row → Bool
bare_plays t st [] = true
bare_plays t st (r ∷ rs) = ltb r.named (2 ^ 16) && (let x = bare_tick t st r.named in answered r x && bare_plays t x.state rs)

-- the state after some rows, by bare ticks
unfoldable pub bare_after : Table → State → List Row → State
bare_after t st [] = st
bare_after t st (r ∷ rs) = bare_after t (bare_tick t st r.named).state rs

unfoldable pub small_sets : List Row → Bool
small_sets [] = true
small_sets (r ∷ rs) = ltb r.named (2 ^ 16) && small_sets rs

-- AN EXAMPLE by bare ticks: its file is read, its clock has 32 bits
unfoldable pub bare_opens : Loaded → ℕ → Bool
bare_opens r clock = is_read r.outcome && ltb clock (2 ^ 32)

unfoldable pub bare_due : State → List ℕ → Bool
bare_due st ds = all (length ds) (λ i. live st i 0 && eqb (deadline st i 0) (get_or ds i 0))

unfoldable pub bare_holds : Example → Bool
bare_holds (judging s number place task margin chain) = holds (judging s number place task margin chain)
bare_holds (reading s n p) = holds (reading s n p)
bare_holds (playing s clock rows) = let r = read s in bare_opens r clock && bare_plays r.table (zeros clock Running) rows
bare_holds (due_at s clock named ds) = let r = read s in bare_opens r clock && bare_due (bare_tick r.table (zeros clock Running) named).state ds
bare_holds (printing s t) = holds (printing s t)

unfoldable pub bare_hold : List Example → Bool
bare_hold [] = true
bare_hold (x ∷ xs) = bare_holds x && bare_hold xs

module _ (s : List ℕ) (well : (read s).outcome ≡ Read) where
  -- what opening and ticks lead to
  abbrev pub Fine : State → Type 0
  Fine st = (fits (read s).table st ≡ true) × InRange st

  pub bare_is : (st : State) → Fine st → (named : ℕ) → tick s st named ≡ bare_tick (read s).table st named
  unfolding tick
  bare_is st f named = on_table own_choice s st named well ∙ bare_on (read s).table st named f.0

  pub bare_fine : (st : State) → Fine st → (named : ℕ) → named < 2 ^ 16 → Fine (bare_tick (read s).table st named).state
  unfolding tick
  bare_fine st f named b =
      subst (λ (x : Ticked). Fine x.state) (bare_is st f named)
      (tick_fits s well own_choice st f.1 f.0 named b (own_legal (read s).table (released (read s).table st named)))

  pub start_is : (clock : ℕ) → (opening s clock).state ≡ zeros clock Running
  start_is clock = ap (λ (x : Opened). x.state) (opening_read s well clock)

  pub start_fine : (clock : ℕ) → clock < 2 ^ 32 → Fine (zeros clock Running)
  start_fine clock h = subst Fine (start_is clock) (reached_fits s well (opening s clock).state (just_opened clock h))

  -- rows that play by bare ticks play
  pub bare_plays_lem : (rs : List Row) (st : State) → Fine st → bare_plays (read s).table st rs ≡ true → plays s st rs ≡ true
  unfolding plays bare_plays
  bare_plays_lem [] st f h = refl
  bare_plays_lem (r ∷ rs) st f h =
      let q = both_true (ltb r.named (2 ^ 16)) _ h in
      let w = both_true (answered r (bare_tick (read s).table st r.named)) _ q.1 in
      subst (λ (x : Ticked). answered r x && plays s x.state rs ≡ true) (sym (bare_is st f r.named))
      (and_true _ _ w.0 (bare_plays_lem rs (bare_tick (read s).table st r.named).state (bare_fine st f r.named (ltb-true _ _ q.0)) w.1))

  start_plays : (clock : ℕ) (rs : List Row) → clock < 2 ^ 32 → bare_plays (read s).table (zeros clock Running) rs ≡ true → plays s (opening s clock).state rs ≡ true
  start_plays clock rs b h = subst (λ (st : State). plays s st rs ≡ true) (sym (start_is clock)) (bare_plays_lem rs (zeros clock Running) (start_fine clock b) h)

  -- and lead to the same state
  pub bare_after_lem : (rs : List Row) (st : State) → Fine st → small_sets rs ≡ true → after s st rs ≡ bare_after (read s).table st rs
  unfolding after bare_after small_sets
  bare_after_lem [] st f h = refl
  bare_after_lem (r ∷ rs) st f h =
      let q = both_true (ltb r.named (2 ^ 16)) _ h in
      ap (λ (x : Ticked). after s x.state rs) (bare_is st f r.named)
      ∙ bare_after_lem rs (bare_tick (read s).table st r.named).state (bare_fine st f r.named (ltb-true _ _ q.0)) q.1

  start_due : (clock named : ℕ) (ds : List ℕ) → clock < 2 ^ 32 → bare_due (bare_tick (read s).table (zeros clock Running) named).state ds ≡ true
      → holds (due_at s clock named ds) ≡ true
  unfolding holds bare_due
  start_due clock named ds b h =
      subst (λ (x : Ticked). bare_due x.state ds ≡ true) (sym (ap (λ (st : State). tick s st named) (start_is clock) ∙ bare_is (zeros clock Running) (start_fine clock b) named)) h

opens : (s : List ℕ) (clock : ℕ) → bare_opens (read s) clock ≡ true → ((read s).outcome ≡ Read) × (clock < 2 ^ 32)
unfolding bare_opens
opens s clock h = let q = both_true (is_read (read s).outcome) _ h in (is_read_lem (read s).outcome q.0, ltb-true _ _ q.1)

-- AN EXAMPLE that holds by bare ticks holds
pub bare_holds_lem : (x : Example) → bare_holds x ≡ true → holds x ≡ true
unfolding bare_holds holds
bare_holds_lem (judging s number place task margin chain) h = h
bare_holds_lem (reading s n p) h = h
bare_holds_lem (playing s clock rows) h =
    let q = both_true (bare_opens (read s) clock) _ h in
    let o = opens s clock q.0 in
    start_plays s o.0 clock rows o.1 q.1
bare_holds_lem (due_at s clock named ds) h =
    let q = both_true (bare_opens (read s) clock) _ h in
    let o = opens s clock q.0 in
    start_due s o.0 clock named ds o.1 q.1
bare_holds_lem (printing s t) h = h

pub all_bare : (xs : List Example) → bare_hold xs ≡ true → hold xs ≡ true
unfolding bare_hold hold
all_bare [] h = refl
all_bare (x ∷ xs) h = let q = both_true (bare_holds x) _ h in and_true _ _ (bare_holds_lem x q.0) (all_bare xs q.1)

-- A TABLE OF EXAMPLES holds if it does by bare ticks
pub bare_hold_lem : (xs : List Example) → bare_hold xs ≡ true → T (hold xs)
bare_hold_lem xs h = subst (λ (b : Bool). T b) (sym (all_bare xs h)) tt
