-- Opening fits, and a tick keeps a state fitting: for every good table, every state and every legal choice. A running state that fits stands, a tick that
-- misses nothing keeps it standing, and one that misses leaves zeros. Of the numbers' types it is needed that the clock and the live jobs' deadlines are
-- below 2 ^ 32 (`InRange`) and the release set below 2 ^ 16.
use Rattle.std.proofs.Common.{◌≡◌, ℕ, ◌+◌, ◌^◌, ◌<◌, ◌≤◌, Bool, true, false, ◌&&◌, eqb, List, sym, refl, subst, arith, ltb-false, lt-ltb, leb-false}
use native.Mathlib.Decide.{dec_lt}
use Rattle.graph.specs.Words.{bit, is_in}
use Rattle.graph.proofs.Members.{held_below}
use Rattle.graph.proofs.Facts.{clash, both_true, and_true, all_of, below_pass}
use Rattle.table.specs.declared.Table.{Table}
use Rattle.table.specs.Good.{GoodTable}
use Rattle.machine.specs.declared.Phase.{Phase}
use Rattle.machine.specs.declared.Phase.TheVariants.{Running, Stopped}
use Rattle.machine.specs.declared.State.{State}
use Rattle.machine.specs.declared.Ticked.{Ticked}
use Rattle.machine.specs.States.{live, wait, deadline, jobs_of, left, zeros}
use Rattle.machine.specs.Steps.{released, available, availables, finished, missed, Legal, own_choice}
use Rattle.machine.specs.Fitting.{zero_task_in, fits_phase, fits}
use Rattle.machine.specs.Ticking.{ticked, refuse, tick_on}
use Rattle.machine.proofs.Index.{not_missed, wrap_small, zeros_live, zeros_wait, zeros_remaining, zeros_work}
use Rattle.machine.proofs.Places.{any_place_lem}
use Rattle.machine.proofs.Clauses.{jobs_four, of_zero}
use Rattle.machine.proofs.Standing.{is_nothing, Standing, opened_stands, stands_fits}
use Rattle.machine.proofs.Sound.{Sound, stands_sound}
use Rattle.machine.proofs.Within.{mid, mid_going}
use Rattle.machine.proofs.Moving.{ran, next, from, next_stands, next_lives, next_deadline, next_clock, next_past, from_below, none_unused}
use Rattle.machine.proofs.Own.{own_legal}
use Rattle.machine.proofs.Lowest.{Lowest, None}
use Rattle.machine.proofs.Cases.{beyond, too_soon, chosen_in, after_work, after_ends, Admitted, Case, unfit, halted, no_task_past, early, misses, goes_on_lem, cases, running_stopped}
use Rattle.machine.proofs.Fitted.{InRange, fits_stands}

-- ---- small facts
and_false : (a b : Bool) → a && b ≡ false → a ≡ true → b ≡ false
and_false true b h e = h
and_false false b h e = absurd (clash e refl)

-- ---- states whose numbers are in range
pub zeros_range : (c : ℕ) (p : Phase) → c < 2 ^ 32 → InRange (zeros c p)
unfolding zeros
zeros_range c p h = record { clock = h; deadlines = λ i q b l e. absurd (clash e (zeros_live c p i q)) }

stands_range : (t : Table) (st : State) → Standing t st → InRange st
stands_range t st s = record { clock = s.clock; deadlines = λ i p b h e. go i p b h e (dec_lt i t.n) (dec_lt p (jobs_of st i)) }
  where
    go : (i p : ℕ) → i < 16 → p < 4 → live st i p ≡ true → Dec (i < t.n) → Dec (p < jobs_of st i) → deadline st i p < 2 ^ 32
    go i p b h e (yes l) (yes k) = (s.going i p l k).small
    go i p b h e (yes l) (no k) = absurd (clash e (s.resting i p l (omega arith) h).idles)
    go i p b h e (no l) k = absurd (clash e (s.unused i p (omega arith) b h).idles)

-- ---- a state of zeros that is stopped at a task of the table fits
zero_task : (c : ℕ) (f : Phase) (i : ℕ) → zero_task_in (zeros c f) i ≡ true
zero_task c f i = of_zero (zeros c f) i (record {
  no_wait_lem = zeros_wait c f i;
  others = λ p h. record { idles = zeros_live c f i p; no_work_lem = zeros_work c f i p; none = is_nothing (zeros c f) i p (λ u b. zeros_remaining c f i p u) };
})

pub stopped_fits : (t : Table) (c k : ℕ) → k < t.n → fits t (zeros c (Stopped k)) ≡ true
unfolding fits fits_phase zeros
stopped_fits t c k b = and_true _ _ (lt-ltb k t.n b) (all_of 16 (zero_task_in (zeros c (Stopped k))) (λ i h. zero_task c (Stopped k) i))

-- JUST OPENED, at any clock of 32 bits, a state fits
pub opened_fits : (t : Table) → GoodTable t → (c : ℕ) → c < 2 ^ 32 → fits t (zeros c Running) ≡ true
opened_fits t good c h = stands_fits t good (zeros c Running) (opened_stands t good c h)

-- ---- a tick's four answers on a running state that fits, and the state with each
pub data FourAnswers (t : Table) (st : State) (x : Ticked) : Type 0 where
  done : x.answer.reply.number ≡ 0 → x.state.phase ≡ Running → FourAnswers t st x
  missed_at : (k : ℕ) → k < t.n → x.answer.reply.number ≡ 34 → x.state.phase ≡ Stopped k → FourAnswers t st x
  not_named : x.answer.reply.number ≡ 31 → x.state ≡ st → FourAnswers t st x
  waits_on : x.answer.reply.number ≡ 33 → x.state ≡ st → FourAnswers t st x

pub record Keeps (t : Table) (st : State) (x : Ticked) : Type 0 where
  pub answer : FourAnswers t st x
  pub fitting : fits t x.state ≡ true
  pub range : InRange x.state

module _ (t : Table) (good : GoodTable t) (st : State) (s : Standing t st) (named : ℕ)
    (tasks : (i : ℕ) → bit named i ≡ true → i < t.n) (free : (i : ℕ) → bit named i ≡ true → wait st i ≡ 0)
    (chosen : List ℕ) (only : (c : ℕ) → is_in c chosen ≡ true → available t (mid t good st (stands_sound t st s) named tasks free) c ≡ true) where
  abbrev snd : Sound t st
  snd = stands_sound t st s

  abbrev then : State
  then = next t good st (stands_sound t st s) named tasks free chosen

  sixteen : (i : ℕ) → i < t.n → i < 16
  sixteen i b = let h = good.n_high in omega arith

  clock_small : then.clock < 2 ^ 32
  clock_small = let q = next_clock t good st snd named tasks free chosen in let y = wrap_small (st.clock + 1) in omega arith

  -- a job that misses is of a task of the table
  miss_below : (i : ℕ) → i < 16 → missed then i ≡ true → i < t.n
  unfolding missed
  miss_below i b h = elim (dec_lt i t.n) [
    | yes l ↦ l
    | no l ↦
        let r = any_place_lem (λ p. live then i p && eqb (deadline then i p) then.clock) h in
        let z = none_unused t good st snd named tasks free chosen i (omega arith) b in
        absurd (clash (both_true (live then i r.0) _ r.2).0 (next_past t good st snd named tasks free chosen i b r.0 (omega arith) r.1).idles)
  ]

  -- a job that does not miss has ticks left
  left_over : None 16 (missed then) → (i q : ℕ) → i < t.n → q < jobs_of then i → 1 ≤ left then i q
  left_over fine i q b l =
      let c = sixteen i b in
      let four = jobs_four then i in
      let g = mid_going t good st snd named tasks free i b (from t good st snd named tasks free chosen i q) (from_below t good st snd named tasks free chosen i b q l) in
      let d = next_deadline t good st snd named tasks free chosen i c q l in
      let y = g.small in
      not_missed then i clock_small (fine i c) q (omega arith) (omega arith) (next_lives t good st snd named tasks free chosen i c q l)

  then_stands : None 16 (missed then) → Standing t then
  then_stands fine = next_stands t good st s named tasks free chosen only (left_over fine)

-- a choice of available vertices
abbrev pub OnlyAvailable : Table → State → List ℕ → Type 0
OnlyAvailable t st chosen = (k : ℕ) → is_in k chosen ≡ true → available t st k ≡ true

pub legal_only : (t : Table) (st : State) (chosen : List ℕ) → Legal t st chosen → OnlyAvailable t st chosen
unfolding availables
legal_only t st chosen l k e = (below_pass 1024 (available t st) k (l.only k e)).1

module _ (choose : Table → State → List ℕ) (t : Table) (good : GoodTable t) (st : State) (range : InRange st) (named : ℕ) (bits : named < 2 ^ 16) where
  module _ (a : Admitted choose t st named) where
    stands : Standing t st
    stands = fits_stands t good st a.fitting a.running range

    tasks : (i : ℕ) → bit named i ≡ true → i < t.n
    unfolding beyond
    tasks i e = leb-false t.n i (and_false (bit named i) _ (a.tasks i (held_below named i bits e)) e)

    free : (i : ℕ) → bit named i ≡ true → wait st i ≡ 0
    unfolding too_soon
    free i e = let z = ltb-false 0 (wait st i) (and_false (bit named i) _ (a.free i (tasks i e)) e) in omega arith

    module _ (only : OnlyAvailable t (released t st named) (chosen_in choose t st named)) where
      law : (k : ℕ) → is_in k (chosen_in choose t st named) ≡ true → available t (mid t good st (stands_sound t st stands) named tasks free) k ≡ true
      unfolding mid
      law = only

      pub goes_stands : None 16 (missed (after_ends choose t st named)) → Standing t (after_ends choose t st named)
      unfolding next ran mid
      goes_stands fine = then_stands t good st stands named tasks free (chosen_in choose t st named) law fine

      miss_task : (i : ℕ) → Lowest 16 (missed (after_ends choose t st named)) i → i < t.n
      unfolding next ran mid
      miss_task i l = miss_below t good st stands named tasks free (chosen_in choose t st named) law i l.below l.passes

      new_clock : (after_ends choose t st named).clock < 2 ^ 32
      unfolding next ran mid
      new_clock = clock_small t good st stands named tasks free (chosen_in choose t st named) law

      keeps_0 : None 16 (missed (after_ends choose t st named))
          → Keeps t st (ticked 0 255 (chosen_in choose t st named) (finished (after_work choose t st named)) (after_ends choose t st named))
      unfolding ticked
      keeps_0 fine =
          let s = goes_stands fine in
          record {
            answer = done refl s.running;
            fitting = stands_fits t good _ s;
            range = stands_range t _ s;
          }

      keeps_34 : (i : ℕ) → Lowest 16 (missed (after_ends choose t st named)) i
          → Keeps t st (ticked 34 i (chosen_in choose t st named) (finished (after_work choose t st named)) (zeros (after_ends choose t st named).clock (Stopped i)))
      unfolding ticked zeros
      keeps_34 i l = record {
        answer = missed_at i (miss_task i l) refl refl;
        fitting = stopped_fits t (after_ends choose t st named).clock i (miss_task i l);
        range = zeros_range (after_ends choose t st named).clock (Stopped i) new_clock;
      }

  module _ (fitting : fits t st ≡ true) (running : st.phase ≡ Running) where
    keeps_31 : (i : ℕ) → Keeps t st (refuse st 31 0 i)
    unfolding refuse
    keeps_31 i = record { answer = not_named refl refl; fitting = fitting; range = range }

    keeps_33 : (i : ℕ) → Keeps t st (refuse st 33 0 i)
    unfolding refuse
    keeps_33 i = record { answer = waits_on refl refl; fitting = fitting; range = range }

    -- A TICK of a running state that fits, however it chooses among the available vertices, answers 0, 34, 31 or 33, and fits
    pub any_tick_keeps : OnlyAvailable t (released t st named) (chosen_in choose t st named) → Keeps t st (tick_on choose t st named)
    any_tick_keeps only = go (tick_on choose t st named) (cases choose t st named)
      where
        go : (x : Ticked) → Case choose t st named x → Keeps t st x
        go x (unfit e q) = absurd (clash fitting e)
        go x (halted e k p q) = absurd (running_stopped st.phase k running p)
        go x (no_task_past e p i l q) = subst (Keeps t st) (sym q) (keeps_31 i)
        go x (early e p n i l q) = subst (Keeps t st) (sym q) (keeps_33 i)
        go x (misses a i l q) = subst (Keeps t st) (sym q) (keeps_34 a only i l)
        go x (goes_on_lem a n q) = subst (Keeps t st) (sym q) (keeps_0 a only n)

    -- the same of a legal tick
    pub legal_tick_keeps : Legal t (released t st named) (chosen_in choose t st named) → Keeps t st (tick_on choose t st named)
    legal_tick_keeps l = any_tick_keeps (legal_only t (released t st named) (chosen_in choose t st named) l)

-- and of the machine's own
pub own_tick_keeps : (t : Table) → GoodTable t → (st : State) → InRange st → (named : ℕ) → named < 2 ^ 16
    → fits t st ≡ true → st.phase ≡ Running → Keeps t st (tick_on own_choice t st named)
own_tick_keeps t good st range named bits fitting running =
    legal_tick_keeps own_choice t good st range named bits fitting running (own_legal t (released t st named))
