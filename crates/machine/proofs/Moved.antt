-- What a tick makes of a state, by task, age place and vertex, where it answers 0 or 34: for every table, state, release set and way to choose. Each step's
-- formula by index (proofs/Index.antt), one put into the other; the job at place q afterwards is the q-th of those that go on.
use Rattle.std.proofs.Common.{◌≡◌, ℕ, ◌+◌, ◌-◌, ◌*◌, ◌<◌, ◌≤◌, ◌⊎◌, List, sym, refl, ap, ◌∙◌, subst, ⊎_elim, arith}
use Rattle.graph.specs.Words.{pick, bit, is_in}
use Rattle.table.specs.declared.Table.{Table}
use Rattle.table.specs.Memory.{D, T, cost}
use Rattle.machine.specs.declared.Phase.TheVariants.{Stopped}
use Rattle.machine.specs.declared.State.{State}
use Rattle.machine.specs.declared.Ticked.{Ticked}
use Rattle.machine.specs.States.{wait, deadline, jobs_of, remaining, wrap, zeros}
use Rattle.machine.specs.Steps.{is_new, released, finished}
use Rattle.machine.specs.Ticking.{run_list, ticked, refuse, tick_on}
use Rattle.machine.proofs.Index.{released_clock, released_wait, released_deadline, released_remaining, worked_clock, worked_wait, worked_deadline, worked_remaining, going, was, going_four, was_live, closed_in, closed_out, ended_clock, ended_wait, ended_jobs, ended_none, ended_deadline, ended_remaining}
use Rattle.machine.proofs.Standing.{Resting}
use Rattle.machine.proofs.Cases.{chosen_in, after_work, after_ends, Case, unfit, halted, no_task_past, early, misses, goes_on_lem, cases}

-- a job within the tick: of the new one "its costs remaining; its deadline is the clock plus D, a 32-bit sum that wraps on purpose"
unfoldable pub remains_within : Table → State → ℕ → ℕ → ℕ → ℕ → ℕ
remains_within t st named i p u = pick (is_new st named i p) (cost t i u) (remaining st i p u)

unfoldable pub deadline_within : Table → State → ℕ → ℕ → ℕ → ℕ
deadline_within t st named i p = pick (is_new st named i p) (wrap (st.clock + D t i)) (deadline st i p)

-- answered 0: "Each that ran has one tick less remaining; the clock goes on by one, wrapping. A named task's wait becomes T minus 1;
-- any other falls by one, not below 0." "a job's end closes its gap"
pub record Moved (choose : Table → State → List ℕ) (t : Table) (st : State) (named : ℕ) (x : Ticked) : Type 0 where
  pub clock : x.state.clock ≡ wrap (st.clock + 1)
  pub waits : (i : ℕ) → i < 16 → wait x.state i ≡ pick (bit named i) (T t i - 1) (wait st i - 1)
  pub jobs : (i : ℕ) → i < 16 → jobs_of x.state i ≡ going (after_work choose t st named) i
  pub deadlines : (i q : ℕ) → i < 16 → q < going (after_work choose t st named) i
      → deadline x.state i q ≡ deadline_within t st named i (was (after_work choose t st named) i q)
  pub remains : (i q u : ℕ) → i < 16 → q < going (after_work choose t st named) i → u < 16
      → remaining x.state i q u
      ≡ pick (is_in (64 * i + 16 * was (after_work choose t st named) i q + u) (chosen_in choose t st named))
      (remains_within t st named i (was (after_work choose t st named) i q) u - 1) (remains_within t st named i (was (after_work choose t st named) i q) u)
  pub others : (i q : ℕ) → i < 16 → going (after_work choose t st named) i ≤ q → q < 4 → Resting x.state i q

-- answered 34: "the state is stopped there, holding the new clock and zeros"
abbrev pub StoppedThere : State → Ticked → Type 0
StoppedThere st x = x.state ≡ zeros (wrap (st.clock + 1)) (Stopped x.answer.reply.task)

-- "With 0 or 34 come the vertices that ran, .. and the set of tasks finished"
pub record Tells (choose : Table → State → List ℕ) (t : Table) (st : State) (named : ℕ) (x : Ticked) : Type 0 where
  pub ran : x.answer.ran ≡ run_list (chosen_in choose t st named)
  pub done : x.answer.finished ≡ finished (after_work choose t st named)

module _ (choose : Table → State → List ℕ) (t : Table) (st : State) (named : ℕ) where
  abbrev worn : State
  worn = after_work choose t st named

  new_clock : (after_ends choose t st named).clock ≡ wrap (st.clock + 1)
  new_clock = ended_clock worn ∙ worked_clock t (released t st named) named (chosen_in choose t st named)
      ∙ ap (λ (c : ℕ). wrap (c + 1)) (released_clock t st named)

  new_wait : (i : ℕ) → i < 16 → wait (after_ends choose t st named) i ≡ pick (bit named i) (T t i - 1) (wait st i - 1)
  new_wait i b = ended_wait worn i b ∙ worked_wait t (released t st named) named (chosen_in choose t st named) i b
      ∙ ap (λ (w : ℕ). pick (bit named i) (T t i - 1) (w - 1)) (released_wait t st named i b)

  module _ (i : ℕ) (b : i < 16) (q : ℕ) (l : q < going worn i) where
    four : q < 4
    four = let h = going_four worn i in omega arith

    place : was worn i q < 4
    place = (was_live worn i q l).0

    new_deadline : deadline (after_ends choose t st named) i q ≡ deadline_within t st named i (was worn i q)
    unfolding deadline_within
    new_deadline = ended_deadline worn i b q four l ∙ worked_deadline t (released t st named) named (chosen_in choose t st named) i b (was worn i q)
        ∙ released_deadline t st named i b (was worn i q) place

    new_remaining : (u : ℕ) → u < 16
        → remaining (after_ends choose t st named) i q u
        ≡ pick (is_in (64 * i + 16 * was worn i q + u) (chosen_in choose t st named)) (remains_within t st named i (was worn i q) u - 1) (remains_within t st named i (was worn i q) u)
    unfolding remains_within
    new_remaining u h = ended_remaining worn i b q four u h ∙ closed_in worn i q (λ p. remaining worn i p u) 0 l
        ∙ worked_remaining t (released t st named) named (chosen_in choose t st named) i b (was worn i q) place u h
        ∙ ap (λ (r : ℕ). pick (is_in (64 * i + 16 * was worn i q + u) (chosen_in choose t st named)) (r - 1) r) (released_remaining t st named i b (was worn i q) place u h)

  new_rest : (i q : ℕ) → i < 16 → going worn i ≤ q → q < 4 → Resting (after_ends choose t st named) i q
  new_rest i q b l h = record {
    idles = ended_none worn i b q h l;
    none = λ u m. ended_remaining worn i b q h u m ∙ closed_out worn i q (λ p. remaining worn i p u) 0 l;
  }

  -- all three at once, each under its number
  record Does (x : Ticked) : Type 0 where
    moves : x.answer.reply.number ≡ 0 → Moved choose t st named x
    stops : x.answer.reply.number ≡ 34 → StoppedThere st x
    tells : (x.answer.reply.number ≡ 0) ⊎ (x.answer.reply.number ≡ 34) → Tells choose t st named x

  does_not : (n k : ℕ) → 30 ≤ n → n < 34 → Does (refuse st n 0 k)
  unfolding refuse
  does_not n k low high = record {
    moves = λ e. absurd (omega arith);
    stops = λ e. absurd (omega arith);
    tells = λ e. absurd (⊎_elim (λ z. omega arith) (λ z. omega arith) e);
  }

  does_34 : (i : ℕ) → Does (ticked 34 i (chosen_in choose t st named) (finished worn) (zeros (after_ends choose t st named).clock (Stopped i)))
  unfolding ticked
  does_34 i = record {
    moves = λ e. absurd (omega arith);
    stops = λ e. ap (λ (c : ℕ). zeros c (Stopped i)) new_clock;
    tells = λ e. record { ran = refl; done = refl };
  }

  does_0 : Does (ticked 0 255 (chosen_in choose t st named) (finished worn) (after_ends choose t st named))
  unfolding ticked
  does_0 = record {
    moves = λ e. record {
      clock = new_clock;
      waits = new_wait;
      jobs = λ i b. ended_jobs worn i b;
      deadlines = λ i q b l. new_deadline i b q l;
      remains = λ i q u b l h. new_remaining i b q l u h;
      others = new_rest;
    };
    stops = λ e. absurd (omega arith);
    tells = λ e. record { ran = refl; done = refl };
  }

  does : Does (tick_on choose t st named)
  does = go (tick_on choose t st named) (cases choose t st named)
    where
      go : (x : Ticked) → Case choose t st named x → Does x
      go x (unfit e q) = subst Does (sym q) (does_not 30 255 (omega arith) (omega arith))
      go x (halted e k p q) = subst Does (sym q) (does_not 32 255 (omega arith) (omega arith))
      go x (no_task_past e p i l q) = subst Does (sym q) (does_not 31 i (omega arith) (omega arith))
      go x (early e p n i l q) = subst Does (sym q) (does_not 33 i (omega arith) (omega arith))
      go x (misses a i l q) = subst Does (sym q) (does_34 i)
      go x (goes_on_lem a n q) = subst Does (sym q) does_0

  -- A TICK ANSWERED 0 moves the state on
  pub tick_moves : (tick_on choose t st named).answer.reply.number ≡ 0 → Moved choose t st named (tick_on choose t st named)
  tick_moves = does.moves

  -- A TICK ANSWERED 34 stops it
  pub tick_stops : (tick_on choose t st named).answer.reply.number ≡ 34 → StoppedThere st (tick_on choose t st named)
  tick_stops = does.stops

  -- BOTH tell what ran and what finished
  pub tick_tells : ((tick_on choose t st named).answer.reply.number ≡ 0) ⊎ ((tick_on choose t st named).answer.reply.number ≡ 34) → Tells choose t st named (tick_on choose t st named)
  tick_tells = does.tells
