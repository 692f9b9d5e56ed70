-- WHAT A RUN KEEPS OF A STATE, WHATEVER TIMES ITS JOBS DREW: all that standing says (proofs/Standing.antt) but for the costs. Where steps end early each job
-- has times of its own, several of one task too, so what remains is within no one table's costs; and nothing of the tick's course hangs on that. A state
-- that was just opened is sound, for it has no jobs, and one that stands is sound.
use Rattle.std.proofs.Common.{◌≡◌, ℕ, ◌+◌, ◌-◌, ◌*◌, ◌^◌, ◌<◌, ◌≤◌, true, arith}
use native.Mathlib.Decide.{dec_le}
use Rattle.table.specs.declared.Table.{Table}
use Rattle.table.specs.Memory.{D, T}
use Rattle.table.specs.Good.{GoodTable}
use Rattle.machine.specs.declared.Phase.TheVariants.{Running}
use Rattle.machine.specs.declared.State.{State}
use Rattle.machine.specs.States.{live, wait, deadline, jobs_of, left, zeros}
use Rattle.machine.proofs.Clauses.{jobs_four}
use Rattle.machine.proofs.Working.{WorkKept}
use Rattle.machine.proofs.Standing.{Resting, Standing, opened_stands}

-- a live job
pub record Dated (st : State) (i p : ℕ) : Type 0 where
  pub small : deadline st i p < 2 ^ 32
  pub ahead : 1 ≤ left st i p

pub record Sound (t : Table) (st : State) : Type 0 where
  pub running : st.phase ≡ Running
  pub clock : st.clock < 2 ^ 32
  pub lives : (i p : ℕ) → i < t.n → p < jobs_of st i → live st i p ≡ true
  pub going : (i p : ℕ) → i < t.n → p < jobs_of st i → Dated st i p
  pub soon : (i p : ℕ) → i < t.n → p < jobs_of st i → left st i p < D t i
  pub apart : (i p : ℕ) → i < t.n → p + 1 < jobs_of st i → left st i p + T t i ≤ left st i (p + 1)
  pub resting : (i p : ℕ) → i < t.n → jobs_of st i ≤ p → p < 4 → Resting st i p
  pub short : (i : ℕ) → i < t.n → wait st i < T t i
  pub waits : (i : ℕ) → i < t.n → 1 ≤ jobs_of st i → T t i + left st i (jobs_of st i - 1) ≤ wait st i + D t i
  pub unused : (i p : ℕ) → t.n ≤ i → i < 16 → p < 4 → Resting st i p
  pub works : WorkKept st

pub stands_sound : (t : Table) (st : State) → Standing t st → Sound t st
stands_sound t st s = record {
  running = s.running;
  clock = s.clock;
  lives = s.lives;
  going = λ i p b l. let g = s.going i p b l in record { small = g.small; ahead = g.ahead };
  soon = s.soon;
  apart = s.apart;
  resting = s.resting;
  short = s.short;
  waits = s.waits;
  unused = s.unused;
  works = s.works;
}

pub opened_sound : (t : Table) → GoodTable t → (c : ℕ) → c < 2 ^ 32 → Sound t (zeros c Running)
opened_sound t good c h = stands_sound t (zeros c Running) (opened_stands t good c h)

-- A FIFTH PLACE IS NEVER NEEDED, of a sound state: as proofs/Fifth.antt has it of one that fits
pub at_most_three : (t : Table) (st : State) → Sound t st → (i : ℕ) → i < t.n → D t i ≤ 4 * T t i → wait st i ≡ 0 → jobs_of st i ≤ 3
at_most_three t st s i b d w = elim (dec_le (jobs_of st i) 3) [
  | yes l ↦ l
  | no l ↦
      let h = jobs_four st i in
      let four : jobs_of st i ≡ 4 = omega arith in
      let oldest = (s.going i 0 b (omega arith)).ahead in
      let a₁ : left st i 0 + T t i ≤ left st i 1 = s.apart i 0 b (omega arith) in
      let a₂ : left st i 1 + T t i ≤ left st i 2 = s.apart i 1 b (omega arith) in
      let a₃ : left st i 2 + T t i ≤ left st i 3 = s.apart i 2 b (omega arith) in
      let newest : T t i + left st i 3 ≤ wait st i + D t i = rw four at (s.waits i b (omega arith)) in
      absurd (omega arith)
]
