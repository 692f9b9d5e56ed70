-- WHY FOUR PLACES ARE ENOUGH. With wait 0 the newest job has at most D minus T ticks left, at most three times T; while four jobs, T ticks apart and the
-- oldest with one tick left or more, would leave the newest three times T and one.
use Rattle.std.proofs.Common.{◌≡◌, ℕ, ◌+◌, ◌*◌, ◌≤◌, arith}
use native.Mathlib.Decide.{dec_le}
use Rattle.table.specs.declared.Table.{Table}
use Rattle.table.specs.Memory.{D, T}
use Rattle.machine.specs.declared.State.{State}
use Rattle.machine.specs.States.{wait, jobs_of, left}
use Rattle.machine.proofs.Clauses.{jobs_four, UsedFits}

pub at_most_three : (t : Table) (st : State) (i : ℕ) → D t i ≤ 4 * T t i → UsedFits t st i → wait st i ≡ 0 → jobs_of st i ≤ 3
at_most_three t st i d f w = elim (dec_le (jobs_of st i) 3) [
  | yes l ↦ l
  | no l ↦
      let h = jobs_four st i in
      let four : jobs_of st i ≡ 4 = omega arith in
      let oldest = (f.jobs 0 (omega arith)).ahead in
      let a₁ : left st i 0 + T t i ≤ left st i 1 = f.apart 0 (omega arith) in
      let a₂ : left st i 1 + T t i ≤ left st i 2 = f.apart 1 (omega arith) in
      let a₃ : left st i 2 + T t i ≤ left st i 3 = f.apart 2 (omega arith) in
      let newest : T t i + left st i 3 ≤ wait st i + D t i = rw four at (f.waits (omega arith)) in
      absurd (omega arith)
]

-- where D is at most T, as it was before, there is one at most
pub at_most_one : (t : Table) (st : State) (i : ℕ) → D t i ≤ T t i → UsedFits t st i → jobs_of st i ≤ 1
at_most_one t st i d f = elim (dec_le (jobs_of st i) 1) [
  | yes l ↦ l
  | no l ↦
      let a : left st i 0 + T t i ≤ left st i 1 = f.apart 0 (omega arith) in
      let oldest = (f.jobs 0 (omega arith)).ahead in
      let h = (f.jobs 1 (omega arith)).soon in
      absurd (omega arith)
]
