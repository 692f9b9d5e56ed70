-- A FIFTH PLACE IS NEVER NEEDED (document 02, M-109): in a running state that fits, a task whose wait is 0 has at most three live jobs, so the job that
-- it releases stands at one of its four places. Why is in proofs/Crowded.antt.
use Rattle.std.proofs.Common.{◌≡◌, ℕ, ◌*◌, ◌<◌, ◌≤◌, true, arith}
use Rattle.table.specs.declared.Table.{Table}
use Rattle.table.specs.Memory.{D, T}
use Rattle.table.specs.Good.{GoodTable}
use Rattle.machine.specs.declared.Phase.TheVariants.{Running}
use Rattle.machine.specs.declared.State.{State}
use Rattle.machine.specs.States.{wait, jobs_of}
use Rattle.machine.specs.Fitting.{fits}
use Rattle.machine.proofs.Clauses.{used_task}
use Rattle.machine.proofs.Crowded.{at_most_three}

-- "Allow D up to four times T."
pub within_four : (t : Table) → GoodTable t → (i : ℕ) → i < t.n → D t i ≤ 4 * T t i
within_four t good i b = let h = (good.each i b).D_T in omega arith

module _ (t : Table) (good : GoodTable t) (st : State) (fitting : fits t st ≡ true) (running : st.phase ≡ Running) (i : ℕ) (used : i < t.n) where
  pub fifth_place : wait st i ≡ 0 → jobs_of st i ≤ 3
  fifth_place w =
      let n = good.n_high in
      at_most_three t st i (within_four t good i used) (used_task t st fitting running i (omega arith) used) w
