-- What the code works on, for the contracts of its parts: the measures of a table's tasks, a row of sixteen for each.
use Rattle.std.specs.Prelude.{◌≡◌, List, ℕ, ◌+◌, ◌*◌, ◌-◌, ◌^◌, ◌<◌, min, length, get_or, ltb, ℤ, pos, ◌-ℤ◌}
use Rattle.graph.specs.Words.{pick, sum}
use Rattle.chains.specs.Chains.{chain_of}
use Rattle.table.specs.declared.Table.{Table}
use Rattle.table.specs.Memory.{no_succ, D, T, succ}
use Rattle.verdict.specs.declared.measuring.Measures.{Measures}
use Rattle.verdict.specs.declared.Decided.{Decided}
use Rattle.verdict.specs.declared.Verdict.{Verdict}
use Rattle.verdict.specs.Verdicts.{vol, len, rounded_up, in_places, up_to}

pub record Holds (t : Table) (x : Measures) : Type 0 where
  pub m_is : x.m ≡ t.m
  pub n_is : x.n ≡ t.n
  pub D_is : (k : ℕ) → k < t.n → get_or x.deadlines k 0 ≡ D t k
  pub T_is : (k : ℕ) → k < t.n → get_or x.periods k 0 ≡ T t k
  pub vol_is : (k : ℕ) → k < t.n → get_or x.vols k 0 ≡ vol t k
  pub len_is : (k : ℕ) → k < t.n → get_or x.lens k 0 ≡ len t k
  -- from n on they are 0
  pub deadlines_are : x.deadlines ≡ up_to t.n (D t)
  pub vols_are : x.vols ≡ up_to t.n (vol t)
  pub lens_are : x.lens ≡ up_to t.n (len t)

-- what is due for task k by the measures, and its margin
unfoldable pub due_in : Measures → ℕ → ℕ
due_in x k = sum x.n (λ i. rounded_up (get_or x.deadlines k 0) (get_or x.periods i 0) * get_or x.vols i 0)

unfoldable pub margin_in : Measures → ℕ → ℤ
margin_in x k =
    pos (x.m * get_or x.deadlines k 0) -ℤ pos ((x.m - 1) * min (get_or x.lens k 0) (2 ^ 53) + min (due_in x k) (2 ^ 53))

-- a verdict on a table without its chain, which is looked for when the task is known
unfoldable pub decided : Verdict → Decided
decided v = record { number = v.number; task = v.task; margin = v.margin }

-- the same with the chain of its task, whose successors and costs lie in memory
unfoldable pub with_chain : Decided → List ℕ → List ℕ → Verdict
with_chain d succ own = record {
  number = d.number;
  place = 0;
  task = d.task;
  margin = d.margin;
  count = length (chain_of succ own);
  chain = in_places (chain_of succ own);
}

-- a task's successors; of a task that the table does not have, none
unfoldable pub own_succ : Table → ℕ → List ℕ
own_succ t k = pick (ltb k 16) (succ t k) no_succ
