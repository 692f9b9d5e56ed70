-- What the code goes over, for the contracts of its parts: each task's period and vol.
use Rattle.std.specs.Prelude.{◌≡◌, List, ℕ, ◌*◌, ◌<◌, get_or}
use Rattle.graph.specs.Words.{sum}
use Rattle.table.specs.declared.Table.{Table}
use Rattle.table.specs.Memory.{T}
use Rattle.verdict.specs.Verdicts.{rounded_up, vol}
use Rattle.quick.specs.declared.sums.Load.{Load}

abbrev pub no_load : Load
no_load = record { period = 0; vol = 0 }

abbrev pub load : List Load → ℕ → Load
load l i = get_or l i no_load

-- those of the first n tasks of a table
pub record Loads (t : Table) (n : ℕ) (l : List Load) : Type 0 where
  pub period_is : (i : ℕ) → i < n → (load l i).period ≡ T t i
  pub vol_is : (i : ℕ) → i < n → (load l i).vol ≡ vol t i

-- what the first n of them owe within d ticks
unfoldable pub owed : List Load → ℕ → ℕ → ℕ
owed l n d = sum n (λ i. rounded_up d (load l i).period * (load l i).vol)
