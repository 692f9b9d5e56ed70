-- What the code's parts do, for their contracts: a part answers a refusal or what it read, and a task's costs go straight to their places
-- of the row.
use Rattle.std.specs.Prelude.{◌≡◌, ⊤, List, ℕ, ◌+◌, ◌≤◌, get_or, Result, Ok, Err, MatchResult}
use Rattle.table.specs.declared.Table.{Table}
use Rattle.table.specs.declared.Outcome.{Outcome}
use Rattle.table.specs.declared.Outcome.TheVariants.{Read}
use Rattle.table.specs.declared.TableRead.{TableRead}
use Rattle.table.specs.declared.reading.TaskFound.{TaskFound}
use Rattle.table.specs.declared.reading.Head.{Head}
use Rattle.table.specs.Reading.{TaskRead, onward, when_read, mark_at, byte_at, put_costs, bad_table}

-- whether a part was read
unfoldable pub told : Outcome → Result ⊤ Outcome
told o = when_read o Err λ _. Ok tt

unfoldable pub marked : ℕ → List ℕ → ℕ → Result ⊤ Outcome
marked b s at = onward (mark_at b s at) Err λ _. Ok tt

-- what a task is beside its costs
unfoldable pub found : TaskRead → Result TaskFound Outcome
found r = when_read r.outcome Err λ _. Ok (record { next = r.next; task = r.task })

-- the row before and after task i: where the task was read, it has the task's own sixteen costs
abbrev pub InRow : TaskRead → ℕ → List ℕ → List ℕ → Type 0
InRow r i before after = r.outcome ≡ Read → after ≡ put_costs before i r.costs

-- nothing but zeros from a place of the row on
abbrev pub ZeroFrom : ℕ → List ℕ → Type 0
ZeroFrom from costs = (k : ℕ) → from ≤ k → get_or costs k 0 ≡ 0

-- the task records: the place after them, with the table that has them, or a refusal, whatever the table has then
abbrev pub TasksRead : Result ℕ Outcome → Table → TableRead → Type 0
TasksRead result table r = MatchResult result (λ next. record { outcome = Read; next = next; table = table } ≡ r) (λ o. (o ≡ Read → ⊥) × (bad_table o ≡ r))

-- the table record: mark 54 42; m; n
unfoldable pub head_at : List ℕ → ℕ → Result Head Outcome
head_at s at =
    onward (mark_at 0x42 s at) Err λ _.
    onward (byte_at 1 8 s (at + 2)) Err λ m.
    onward (byte_at 1 16 s (at + 3)) Err λ n. Ok (record { m = m; n = n })
