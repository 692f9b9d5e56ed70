-- The judge: document 02, M-100. "Given a table and a journal, say that every row is a legal tick in document 01's wide sense,
-- starting idle, and give the number of rows and whether the last one missed; or give the refusal's number and row, counted
-- from 0 (for reading's numbers the place, row 0)."
use Rattle.std.specs.Prelude.{Bool, true, false, ◌||◌, not, List, ℕ, zero, suc, ◌+◌, ◌-◌, length, leb, eqb}
use Rattle.graph.specs.Words.{pick}
use Rattle.table.specs.declared.Table.{Table}
use Rattle.table.specs.declared.Outcome.{Outcome}
use Rattle.table.specs.declared.Loaded.{Loaded}
use Rattle.table.specs.Numbers.{number, place}
use Rattle.table.specs.Reading.{when_read, read}
use Rattle.machine.specs.declared.Phase.TheVariants.{Running}
use Rattle.machine.specs.declared.State.{State}
use Rattle.machine.specs.States.{zeros}
use Rattle.machine.specs.Ticking.{advance}
use Rattle.journal.specs.declared.Ruling.{Ruling}
use Rattle.journal.specs.declared.Progress.{Progress}
use Rattle.journal.specs.Rows.{row_set, row_end, listed, is_stopped, fault}

-- A ROW: a legal one is the machine's tick, which runs what the row lists; another is refused, and nothing moves
unfoldable pub ruled : ℕ → Table → List ℕ → Progress → Progress
ruled n t s p =
    pick (eqb n 0)
    (record { number = 0; next = row_end s p.next; rows = p.rows + 1; state = (advance t p.state (row_set s p.next) (listed s p.next)).state })
    (record { number = n; next = p.next; rows = p.rows; state = p.state })

unfoldable pub judge_row : Table → List ℕ → Progress → Progress
judge_row t s p = ruled (fault t p.state s p.next) t s p

-- ROW BY ROW, those that begin before place `end`, until one is refused. k bounds the number of rows: as many as there are
-- bytes to `end` will do, for a row takes five or more (`rows_step`, proofs/Going.antt).
unfoldable pub is_over : ℕ → Progress → Bool
is_over end p = leb end p.next || not (eqb p.number 0)

abbrev pub unless {ℓ} : {X : Type ℓ} → Bool → X → (Unit {0} → X) → X
unless true over more = over
unless false over more = more tt

unfoldable pub rows_for : Table → List ℕ → ℕ → ℕ → Progress → Progress
rows_for t s end zero p = p
rows_for t s end (suc k) p = unless (is_over end p) p λ _. rows_for t s end k (judge_row t s p)

unfoldable pub judge_rows : Table → List ℕ → ℕ → Progress → Progress
judge_rows t s end p = rows_for t s end (end - p.next) p

-- before the first row
unfoldable pub start : State → Progress
start st = record { number = 0; next = 0; rows = 0; state = st }

-- THE RULING. On a refusal the number of rows is 0 and none missed; the place is 0 except for reading's numbers.
unfoldable pub ruling : Progress → Ruling
ruling p =
    pick (eqb p.number 0)
    (record { number = 0; place = 0; row = 0; rows = p.rows; missed = is_stopped p.state.phase })
    (record { number = p.number; place = 0; row = p.rows; rows = 0; missed = false })

-- on a table: "starting idle", the clock at 0, on which nothing depends (`run_too`, proofs/Clocks.antt)
unfoldable pub judge_on : Table → List ℕ → Ruling
judge_on t s = ruling (judge_rows t s (length s) (start (zeros 0 Running)))

-- "for reading's numbers the place, row 0"
unfoldable pub unread : Outcome → Ruling
unread o = record { number = number o; place = place o; row = 0; rows = 0; missed = false }

-- on what reading gave: its numbers come first
unfoldable pub judge_read : Loaded → List ℕ → Ruling
judge_read r s = when_read r.outcome unread λ _. judge_on r.table s

-- "Given a table and a journal"
unfoldable pub judge : List ℕ → List ℕ → Ruling
judge file s = judge_read (read file) s
