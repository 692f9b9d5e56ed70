-- How the code judges a row, for the contracts of its parts: each slot, 16 times age place plus task, has a set of vertices as sixteen bits. And judging
-- a piece.
use Rattle.std.specs.Prelude.{◌≡◌, Bool, ◌&&◌, ◌||◌, not, List, ℕ, ◌+◌, ◌*◌, ◌≤◌, ◌<◌, get_or, ltb}
use Rattle.graph.specs.Words.{pick, bit, all, is_in}
use Rattle.table.specs.declared.Table.{Table}
use Rattle.machine.specs.declared.State.{State}
use Rattle.journal.specs.declared.Progress.{Progress}
use Rattle.journal.specs.Rows.{row_count, row_task, row_age, row_vertex}
use Rattle.journal.specs.Judging.{judge_rows, start}

-- a triple is a vertex in its slot's set
unfoldable pub in_set : List ℕ → ℕ → ℕ → ℕ → Bool
in_set sets i p u = ltb i 16 && ltb p 4 && ltb u 16 && bit (get_or sets (16 * p + i) 0) u

-- each triple of the row is a vertex in its slot's set
unfoldable pub all_in : List ℕ → List ℕ → ℕ → Bool
all_in sets s at = all (row_count s at) (λ j. in_set sets (row_task s at j) (row_age s at j) (row_vertex s at j))

-- each triple of the row is a vertex
unfoldable pub AreVertices : List ℕ → ℕ → Type 0
AreVertices s at = (j : ℕ) → j < row_count s at → (row_task s at j < 16) × (row_age s at j < 4) × (row_vertex s at j < 16)

-- the slot of triple j
unfoldable pub row_slot : List ℕ → ℕ → ℕ → ℕ
row_slot s at j = 16 * row_age s at j + row_task s at j

-- `rest` is the sets without the vertices of a list
unfoldable pub Without : List ℕ → List ℕ → List ℕ → Type 0
Without sets chosen rest =
    (i p u : ℕ) → i < 16 → p < 4 → u < 16
    → bit (get_or rest (16 * p + i) 0) u ≡ (bit (get_or sets (16 * p + i) 0) u && not (is_in (64 * i + 16 * p + u) chosen))

-- "m 1 to 8, n 1 to 16": a table that is above either, or not
unfoldable pub too_wide : Table → Bool
too_wide t = ltb 8 t.m || ltb 16 t.n

pub record Narrow (t : Table) : Type 0 where
  pub m_high : t.m ≤ 8
  pub n_high : t.n ≤ 16

-- A PIECE s of a journal, from a state on: its rows that begin before place `end`, counted from 0 (what it is of the whole:
-- `InPieces`, specs/Pieces.antt). Any table may be handed over: one above the ranges is refused with 3, "m, n, v or e outside its
-- range", and nothing moves; no file gives such a table (`piece_read`, proofs/Entries.antt).
unfoldable pub judge_piece : Table → List ℕ → ℕ → State → Progress
judge_piece t s end st = pick (too_wide t) (record { number = 3; next = 0; rows = 0; state = st }) (judge_rows t s end (start st))
