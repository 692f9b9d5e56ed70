-- Judging a journal in pieces, so that a buffer of some size is enough for any length. A row has at most 5 + 3 * 255 = 770 bytes.
-- Proved in proofs/Pieces.antt.
use Rattle.std.specs.Prelude.{◌≡◌, List, ◌++◌, ℕ, ◌+◌, ◌^◌, ◌≤◌, ◌<◌, length, get_or, drop, eqb}
use Rattle.graph.specs.Words.{pick}
use Rattle.table.specs.declared.Table.{Table}
use Rattle.machine.specs.declared.State.{State}
use Rattle.journal.specs.declared.Progress.{Progress}
use Rattle.journal.specs.Judging.{judge_rows, start}

-- what q is, counted from where p ends
unfoldable pub behind : Progress → Progress → Progress
behind p q = record { number = q.number; next = p.next + q.next; rows = p.rows + q.rows; state = q.state }

-- p is what came of the rows of the piece s. If one was refused that is all; otherwise what is left of s, and all that follows it,
-- is judged from the state where p ends.
unfoldable pub go_on : Table → List ℕ → List ℕ → Progress → Progress
go_on t s r p =
    let left = drop p.next s ++ r in
    pick (eqb p.number 0) (behind p (judge_rows t left (length left) (start p.state))) p

-- A piece s, and r follows it. The rows that begin before `end` are judged by the piece alone, if 769 bytes or more stand behind `end`.
abbrev pub InPieces : Type 0
InPieces =
    (t : Table) (s r : List ℕ) → ((k : ℕ) → get_or s k 0 < 2 ^ 8)
    → (end : ℕ) → end + 769 ≤ length s
    → (st : State) → judge_rows t (s ++ r) (length (s ++ r)) (start st) ≡ go_on t s r (judge_rows t s end (start st))
