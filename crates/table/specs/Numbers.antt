-- Document 01, "Numbers for reading and writing": the number and the place of each outcome.
use Rattle.std.specs.Prelude.{ℕ}
use Rattle.table.specs.declared.Outcome.{Outcome}
use Rattle.table.specs.declared.Outcome.TheVariants.{Read, Short, Mark, Range, Ticks, Order, Edge, Cycle, Extra}
use Rattle.table.specs.declared.Written.{Written}
use Rattle.table.specs.declared.Written.TheVariants.{Done, Refused, Unused, Room}

-- READING: the table of numbers, 1 to 8; "Success has number 0"
unfoldable pub number : Outcome → ℕ
number Read = 0
number (Short p) = 1
number (Mark p) = 2
number (Range p) = 3
number (Ticks p) = 4
number (Order p) = 5
number (Edge p) = 6
number (Cycle p) = 7
number (Extra p) = 8

-- "its place is 0 for the reader"; each refusal holds its own
unfoldable pub place : Outcome → ℕ
place Read = 0
place (Short p) = p
place (Mark p) = p
place (Range p) = p
place (Ticks p) = p
place (Order p) = p
place (Edge p) = p
place (Cycle p) = p
place (Extra p) = p

-- WRITING: reading's numbers, then 10, then 9
unfoldable pub writing_number : Written → ℕ
writing_number (Done l) = 0
writing_number (Refused o) = number o
writing_number Unused = 10
writing_number (Room l) = 9

-- "the file's length for the writer"; the reader's place; "10 at place 0"; "9, whose place is the length needed"
unfoldable pub writing_place : Written → ℕ
writing_place (Done l) = l
writing_place (Refused o) = place o
writing_place Unused = 0
writing_place (Room l) = l
