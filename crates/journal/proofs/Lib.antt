-- Judging row by row.
pub mod Going
-- Pieces of a journal.
pub mod SameRow
-- Lists of vertices.
pub mod Keys
-- The tests of a row.
pub mod Passing
pub mod Pieces
-- Its bytes.
pub mod Written
-- A legal tick.
pub mod Ticks
pub mod Lawful
-- Whole runs.
pub mod Judged
pub mod Clocks
pub mod Own
pub mod Once
-- THE THEOREMS.
pub mod Accepts
-- The examples.
pub mod Computed
-- The tests of a row in code.
pub mod RowTests
pub mod Counted
pub mod Triples
pub mod SetTests
pub mod RowFaults
pub mod Entries
-- Each public contract allows one result.
pub mod Unique
