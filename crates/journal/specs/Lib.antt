-- Document 02, M-100: a row and its refusals; the judge.
pub mod Rows
pub mod Faults
pub mod Judging
-- How the code judges a row, for the contracts of its parts; a piece of a journal.
pub mod Listing
-- Runs and their writing; what the judge accepts, stated.
pub mod Runs
pub mod Accepting
-- Judging in pieces, stated.
pub mod Pieces
-- Examples, stated.
pub mod Examples
