-- A test of each number below n, and the vertices of which something remains as a set.
pub mod Behind
pub mod Rows
-- The cases that the code tells apart, each with what the rules say of it.
pub mod Cases
-- The vertices of a slot that are ready.
pub mod Holding
-- Each public contract allows one result.
pub mod Unique
