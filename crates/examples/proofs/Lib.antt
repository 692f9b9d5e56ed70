-- Why the examples are computed without the test that a state fits.
pub mod Going
-- The examples.
pub mod Computed
pub mod Marks
pub mod Several
pub mod Later
pub mod Lines
pub mod Sharp
-- Demand 3 is not empty.
pub mod Alike
pub mod Witness
pub mod Early
-- Files that reach both ends of the margins' ranges.
pub mod Ends
pub mod SharpEnds
