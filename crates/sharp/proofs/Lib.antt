-- SUMS: which h count, and the closed form of what a vertex asks for over all of them.
pub mod Sums
-- TAILS of a good table's tasks; RANGES: the due work and both ends of the margin.
pub mod Tails
pub mod Due
pub mod Range
-- WHAT EACH NUMBER SAYS: reading's 1 to 8, 22, 23 and 0; the chain of the task that is named; 0 in natural numbers, as the crate promise uses it, and that
-- the old yes is a sharp yes.
pub mod Says
pub mod Named
pub mod Accepts
-- THE CODE: laws that its proofs cite.
pub mod Reckoned
pub mod Judged
pub mod Unique
