-- THE LINES: their length; the first 5,061 bytes of a table are enough.
pub mod Length
pub mod TypedAnswers
pub mod Held
-- THE CODE: laws that its proofs cite.
pub mod Parted
pub mod Lined
pub mod Named
pub mod Rulings
pub mod Steps
pub mod Unique
