-- The writer's tests 3 to 7 on the table itself, in file order, as the code goes through them; `checked_is` (proofs/Checks.antt) says what they mean.
pub mod Checking
