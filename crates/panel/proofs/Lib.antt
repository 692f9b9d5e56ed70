-- Answers  an answer put together from what the functions below the C face gave is the one that its definition gives
-- Crossing a state crosses the C face and comes back as it was, and so does a table
-- Lists    a test of each entry of a list
-- Owning   the rows of a face state that is handed over have their lengths
-- Ticking  the cases of a tick over the C face
-- Unique   any two results that a contract allows are equal
pub mod Answers
pub mod Crossing
pub mod Lists
pub mod Owning
pub mod Ticking
pub mod Unique
