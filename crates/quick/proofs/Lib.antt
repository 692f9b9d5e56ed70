-- Yes      what an answer says of a table and of a file, as the code comes to it
-- Unique   any two results that the contract allows are equal
pub mod Yes
pub mod Unique
