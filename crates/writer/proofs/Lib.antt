-- What the code puts into the buffer.
pub mod Passed
pub mod PutLaws
pub mod PenLaws
pub mod TypedTable
pub mod WriteLaws
-- The contract allows one result and one buffer.
pub mod Unique
