-- The tests on the table itself refuse exactly as a reader does for the bytes that it stands for (Checks); the other files are the steps.
pub mod Cells
pub mod Keys
pub mod RowSteps
pub mod Rows
pub mod Numbers
pub mod Checks
pub mod TestLaws
pub mod TaskTests
pub mod UnusedLaws
-- Each public contract allows one result.
pub mod Unique
