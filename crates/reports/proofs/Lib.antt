-- THE LENGTH of every report; what was found of a file and its lines; laws of the code; any two results that a contract allows are equal.
pub mod Length
pub mod Found
pub mod Lines
pub mod Reported
pub mod Unique
