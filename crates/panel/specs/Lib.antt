-- Document 01's answers as they cross the C face: no enum does, so each is set out as its number, its place and its values.
pub mod Answers
pub mod Tables
pub mod States
