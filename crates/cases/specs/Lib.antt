-- The definitions: the checksum and the file of a case.
pub mod Cases
