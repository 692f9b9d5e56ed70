-- The definitions: bytes of a text, numbers in decimal, and bytes laid into a buffer. Laws about them are in proofs/.
pub mod Text
pub mod Laid
pub mod Written
pub mod Page
