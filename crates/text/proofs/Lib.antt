-- Laws of `laid`, of lists put one behind another and onto a page, of digits written from the last one on, and of signed numbers read by their sign.
pub mod Laying
pub mod Putting
pub mod Pages
pub mod Digits
pub mod Sign
-- What decimal and signed numbers mean.
pub mod Decimal
-- Each public contract allows one result and one buffer at the return.
pub mod Unique
