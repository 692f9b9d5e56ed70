-- The report's text. What it means is in proofs/.
pub mod Report
-- What the code prints from, for the contracts of its parts.
pub mod Found
