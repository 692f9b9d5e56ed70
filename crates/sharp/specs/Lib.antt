-- Document 02, M-107: tails, the sharp due work and margin, the sharp verdict with its chain. What they mean is in proofs/.
pub mod Sharp
-- How the code goes about it, for the contracts of its parts.
pub mod Closed
pub mod Ranges
pub mod Gathered
