-- Document 02, M-102: which of the chains with the largest sum is listed. What it means is in proofs/.
pub mod Chains
-- Document 02, M-107: the longest chain after a vertex.
pub mod Tails
-- How the code finds it, for the contracts of its parts.
pub mod Descent
