-- Least     lists compared number by number, the lowest that passes a test, lists without repeats
-- Sixteen   there is a sum for each vertex; the set of all sixteen holds each; a set without one of its members
-- Chains    the chain that is listed: of those with the largest sum the one whose list is first
-- Named     it is the chain of the first v, where the others have no edge and no time
-- Tails     what a tail means, how tails go along the edges, the longest chain by them, and how large they are
-- Picks     how the code lists the chain: the loops over a set
-- Backward  the sums from each vertex, reckoned backwards
-- Placed    a vertex a turn, each at its place
-- Descent   the descent: what holds between two successors, and after it
-- Unique    any two results that the contract allows are equal
pub mod Least
pub mod Sixteen
pub mod Chains
pub mod Named
pub mod Tails
pub mod Picks
pub mod Backward
pub mod Placed
pub mod Descent
pub mod Unique
