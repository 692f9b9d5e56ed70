-- Any two results that the contract of `longest_chain` allows are equal, and so of `tails_of`. The contract is the one that the checker reads from the source.
use Rattle.graph.proofs.Unique.{by_definition, OneResult}
use Rattle.chains.proofs.descending.tails_of.Kinds as tails-of-kinds
use Rattle.chains.proofs.descending.tails_of.Reads as tails-of-reads
use Rattle.chains.proofs.listing.longest_chain.Kinds as longest-chain-kinds
use Rattle.chains.proofs.listing.longest_chain.Reads as longest-chain-reads

pub longest_chain_one : OneResult longest-chain-kinds.ps longest-chain-kinds.r longest-chain-reads.Post
longest_chain_one κs args x y s t = by_definition

pub tails_of_one : OneResult tails-of-kinds.ps tails-of-kinds.r tails-of-reads.Post
tails_of_one κs args x y s t = by_definition
