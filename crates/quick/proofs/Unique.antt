-- Any two results that the contract of `quick` allows are equal. The contract is the one that the checker reads from the source.
use Rattle.graph.proofs.Unique.{by_definition}
use Rattle.table.proofs.Unique.{OneResult}
use Rattle.quick.proofs.answering.quick.Kinds as quick-kinds
use Rattle.quick.proofs.answering.quick.Reads as quick-reads

pub quick_one : OneResult 1 quick-kinds.ps quick-kinds.r quick-reads.Post
quick_one κs args x y s t = by_definition
