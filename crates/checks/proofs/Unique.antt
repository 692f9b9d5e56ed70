-- For each public function: any two results that its contract allows are equal. The contract is the one that the checker reads from the source.
use Rattle.graph.proofs.Unique.{by_definition}
use Rattle.table.proofs.Unique.{OneResult}
use Rattle.checks.proofs.checking.check.Kinds as check-kinds
use Rattle.checks.proofs.checking.check.Reads as check-reads
use Rattle.checks.proofs.checking.edges_of.Kinds as edges-of-kinds
use Rattle.checks.proofs.checking.edges_of.Reads as edges-of-reads
use Rattle.checks.proofs.entries.unused_zero.Kinds as unused-zero-kinds
use Rattle.checks.proofs.entries.unused_zero.Reads as unused-zero-reads

pub check_one : OneResult 0 check-kinds.ps check-kinds.r check-reads.Post
check_one κs args x y s t = by_definition

pub edges_of_one : OneResult 0 edges-of-kinds.ps edges-of-kinds.r edges-of-reads.Post
edges_of_one κs args x y s t = by_definition

pub unused_zero_one : OneResult 0 unused-zero-kinds.ps unused-zero-kinds.r unused-zero-reads.Post
unused_zero_one κs args x y s t = by_definition
