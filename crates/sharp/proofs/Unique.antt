-- For each public function: any two results that its contract allows are equal. The contract is the one that the checker reads from the source.
use Rattle.graph.proofs.Unique.{by_definition}
use Rattle.table.proofs.Unique.{OneResult}
use Rattle.sharp.proofs.judging.sharp_of.Kinds as sharp-of-kinds
use Rattle.sharp.proofs.judging.sharp_of.Reads as sharp-of-reads
use Rattle.sharp.proofs.finding.sharp_findings_of.Kinds as sharp-findings-of-kinds
use Rattle.sharp.proofs.finding.sharp_findings_of.Reads as sharp-findings-of-reads

pub sharp_of_one : OneResult 1 sharp-of-kinds.ps sharp-of-kinds.r sharp-of-reads.Post
sharp_of_one κs args x y s t = by_definition

pub sharp_findings_of_one : OneResult 1 sharp-findings-of-kinds.ps sharp-findings-of-kinds.r sharp-findings-of-reads.Post
sharp_findings_of_one κs args x y s t = by_definition
