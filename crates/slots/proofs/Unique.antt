-- For each public function: any two results that its contract allows are equal. The contract is the one that the checker reads from the source.
use Rattle.graph.proofs.Unique.{by_definition}
use Rattle.table.proofs.Unique.{OneResult}
use Rattle.slots.proofs.nothing_left.Kinds as nothing-left-kinds
use Rattle.slots.proofs.nothing_left.Reads as nothing-left-reads
use Rattle.slots.proofs.work_left.Kinds as work-left-kinds
use Rattle.slots.proofs.work_left.Reads as work-left-reads
use Rattle.slots.proofs.unfinished.Kinds as unfinished-kinds
use Rattle.slots.proofs.unfinished.Reads as unfinished-reads
use Rattle.slots.proofs.ready.Kinds as ready-kinds
use Rattle.slots.proofs.ready.Reads as ready-reads
use Rattle.slots.proofs.zero_place.Kinds as zero-place-kinds
use Rattle.slots.proofs.zero_place.Reads as zero-place-reads
use Rattle.slots.proofs.job_fits.Kinds as job-fits-kinds
use Rattle.slots.proofs.job_fits.Reads as job-fits-reads

pub nothing_left_one : OneResult 1 nothing-left-kinds.ps nothing-left-kinds.r nothing-left-reads.Post
nothing_left_one κs args x y s t = by_definition

pub work_left_one : OneResult 1 work-left-kinds.ps work-left-kinds.r work-left-reads.Post
work_left_one κs args x y s t = by_definition

pub unfinished_one : OneResult 1 unfinished-kinds.ps unfinished-kinds.r unfinished-reads.Post
unfinished_one κs args x y s t = by_definition

pub ready_one : OneResult 1 ready-kinds.ps ready-kinds.r ready-reads.Post
ready_one κs args x y s t = by_definition

pub zero_place_one : OneResult 1 zero-place-kinds.ps zero-place-kinds.r zero-place-reads.Post
zero_place_one κs args x y s t = by_definition

pub job_fits_one : OneResult 2 job-fits-kinds.ps job-fits-kinds.r job-fits-reads.Post
job_fits_one κs args x y s t = by_definition
