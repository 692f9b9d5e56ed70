-- Any two results that `write`'s contract allows are equal, and so is what the lent buffer holds afterwards. The contract is the one
-- that the checker reads from the source.
use mathlib.Core.Path.{◌≡◌}
use contract.Lifetimes.{Lfts}
use denote.Triple.Clauses.{AtExit}
use borrow.Fn.Kinds.{Dens, res_t, ended_of}
use Rattle.graph.proofs.Unique.{by_definition}
use Rattle.table.proofs.Unique.{OneResult}
use Rattle.writer.proofs.writing.write.Kinds as write-kinds
use Rattle.writer.proofs.writing.write.Reads as write-reads

pub write_one : OneResult 1 write-kinds.ps write-kinds.r write-reads.Post
write_one κs args x y s t p q = by_definition p.0 q.0

pub write_one_buffer : (κs : Lfts 1) (args : Dens κs write-kinds.ps) (x y : (res_t write-kinds.r κs).Denot) (s t : AtExit (ended_of 1 write-kinds.ps write-kinds.r) κs)
    → write-reads.Post κs args x s → write-reads.Post κs args y t → s.1.0.now ≡ t.1.0.now
write_one_buffer κs args x y s t p q = by_definition p.1 q.1
