-- For each public function: any two results that its contract allows are equal. The contract is the one that the checker reads from the source.
use Rattle.graph.proofs.Unique.{by_definition}
use Rattle.table.proofs.Unique.{OneResult}
use Rattle.journal.proofs.walk.judge.Kinds as judge-kinds
use Rattle.journal.proofs.walk.judge.Reads as judge_reads
use Rattle.journal.proofs.walk.judge_piece.Kinds as judge-piece-kinds
use Rattle.journal.proofs.walk.judge_piece.Reads as judge-piece-reads
use Rattle.journal.proofs.walk.rule.Kinds as rule-kinds
use Rattle.journal.proofs.walk.rule.Reads as rule-reads
use Rattle.journal.proofs.walk.unreadable.Kinds as unreadable-kinds
use Rattle.journal.proofs.walk.unreadable.Reads as unreadable-reads

pub judge_one : OneResult 2 judge-kinds.ps judge-kinds.r judge_reads.Post
judge_one κs args x y s t = by_definition

pub judge_piece_one : OneResult 1 judge-piece-kinds.ps judge-piece-kinds.r judge-piece-reads.Post
judge_piece_one κs args x y s t = by_definition

pub rule_one : OneResult 0 rule-kinds.ps rule-kinds.r rule-reads.Post
rule_one κs args x y s t = by_definition

pub unreadable_one : OneResult 0 unreadable-kinds.ps unreadable-kinds.r unreadable-reads.Post
unreadable_one κs args x y s t = by_definition
