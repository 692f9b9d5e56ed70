-- For each public function: any two results that its contract allows are equal. The contract is the one that the checker reads from the source.
use mathlib.Core.Path.{◌≡◌}
use mathlib.Core.List.{List}
use Prim.Native.Nat.{ℕ}
use contract.Lifetimes.{Lfts}
use denote.Triple.Clauses.{AtExit}
use borrow.Fn.Kinds.{ParamKind, ResultKind, Out, Dens, res_t, ended_of}
use Rattle.graph.proofs.Unique.{by_definition}
use Rattle.table.proofs.Outcome.number.Kinds as number-kinds
use Rattle.table.proofs.Outcome.number.Reads as number-reads
use Rattle.table.proofs.Outcome.place.Kinds as place-kinds
use Rattle.table.proofs.Outcome.place.Reads as place-reads
use Rattle.table.proofs.Written.number.Kinds as writing-number-kinds
use Rattle.table.proofs.Written.number.Reads as writing-number-reads
use Rattle.table.proofs.Written.place.Kinds as writing-place-kinds
use Rattle.table.proofs.Written.place.Reads as writing-place-reads
use Rattle.table.proofs.reading.table_at.Kinds as table-at-kinds
use Rattle.table.proofs.reading.table_at.Reads as table-at-reads
use Rattle.table.proofs.reading.read.Kinds as read-kinds
use Rattle.table.proofs.reading.read.Reads as read-reads

-- a contract of a function with n lifetimes allows one result at most, for any arguments
abbrev pub OneResult : (n : ℕ) (ps : List (ParamKind n)) (r : ResultKind n) → Out n ps r → Type 0
OneResult n ps r Allowed =
    (κs : Lfts n) (args : Dens κs ps) (x y : (res_t r κs).Denot) (s t : AtExit (ended_of n ps r) κs) → Allowed κs args x s → Allowed κs args y t → x ≡ y

pub table_at_one : OneResult 1 table-at-kinds.ps table-at-kinds.r table-at-reads.Post
table_at_one κs args x y s t = by_definition

pub read_one : OneResult 1 read-kinds.ps read-kinds.r read-reads.Post
read_one κs args x y s t = by_definition

pub number_one : OneResult 0 number-kinds.ps number-kinds.r number-reads.Post
number_one κs args x y s t = by_definition

pub place_one : OneResult 0 place-kinds.ps place-kinds.r place-reads.Post
place_one κs args x y s t = by_definition

pub writing_number_one : OneResult 0 writing-number-kinds.ps writing-number-kinds.r writing-number-reads.Post
writing_number_one κs args x y s t = by_definition

pub writing_place_one : OneResult 0 writing-place-kinds.ps writing-place-kinds.r writing-place-reads.Post
writing_place_one κs args x y s t = by_definition
