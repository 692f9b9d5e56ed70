-- For each public function: any two results that its contract allows are equal. The contract is the one that the checker reads from the source.
use mathlib.Core.Path.{◌≡◌, sym, ap, ◌∙◌}
use mathlib.Core.List.{List}
use Prim.Native.Nat.{ℕ}
use contract.Lifetimes.{Lfts}
use denote.Triple.Clauses.{AtExit}
use borrow.Fn.Kinds.{ParamKind, ResultKind, Out, Dens, res_t, ended_of}
use Rattle.graph.proofs.is_acyclic.Kinds as is-acyclic-kinds
use Rattle.graph.proofs.is_acyclic.Reads as is-acyclic-reads
use Rattle.graph.proofs.held_back.Kinds as held-back-kinds
use Rattle.graph.proofs.held_back.Reads as held-back-reads
use Rattle.graph.proofs.longest.Kinds as longest-kinds
use Rattle.graph.proofs.longest.Reads as longest-reads
use Rattle.graph.proofs.set.Members.of.Kinds as of-kinds
use Rattle.graph.proofs.set.Members.of.Reads as of-reads
use Rattle.graph.specs.declared.set.Members.{Members}

-- two results that are each what a definition gives are equal
pub by_definition {ℓ} : {X : Type ℓ} {defined r s : X} → r ≡ defined → s ≡ defined → r ≡ s
by_definition p q = p ∙ sym q

-- a contract allows one result at most, for any arguments
abbrev pub OneResult : (ps : List (ParamKind 0)) (r : ResultKind 0) → Out 0 ps r → Type 0
OneResult ps r Allowed =
    (κs : Lfts 0) (args : Dens κs ps) (x y : (res_t r κs).Denot) (s t : AtExit (ended_of 0 ps r) κs) → Allowed κs args x s → Allowed κs args y t → x ≡ y

pub is_acyclic_one : OneResult is-acyclic-kinds.ps is-acyclic-kinds.r is-acyclic-reads.Post
is_acyclic_one κs args x y s t = by_definition

pub held_back_one : OneResult held-back-kinds.ps held-back-kinds.r held-back-reads.Post
held_back_one κs args x y s t = by_definition

pub longest_one : OneResult longest-kinds.ps longest-kinds.r longest-reads.Post
longest_one κs args x y s t = by_definition

-- the set is all that the members of a set hold
pub of_one : OneResult of-kinds.ps of-kinds.r of-reads.Post
of_one κs args x y s t p q = ap (λ (rest : ℕ). record { rest = rest }) (by_definition p q)
