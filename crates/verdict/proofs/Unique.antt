-- For each public function: any two results that its contract allows are equal. The contract is the one that the checker reads from the source.
use mathlib.Core.Path.{◌≡◌, refl, sym, ◌∙◌}
use Prim.Native.Nat.{ℕ, ◌<◌, min}
use lib.IntN.{ℤ}
use contract.Lifetimes.{Lfts}
use denote.RattleType.{RattleType}
use denote.Param.Laws.{Laws}
use denote.Triple.Clauses.{AtExit}
use mir.Syntax.{Dict}
use borrow.Fn.Kinds.{Dens, res_t, ended_of}
use Rattle.graph.proofs.Unique.{by_definition}
use Rattle.table.proofs.Unique.{OneResult}
use Rattle.verdict.proofs.judging.verdict_of.Kinds as verdict-of-kinds
use Rattle.verdict.proofs.judging.verdict_of.Reads as verdict-of-reads
use Rattle.verdict.proofs.judging.figures_of.Kinds as figures-of-kinds
use Rattle.verdict.proofs.judging.figures_of.Reads as figures-of-reads
use Rattle.verdict.proofs.finding.findings_of.Kinds as findings-of-kinds
use Rattle.verdict.proofs.finding.findings_of.Reads as findings-of-reads
use Rattle.verdict.proofs.judging.unread.Kinds as unread-kinds
use Rattle.verdict.proofs.judging.unread.Reads as unread-reads
use Rattle.verdict.proofs.judging.with_chain.Kinds as with-chain-kinds
use Rattle.verdict.proofs.judging.with_chain.Reads as with-chain-reads
use Rattle.verdict.proofs.judging.chained.Kinds as chained-kinds
use Rattle.verdict.proofs.judging.chained.Reads as chained-reads
use Rattle.verdict.proofs.figuring.own_costs.Kinds as own-costs-kinds
use Rattle.verdict.proofs.figuring.own_costs.Reads as own-costs-reads
use Rattle.verdict.proofs.figuring.len_of.Kinds as len-of-kinds
use Rattle.verdict.proofs.figuring.len_of.Reads as len-of-reads
use Rattle.verdict.proofs.figuring.total_of.Kinds as total-of-kinds
use Rattle.verdict.proofs.figuring.total_of.Reads as total-of-reads
use Rattle.verdict.proofs.finding.no_findings.Kinds as no-findings-kinds
use Rattle.verdict.proofs.finding.no_findings.Reads as no-findings-reads
use Rattle.verdict.proofs.figuring.margin_from.Kinds as margin-from-kinds
use Rattle.verdict.proofs.figuring.margin_from.Reads as margin-from-reads
use Rattle.verdict.specs.declared.searching.Figuring as Figuring
use Rattle.verdict.proofs.searching.judge.Kinds as judge-kinds
use Rattle.verdict.proofs.searching.judge.Reads as judge-reads
use Rattle.verdict.proofs.searching.dues_up_to.Kinds as dues-up-to-kinds
use Rattle.verdict.proofs.searching.dues_up_to.Reads as dues-up-to-reads

pub verdict_of_one : OneResult 1 verdict-of-kinds.ps verdict-of-kinds.r verdict-of-reads.Post
verdict_of_one κs args x y s t = by_definition

pub figures_of_one : OneResult 1 figures-of-kinds.ps figures-of-kinds.r figures-of-reads.Post
figures_of_one κs args x y s t = by_definition

pub findings_of_one : OneResult 1 findings-of-kinds.ps findings-of-kinds.r findings-of-reads.Post
findings_of_one κs args x y s t = by_definition

pub unread_one : OneResult 0 unread-kinds.ps unread-kinds.r unread-reads.Post
unread_one κs args x y s t = by_definition

pub with_chain_one : OneResult 0 with-chain-kinds.ps with-chain-kinds.r with-chain-reads.Post
with_chain_one κs args x y s t = by_definition

pub chained_one : OneResult 1 chained-kinds.ps chained-kinds.r chained-reads.Post
chained_one κs args x y s t = by_definition

pub own_costs_one : OneResult 1 own-costs-kinds.ps own-costs-kinds.r own-costs-reads.Post
own_costs_one κs args x y s t = by_definition

pub margin_from_one : OneResult 0 margin-from-kinds.ps margin-from-kinds.r margin-from-reads.Post
margin_from_one κs args x y s t = by_definition

pub len_of_one : OneResult 1 len-of-kinds.ps len-of-kinds.r len-of-reads.Post
len_of_one κs args x y s t = by_definition

pub total_of_one : OneResult 0 total-of-kinds.ps total-of-kinds.r total-of-reads.Post
total_of_one κs args x y s t = by_definition

pub no_findings_one : OneResult 0 no-findings-kinds.ps no-findings-kinds.r no-findings-reads.Post
no_findings_one κs args x y s t = by_definition

-- the search, and the row: of any figures
pub judge_one : (F : RattleType) (laws : Laws F) (figures : Figuring.Ghosts F.Denot) (d : Dict) (κs : Lfts 2)
    (args : Dens κs (judge-kinds.ps F laws)) (x y : (res_t (judge-kinds.r F laws) κs).Denot)
    (s t : AtExit (ended_of 2 (judge-kinds.ps F laws) (judge-kinds.r F laws)) κs)
    → judge-reads.Post F laws figures d κs args x s → judge-reads.Post F laws figures d κs args y t → x ≡ y
judge_one F laws figures d κs args x y s t h k = h (figures.margin_of args.1.1.0.now) (λ _ _. refl) ∙ sym (k (figures.margin_of args.1.1.0.now) (λ _ _. refl))

pub dues_up_to_one : (F : RattleType) (laws : Laws F) (figures : Figuring.Ghosts F.Denot) (d : Dict) (κs : Lfts 2)
    (args : Dens κs (dues-up-to-kinds.ps F laws)) (x y : (res_t (dues-up-to-kinds.r F laws) κs).Denot)
    (s t : AtExit (ended_of 2 (dues-up-to-kinds.ps F laws) (dues-up-to-kinds.r F laws)) κs)
    → dues-up-to-reads.Post F laws figures d κs args x s → dues-up-to-reads.Post F laws figures d κs args y t → x ≡ y
dues_up_to_one F laws figures d κs args x y s t h k = h (figures.due_of args.1.0.now) (λ _ _. refl) ∙ sym (k (figures.due_of args.1.0.now) (λ _ _. refl))
