-- For each function of the C face: any two results that its contract allows are equal, and so are the buffers that it leaves.
-- The contract is the one that the checker reads from the source.
use mathlib.Core.Path.{◌≡◌}
use Prim.Native.Nat.{ℕ}
use seplogic.Ra.Ura.{Ura}
use base.Logic.{SProp, ent, emp}
use prog.Memory.{Memory}
use prog.Routine.{Routine}
use types.Logic.{Logic}
use contract.Conj.{conj}
use contract.Monad.{Fun, fact, fact_i, guard-conj, conj-guard}
use contract.Lifetimes.{Lfts}
use denote.Triple.Entry.{Args}
use denote.Triple.Clauses.{AtExit}
use borrow.Fn.Kinds.{Dens, res_t, ended_of}
use Rattle.graph.proofs.Unique.{by_definition}
use Rattle.table.proofs.Unique.{OneResult}
use Rattle.panel.proofs.tables.mt_read.Kinds as mt-read-kinds
use Rattle.panel.proofs.tables.mt_read.Reads as mt-read-reads
use Rattle.panel.proofs.tables.mt_write.Kinds as mt-write-kinds
use Rattle.panel.proofs.tables.mt_write.Reads as mt-write-reads
use Rattle.panel.proofs.ticks.mt_open.Kinds as mt-open-kinds
use Rattle.panel.proofs.ticks.mt_open.Reads as mt-open-reads
use Rattle.panel.proofs.ticks.mt_tick.Kinds as mt-tick-kinds
use Rattle.panel.proofs.ticks.mt_tick.Reads as mt-tick-reads
use Rattle.panel.specs.contracts.ticks.mt_tick_in_place as in_place
use Rattle.panel.proofs.verdicts.mt_verdict.Kinds as mt-verdict-kinds
use Rattle.panel.proofs.verdicts.mt_verdict.Reads as mt-verdict-reads
use Rattle.panel.proofs.verdicts.mt_quick.Kinds as mt-quick-kinds
use Rattle.panel.proofs.verdicts.mt_quick.Reads as mt-quick-reads
use Rattle.panel.proofs.verdicts.mt_report.Kinds as mt-report-kinds
use Rattle.panel.proofs.verdicts.mt_report.Reads as mt-report-reads
use Rattle.panel.proofs.verdicts.mt_sharp.Kinds as mt-sharp-kinds
use Rattle.panel.proofs.verdicts.mt_sharp.Reads as mt-sharp-reads
use Rattle.panel.proofs.verdicts.mt_sharp_report.Kinds as mt-sharp-report-kinds
use Rattle.panel.proofs.verdicts.mt_sharp_report.Reads as mt-sharp-report-reads
use Rattle.panel.specs.declared.TickAnswer.{TickAnswer}
use Rattle.panel.proofs.judging.mt_judge.Kinds as mt-judge-kinds
use Rattle.panel.proofs.judging.mt_judge.Reads as mt-judge-reads

pub mt_read_one : OneResult 1 mt-read-kinds.ps mt-read-kinds.r mt-read-reads.Post
mt_read_one κs args x y s t = by_definition

-- s and t are the parameters at the return; the buffer is the second of them
module _ (κs : Lfts 1) (args : Dens κs mt-write-kinds.ps) (s t : AtExit (ended_of 1 mt-write-kinds.ps mt-write-kinds.r) κs) where
  pub mt_write_one : (x y : (res_t mt-write-kinds.r κs).Denot) → mt-write-reads.Post κs args x s → mt-write-reads.Post κs args y t → (x ≡ y) × (s.1.0.now ≡ t.1.0.now)
  mt_write_one x y p q = (by_definition p.0 q.0, by_definition p.1 q.1)

pub mt_verdict_one : OneResult 1 mt-verdict-kinds.ps mt-verdict-kinds.r mt-verdict-reads.Post
mt_verdict_one κs args x y s t = by_definition

pub mt_quick_one : OneResult 1 mt-quick-kinds.ps mt-quick-kinds.r mt-quick-reads.Post
mt_quick_one κs args x y s t = by_definition

module _ (κs : Lfts 2) (args : Dens κs mt-report-kinds.ps) (s t : AtExit (ended_of 2 mt-report-kinds.ps mt-report-kinds.r) κs) where
  pub mt_report_one : (x y : ℕ) → mt-report-reads.Post κs args x s → mt-report-reads.Post κs args y t → (x ≡ y) × (s.1.0.now ≡ t.1.0.now)
  mt_report_one x y p q = (by_definition p.0 q.0, by_definition p.1 q.1)

pub mt_sharp_one : OneResult 1 mt-sharp-kinds.ps mt-sharp-kinds.r mt-sharp-reads.Post
mt_sharp_one κs args x y s t = by_definition

module _ (κs : Lfts 2) (args : Dens κs mt-sharp-report-kinds.ps) (s t : AtExit (ended_of 2 mt-sharp-report-kinds.ps mt-sharp-report-kinds.r) κs) where
  pub mt_sharp_report_one : (x y : ℕ) → mt-sharp-report-reads.Post κs args x s → mt-sharp-report-reads.Post κs args y t → (x ≡ y) × (s.1.0.now ≡ t.1.0.now)
  mt_sharp_report_one x y p q = (by_definition p.0 q.0, by_definition p.1 q.1)

pub mt_open_one : OneResult 1 mt-open-kinds.ps mt-open-kinds.r mt-open-reads.Post
mt_open_one κs args x y s t = by_definition

pub mt_tick_one : OneResult 1 mt-tick-kinds.ps mt-tick-kinds.r mt-tick-reads.Post
mt_tick_one κs args x y s t = by_definition

-- The tick in place is lent a state, and its contract is an assertion: where it holds of two answers and two states at the return, they are equal.
module _ {M : Type 1} {𝓤 : Ura M} (𝓛 : Logic 𝓤) (at_mem : Memory → SProp 𝓤) (run : Routine → Fun 𝓤) (κs : Lfts 2) (args : Args in_place.signature κs) where
  abbrev Allowed : TickAnswer → AtExit in_place.ended κs → SProp 𝓤
  Allowed = (in_place.clauses 𝓛 at_mem run κs args).ensures tt

  pub mt_tick_in_place_one : (x y : TickAnswer) (s t : AtExit in_place.ended κs) → ent 𝓤 (conj 𝓤 (Allowed x s) (Allowed y t)) (fact 𝓤 ((x ≡ y) × (s.0.now ≡ t.0.now)))
  mt_tick_in_place_one x y s t =
      guard-conj 𝓤 _ (emp 𝓤) (Allowed y t) (λ p. conj-guard 𝓤 _ (emp 𝓤) (emp 𝓤) (λ q. fact_i 𝓤 _ _ (by_definition p.0 q.0, by_definition p.1 q.1)))

pub mt_judge_one : OneResult 2 mt-judge-kinds.ps mt-judge-kinds.r mt-judge-reads.Post
mt_judge_one κs args x y s t = by_definition
