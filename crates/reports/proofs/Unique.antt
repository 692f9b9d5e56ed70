-- For each public function: any two results that its contract allows are equal. The contract is the one that the checker reads from the source.
use mathlib.Core.Path.{◌≡◌}
use Prim.Native.Nat.{ℕ}
use contract.Lifetimes.{Lfts}
use borrow.Fn.Kinds.{Dens, ended_of}
use denote.Triple.Clauses.{AtExit}
use Rattle.graph.proofs.Unique.{by_definition}
use Rattle.table.proofs.Unique.{OneResult}
use Rattle.reports.proofs.reporting.report_of.Kinds as report-of-kinds
use Rattle.reports.proofs.reporting.report_of.Reads as report-of-reads
use Rattle.reports.proofs.reporting.report_into.Kinds as report-into-kinds
use Rattle.reports.proofs.reporting.report_into.Reads as report-into-reads
use Rattle.reports.proofs.reporting.sharp_report_of.Kinds as sharp-report-of-kinds
use Rattle.reports.proofs.reporting.sharp_report_of.Reads as sharp-report-of-reads
use Rattle.reports.proofs.reporting.sharp_report_into.Kinds as sharp-report-into-kinds
use Rattle.reports.proofs.reporting.sharp_report_into.Reads as sharp-report-into-reads

pub report_of_one : OneResult 1 report-of-kinds.ps report-of-kinds.r report-of-reads.Post
report_of_one κs args x y s t = by_definition

-- one result, and one content of the buffer, which is the second parameter at the return
module _ (κs : Lfts 2) (args : Dens κs report-into-kinds.ps) (s t : AtExit (ended_of 2 report-into-kinds.ps report-into-kinds.r) κs) where
  pub report_into_one : (x y : ℕ) → report-into-reads.Post κs args x s → report-into-reads.Post κs args y t → (x ≡ y) × (s.1.0.now ≡ t.1.0.now)
  report_into_one x y p q = (by_definition p.0 q.0, by_definition p.1 q.1)

pub sharp_report_of_one : OneResult 1 sharp-report-of-kinds.ps sharp-report-of-kinds.r sharp-report-of-reads.Post
sharp_report_of_one κs args x y s t = by_definition

module _ (κs : Lfts 2) (args : Dens κs sharp-report-into-kinds.ps) (s t : AtExit (ended_of 2 sharp-report-into-kinds.ps sharp-report-into-kinds.r) κs) where
  pub sharp_report_into_one : (x y : ℕ) → sharp-report-into-reads.Post κs args x s → sharp-report-into-reads.Post κs args y t → (x ≡ y) × (s.1.0.now ≡ t.1.0.now)
  sharp_report_into_one x y p q = (by_definition p.0 q.0, by_definition p.1 q.1)
