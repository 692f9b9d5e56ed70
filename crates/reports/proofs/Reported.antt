-- The report on a file, from its lines: what reading gave, zeros behind the text, a caller's buffer.
use mathlib.Core.Path.{◌≡◌, refl, sym, ap, ◌∙◌}
use mathlib.Core.List.{List, ◌++◌}
use Prim.Native.Nat.{ℕ, ◌≤◌, ◌<◌}
use native.Mathlib.Omega.{arith}
use lib.ListN.{length, take, drop}
use borrow.Author.Tests.{le-leb, lt-leb}
use Rattle.text.specs.declared.page.Page.{Page}
use Rattle.text.specs.Page.{blank, Adds}
use Rattle.text.proofs.Pages.{same, written_by, written_len, written_long, written_text}
use Rattle.table.specs.declared.Outcome.{Outcome}
use Rattle.table.specs.declared.Outcome.TheVariants.{Read, Short, Mark, Range, Ticks, Order, Edge, Cycle, Extra}
use Rattle.table.specs.Reading.{when_read, read}
use Rattle.table.proofs.PartLaws.{told_other, not_read}
use Rattle.table.proofs.Prefix.{read_prefix}
use Rattle.verdict.specs.declared.Findings.{Findings}
use Rattle.verdict.specs.Verdicts.{verdict_on, figures_on, findings_on, no_findings, findings_read, findings}
use Rattle.table.specs.declared.Table.{Table}
use Rattle.table.specs.Good.{GoodTable}
use Rattle.table.proofs.Sound.{read_good}
use Rattle.sharp.specs.Sharp.{sharp_on, sharp_figures_on, sharp_findings_on, sharp_findings_read, sharp_findings}
use Rattle.reports.specs.Report.{bad_line, report_on, report_read, report, sharp_report, reported, report_into}
use Rattle.reports.specs.Found.{lines_on, lines_of, Printable}
use Rattle.reports.proofs.Length.{lines_of_most}
use Rattle.reports.proofs.Found.{old_printable, old_lines, sharp_printable, sharp_lines}

-- ---- the lines of what was found, by its outcome
module _ (f : Findings) where
  pub adds_stop : {n : ℕ} {a b : Page n} → Adds a b (bad_line f.outcome) → (f.outcome ≡ Read → ⊥) → Adds a b (lines_of f)
  unfolding lines_of
  adds_stop x n = same x (not_read f.outcome bad_line _ n)

  pub adds_got : {n : ℕ} {a b : Page n} → Adds a b (lines_on f) → f.outcome ≡ Read → Adds a b (lines_of f)
  unfolding lines_of
  adds_got x e = same x (rw e refl)

pub ruleset line-laws = (told_other, adds_stop)

-- ---- the lines on a page that holds every report
module _ (f : Findings) (short : f.outcome ≡ Read → Printable f) {a b : Page 2048} (e : a ≡ blank 2048) (x : Adds a b (lines_of f)) where
  pub page_reported : b ≡ reported (lines_of f)
  unfolding reported
  page_reported = written_by e x (omega (arith, lines_of_most f short))

module _ (f : Findings) (short : f.outcome ≡ Read → Printable f) {a b : Page 1366} (e : a ≡ blank 1366) (x : Adds a b (lines_of f)) where
  pub page_text : take b.len b.bytes ≡ lines_of f
  page_text = written_text (lines_of f) (lines_of_most f short) b (written_by e x (lines_of_most f short))

-- ---- a caller's buffer
pub into_short : (words buf : List ℕ) → length buf < length words → buf ≡ report_into words buf
unfolding report_into
into_short words buf h = rw (lt-leb (length words) (length buf) h)

pub into_fits : (words buf : List ℕ) → length words ≤ length buf → words ++ drop (length words) buf ≡ report_into words buf
unfolding report_into
into_fits words buf h = rw (le-leb (length words) (length buf) h)

-- ---- the lines of what was found of a file, by a way of finding: `on` a table that is read, of which `words` is the report
module _ (on : Table → Findings) (words : Table → List ℕ) (well : (t : Table) → (on t).outcome ≡ Read)
    (ready : (t : Table) → GoodTable t → (f : Findings) → f ≡ on t → Printable f)
    (lines : (t : Table) → GoodTable t → (f : Findings) → f ≡ on t → lines_on f ≡ words t)
    (s : List ℕ) (f : Findings) (h : f ≡ when_read (read s).outcome no_findings (λ _. on (read s).table)) where
  outcome_is : f.outcome ≡ (read s).outcome
  unfolding no_findings
  outcome_is = ap (λ (x : Findings). x.outcome) h ∙ go (read s).outcome
    where
      go : (o : Outcome) → (when_read o no_findings (λ _. on (read s).table)).outcome ≡ o
      go Read = well (read s).table
      go (Short p) = refl
      go (Mark p) = refl
      go (Range p) = refl
      go (Ticks p) = refl
      go (Order p) = refl
      go (Edge p) = refl
      go (Cycle p) = refl
      go (Extra p) = refl

  is_good : (read s).outcome ≡ Read → GoodTable (read s).table
  is_good e = read_good s e

  found : (read s).outcome ≡ Read → f ≡ on (read s).table
  found e = h ∙ ap (λ (o : Outcome). when_read o no_findings (λ _. on (read s).table)) e

  pub file_ready : f.outcome ≡ Read → Printable f
  file_ready e = let q = sym outcome_is ∙ e in ready (read s).table (is_good q) f (found q)

  pub file_lines : lines_of f ≡ when_read (read s).outcome bad_line (λ _. words (read s).table)
  unfolding lines_of
  file_lines = ap (λ (o : Outcome). when_read o bad_line (λ _. lines_on f)) outcome_is ∙ go (read s).outcome refl
    where
      go : (o : Outcome) → (read s).outcome ≡ o → when_read o bad_line (λ _. lines_on f) ≡ when_read o bad_line (λ _. words (read s).table)
      go Read e = lines (read s).table (is_good e) f (found e)
      go (Short p) e = refl
      go (Mark p) e = refl
      go (Range p) e = refl
      go (Ticks p) e = refl
      go (Order p) e = refl
      go (Edge p) e = refl
      go (Cycle p) e = refl
      go (Extra p) e = refl

-- ---- THE REPORT is the lines of what the old verdict found
old_read : (t : Table) → (findings_on t).outcome ≡ Read
unfolding findings_on
old_read t = refl

module _ (s : List ℕ) (f : Findings) (h : f ≡ findings s) where
  -- its outcome is that of reading; where that is success the table is good, and what was found is found on it
  pub its_outcome : f.outcome ≡ (read s).outcome
  unfolding findings findings_read
  its_outcome = outcome_is findings_on (report_on figures_on verdict_on) old_read old_printable old_lines s f h

  pub found_good : f.outcome ≡ Read → GoodTable (read s).table
  found_good e = read_good s (sym its_outcome ∙ e)

  pub found_read : f.outcome ≡ Read → f ≡ findings_on (read s).table
  unfolding findings findings_read
  found_read e = found findings_on (report_on figures_on verdict_on) old_read old_printable old_lines s f h (sym its_outcome ∙ e)

  pub old_ready : f.outcome ≡ Read → Printable f
  unfolding findings findings_read
  old_ready = file_ready findings_on (report_on figures_on verdict_on) old_read old_printable old_lines s f h

  pub old_report : lines_of f ≡ report s
  unfolding findings findings_read report report_read
  old_report = file_lines findings_on (report_on figures_on verdict_on) old_read old_printable old_lines s f h

-- THE REPORT'S LENGTH
pub report_most : (s : List ℕ) → length (report s) ≤ 1366
report_most s = omega (arith, ap length (old_report s (findings s) refl), lines_of_most (findings s) (old_ready s (findings s) refl))

-- ---- THE SHARP REPORT is the lines of what the sharp verdict found
sharp_read : (t : Table) → (sharp_findings_on t).outcome ≡ Read
unfolding sharp_findings_on
sharp_read t = refl

module _ (s : List ℕ) (f : Findings) (h : f ≡ sharp_findings s) where
  pub sharp_ready : f.outcome ≡ Read → Printable f
  unfolding sharp_findings sharp_findings_read
  sharp_ready = file_ready sharp_findings_on (report_on sharp_figures_on sharp_on) sharp_read sharp_printable sharp_lines s f h

  pub sharp_text : lines_of f ≡ sharp_report s
  unfolding sharp_findings sharp_findings_read sharp_report report_read
  sharp_text = file_lines sharp_findings_on (report_on sharp_figures_on sharp_on) sharp_read sharp_printable sharp_lines s f h

pub sharp_report_most : (s : List ℕ) → length (sharp_report s) ≤ 1366
sharp_report_most s = omega (arith, ap length (sharp_text s (sharp_findings s) refl), lines_of_most (sharp_findings s) (sharp_ready s (sharp_findings s) refl))

-- ---- a report in memory
module _ (words : List ℕ) (most : length words ≤ 1366) (r : Page 2048) (h : r ≡ reported words) where
  pub report_len : r.len ≡ length words
  unfolding reported
  report_len = written_len words (omega arith) r h

  pub report_long : length r.bytes ≡ 2048
  unfolding reported
  report_long = written_long words (omega arith) r h

  pub report_within : r.len ≤ 1366
  report_within = omega (arith, report_len)

-- "The report program reads a table from standard input": the first 5,061 bytes are enough
pub report_prefix : (s : List ℕ) → report (take 5061 s) ≡ report s
unfolding report
report_prefix s = ap (report_read figures_on verdict_on) (read_prefix s)

pub sharp_report_prefix : (s : List ℕ) → sharp_report (take 5061 s) ≡ sharp_report s
unfolding sharp_report
sharp_report_prefix s = ap (report_read sharp_figures_on sharp_on) (read_prefix s)
