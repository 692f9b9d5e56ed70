-- The report's text, as bytes: document 01, "Examples by hand"; document 02, M-102, for the chain, and M-107 for the sharp report.
use Rattle.std.specs.Prelude.{List, ◌++◌, ℕ, leb, eqb, length, get_or, drop}
use Rattle.graph.specs.Words.{pick, in_order}
use Rattle.text.specs.Text.{text, newline, decimal, signed}
use Rattle.table.specs.declared.Table.{Table}
use Rattle.table.specs.declared.Outcome.{Outcome}
use Rattle.table.specs.declared.Loaded.{Loaded}
use Rattle.table.specs.Numbers.{number, place}
use Rattle.table.specs.Reading.{when_read, read}
use Rattle.verdict.specs.declared.Verdict.{Verdict}
use Rattle.verdict.specs.declared.Figures.{Figures}
use Rattle.verdict.specs.Verdicts.{verdict_on, figures_on}
use Rattle.sharp.specs.Sharp.{sharp_on, sharp_figures_on}
use Rattle.text.specs.declared.page.Page.{Page}
use Rattle.text.specs.Written.{written}

-- "processors 2 tasks 2"
unfoldable pub head_line : ℕ → ℕ → List ℕ
head_line m n = text "processors " ++ decimal m ++ text " tasks " ++ decimal n ++ newline

-- "task 0 vol 6 len 5 due 14 margin 1": task k, by its figures
unfoldable pub task_line : ℕ → Figures → List ℕ
task_line k f =
    text "task " ++ decimal k ++ text " vol " ++ decimal f.vol ++ text " len " ++ decimal f.len
    ++ text " due " ++ decimal f.due ++ text " margin " ++ signed f.margin ++ newline

-- M-102: "the vertices parted by spaces", a space before each
unfoldable pub vertex_at : List ℕ → ℕ → List ℕ
vertex_at chain i = text " " ++ decimal (get_or chain i 0)

-- "accept task 1 margin 0"; "A refusal's last line reads as refuse 20 task 0 margin -4". M-102: "adds ` chain ` and the vertices"
unfoldable pub last_line : Verdict → List ℕ
last_line v =
    pick (eqb v.number 0) (text "accept") (text "refuse " ++ decimal v.number)
    ++ text " task " ++ decimal v.task ++ text " margin " ++ signed v.margin
    ++ text " chain" ++ in_order v.count (vertex_at v.chain) ++ newline

-- "an unreadable file prints one line as unreadable 1 at 0"
unfoldable pub bad_line : Outcome → List ℕ
bad_line o = text "unreadable " ++ decimal (number o) ++ text " at " ++ decimal (place o) ++ newline

-- "A line a task, then the verdict": by the figures of each task and the verdict on the table
unfoldable pub report_on : (Table → ℕ → Figures) → (Table → Verdict) → Table → List ℕ
report_on figures judged t = head_line t.m t.n ++ in_order t.n (λ k. task_line k (figures t k)) ++ last_line (judged t)

-- on what reading gave: one line, or the report on its table
unfoldable pub report_read : (Table → ℕ → Figures) → (Table → Verdict) → Loaded → List ℕ
report_read figures judged r = when_read r.outcome bad_line λ _. report_on figures judged r.table

-- THE REPORT. "The report program reads a table from standard input; .. it prints exactly": at most 1,366 bytes (`report_most`,
-- proofs/Length.antt)
unfoldable pub report : List ℕ → List ℕ
report s = report_read figures_on verdict_on (read s)

-- THE SHARP REPORT (M-107): the same lines with the sharp due work and margins, and the sharp verdict; no longer either
unfoldable pub sharp_report : List ℕ → List ℕ
sharp_report s = report_read sharp_figures_on sharp_on (read s)

-- a text in memory: at the front of 2,048 bytes, with zeros behind it, and its length
unfoldable pub reported : List ℕ → Page 2048
reported = written 2048

-- in a caller's own buffer: at its front if it fits, the rest unchanged; otherwise nothing is written
unfoldable pub report_into : List ℕ → List ℕ → List ℕ
report_into words buf = pick (leb (length words) (length buf)) (words ++ drop (length words) buf) buf
