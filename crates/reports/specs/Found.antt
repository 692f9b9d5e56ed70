-- What the code prints from, for the contracts of its parts: all that was found of a file, the old way or the sharp way.
use Rattle.std.specs.Prelude.{ℕ, ◌+◌, ◌*◌, ◌-◌, ◌^◌, ◌≤◌, ◌<◌, true, List, ◌++◌, get_or, ℤ, pos, ◌-ℤ◌, nat_abs}
use Rattle.graph.specs.Words.{in_order}
use Rattle.table.specs.Reading.{when_read}
use Rattle.verdict.specs.declared.Figures.{Figures}
use Rattle.verdict.specs.declared.Findings.{Findings}
use Rattle.reports.specs.Report.{head_line, task_line, last_line, bad_line}

-- a task's figures; its margin is subtracted anew
unfoldable pub margin_in : Findings → ℕ → ℤ
margin_in f k = pos (f.m * get_or f.deadlines k 0) -ℤ pos ((f.m - 1) * get_or f.lens k 0 + get_or f.dues k 0)

unfoldable pub figures_in : Findings → ℕ → Figures
figures_in f k = record { found = true; vol = get_or f.vols k 0; len = get_or f.lens k 0; due = get_or f.dues k 0; margin = margin_in f k }

-- the lines of a table, from what was found
unfoldable pub lines_on : Findings → List ℕ
lines_on f = head_line f.m f.n ++ in_order f.n (λ k. task_line k (figures_in f k)) ++ last_line f.verdict

-- and of a file
unfoldable pub lines_of : Findings → List ℕ
lines_of f = when_read f.outcome bad_line λ _. lines_on f

-- the numbers are short enough for 1,366 bytes: sixteen tasks, and as many digits as those of a table that is read have
pub record Printable (f : Findings) : Type 0 where
  pub m_short : f.m < 10 ^ 1
  pub n_few : f.n ≤ 16
  pub vol_short : (k : ℕ) → k < f.n → get_or f.vols k 0 < 10 ^ 8
  pub len_short : (k : ℕ) → k < f.n → get_or f.lens k 0 < 10 ^ 8
  pub due_short : (k : ℕ) → k < f.n → get_or f.dues k 0 < 10 ^ 15
  pub margin_short : (k : ℕ) → k < f.n → nat_abs (margin_in f k) < 10 ^ 15
  pub number_short : f.verdict.number < 10 ^ 2
  pub task_short : f.verdict.task < 10 ^ 2
  pub named_short : nat_abs f.verdict.margin < 10 ^ 15
  pub count_few : f.verdict.count ≤ 16
  pub vertex_short : (i : ℕ) → i < f.verdict.count → get_or f.verdict.chain i 0 < 10 ^ 2
