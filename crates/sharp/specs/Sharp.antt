-- Document 02, M-107, "A sharper verdict by local deadlines"; vol, len and the chain by name are the old verdict's.
use Rattle.std.specs.Prelude.{true, List, ℕ, ◌+◌, ◌*◌, ◌-◌, min, length, ltb, ℤ, pos, ◌-ℤ◌}
use Rattle.std.specs.Int.Signed.{lt_z, le_z}
use Rattle.graph.specs.Words.{sum, all, lowest, lowest_or}
use Rattle.chains.specs.Tails.{tail}
use Rattle.table.specs.declared.Table.{Table}
use Rattle.table.specs.declared.Outcome.TheVariants.{Read}
use Rattle.table.specs.declared.Loaded.{Loaded}
use Rattle.table.specs.Memory.{vertices, D, T, edge_in, cost}
use Rattle.table.specs.Reading.{when_read, read}
use Rattle.verdict.specs.declared.Verdict.{Verdict}
use Rattle.verdict.specs.declared.Figures.{Figures}
use Rattle.verdict.specs.declared.Findings.{Findings}
use Rattle.verdict.specs.Verdicts.{vol, len, rounded_up, chain, in_places, unread, up_to, no_findings}

-- "the tail of a vertex is the longest chain after it, itself left out": of vertex u of task i
unfoldable pub tail_of : Table → ℕ → ℕ → ℕ
tail_of t i u = tail (vertices t i) (edge_in t i) (cost t i) u

-- "the smaller of the cost and the larger of 0 and (D_k less h times T_i less the tail)": a difference of natural numbers is the
-- larger of 0 and what it is of whole numbers
unfoldable pub asked : Table → ℕ → ℕ → ℕ → ℕ → ℕ
asked t k i h u = min (cost t i u) (D t k - h * T t i - tail_of t i u)

-- "Task i's due work for task k is the sum, over h = 0, 1, 2 and on while h times T_i is below D_k, and over its vertices". As many h are
-- so as D_k divided by T_i, rounded up: theorem `while_below`, proofs/Sums.antt.
unfoldable pub due_from : Table → ℕ → ℕ → ℕ
due_from t k i = sum (rounded_up (D t k) (T t i)) (λ h. sum (vertices t i) (asked t k i h))

-- over all tasks, k among them
unfoldable pub sharp_due : Table → ℕ → ℕ
sharp_due t k = sum t.n (due_from t k)

-- "The margin is otherwise as before."
unfoldable pub sharp_margin : Table → ℕ → ℤ
sharp_margin t k = pos (t.m * D t k) -ℤ pos ((t.m - 1) * len t k + sharp_due t k)

-- an answer that names task k: "both return that task and its sharp margin", and so does acceptance. The chain of the task that is named goes
-- with it, as M-102 says of the old verdict.
unfoldable pub sharp_naming : ℕ → Table → ℕ → Verdict
sharp_naming number t k = record {
  number = number;
  place = 0;
  task = k;
  margin = sharp_margin t k;
  count = length (chain t k);
  chain = in_places (chain t k);
}

-- "22, some len exceeds its D, lowest task; then 23, a negative sharp margin, lowest task; .. Acceptance returns the smallest sharp margin
-- and the lowest task that has it." A table has a task, so 255 is not taken.
unfoldable pub sharp_on : Table → Verdict
sharp_on t =
    lowest_or t.n (λ k. ltb (D t k) (len t k)) (sharp_naming 22 t)
    (lowest_or t.n (λ k. lt_z (sharp_margin t k) (pos 0)) (sharp_naming 23 t)
    (sharp_naming 0 t (lowest 255 t.n (λ k. all t.n (λ i. le_z (sharp_margin t k) (sharp_margin t i))))))

-- "Refusals: reading's numbers", with place, task 255 and margin 0 as document 01 has them; or the verdict on what was read
unfoldable pub sharp_read : Loaded → Verdict
sharp_read r = when_read r.outcome unread λ _. sharp_on r.table

-- THE SHARP VERDICT on a file's bytes, "Beside the old verdict"
unfoldable pub sharp : List ℕ → Verdict
sharp s = sharp_read (read s)

-- a task's figures: the sharp due work and margin beside its vol and len
unfoldable pub sharp_figures_on : Table → ℕ → Figures
sharp_figures_on t k = record { found = true; vol = vol t k; len = len t k; due = sharp_due t k; margin = sharp_margin t k }

-- ALL THAT A SHARP REPORT SHOWS of a file: what the old one shows, with the sharp figures and the sharp verdict
unfoldable pub sharp_findings_on : Table → Findings
sharp_findings_on t = record {
  outcome = Read;
  m = t.m;
  n = t.n;
  deadlines = up_to t.n (D t);
  vols = up_to t.n (vol t);
  lens = up_to t.n (len t);
  dues = up_to t.n (sharp_due t);
  verdict = sharp_on t;
}

unfoldable pub sharp_findings_read : Loaded → Findings
sharp_findings_read r = when_read r.outcome no_findings λ _. sharp_findings_on r.table

unfoldable pub sharp_findings : List ℕ → Findings
sharp_findings s = sharp_findings_read (read s)
