-- The lines of what is printable: how long each is at most, so that 1,366 bytes hold all of them. A number below 10 to the k has at most k digits.
use mathlib.Core.Path.{◌≡◌, refl}
use mathlib.Core.Bool.{Bool, true, false}
use mathlib.Core.List.{List, ◌++◌}
use Prim.Native.Nat.{ℕ, ◌^◌, ◌≤◌, ◌<◌}
use native.Mathlib.Omega.{arith}
use lib.Dec.{eqb}
use lib.ListN.{length, get_or, length-append}
use lib.IntN.{nat_abs}
use Rattle.graph.specs.Words.{pick, in_order}
use Rattle.table.specs.declared.Outcome.{Outcome}
use Rattle.table.specs.declared.Outcome.TheVariants.{Read, Short, Mark, Range, Ticks, Order, Edge, Cycle, Extra}
use Rattle.table.specs.Numbers.{number, place}
use Rattle.table.specs.Reading.{when_read}
use Rattle.verdict.specs.declared.Verdict.{Verdict}
use Rattle.verdict.specs.declared.Findings.{Findings}
use Rattle.text.specs.Text.{text, newline, decimal, signed}
use Rattle.text.proofs.Putting.{joined_most}
use Rattle.text.proofs.Decimal.{decimal_short, decimal_length, signed_short}
use Rattle.reports.specs.Report.{head_line, task_line, vertex_at, last_line, bad_line}
use Rattle.reports.specs.Found.{margin_in, figures_in, lines_on, lines_of, Printable}

-- a vertex has at most two digits, so the chain three bytes for each
vertex_most : (chain : List ℕ) (i : ℕ) → get_or chain i 0 < 10 ^ 2 → length (vertex_at chain i) ≤ 3
unfolding vertex_at text
vertex_most chain i h = simp length-append (omega (arith, decimal_short 1 (get_or chain i 0) h))

chain_most : (v : Verdict) → v.count ≤ 16 → ((i : ℕ) → i < v.count → get_or v.chain i 0 < 10 ^ 2) → length (in_order v.count (vertex_at v.chain)) ≤ 48
unfolding in_order
chain_most v h d = omega (arith, joined_most v.count 0 3 (vertex_at v.chain) (λ i b. vertex_most v.chain i (d i (omega arith))))

last_most : (v : Verdict) → v.number < 10 ^ 2 → v.task < 10 ^ 2 → nat_abs v.margin < 10 ^ 15 → v.count ≤ 16 → ((i : ℕ) → i < v.count → get_or v.chain i 0 < 10 ^ 2)
    → length (last_line v) ≤ 96
unfolding last_line text newline
last_most v a b c h d = go (eqb v.number 0)
  where
    go : (e : Bool) → length (pick e (text "accept") (text "refuse " ++ decimal v.number) ++ text " task " ++ decimal v.task ++ text " margin " ++ signed v.margin
        ++ text " chain" ++ in_order v.count (vertex_at v.chain) ++ newline) ≤ 96
    go true = simp length-append (omega (arith, decimal_short 1 v.task b, signed_short 14 v.margin c, chain_most v h d))
    go false = simp length-append (omega (arith, decimal_short 1 v.number a, decimal_short 1 v.task b, signed_short 14 v.margin c, chain_most v h d))

bad_most : (o : Outcome) → length (bad_line o) ≤ 1366
unfolding bad_line text newline
bad_most o = simp length-append (omega (arith, (decimal_length (number o)).1, (decimal_length (place o)).1))

module _ (f : Findings) (p : Printable f) where
  pub head_most : length (head_line f.m f.n) ≤ 22
  unfolding head_line text newline
  head_most = simp length-append (omega (arith, decimal_short 0 f.m p.m_short, decimal_short 1 f.n (omega (arith, p.n_few))))

  task_most : (k : ℕ) → k < f.n → length (task_line k (figures_in f k)) ≤ 78
  unfolding task_line figures_in text newline
  task_most k b =
      let n = p.n_few in
      simp length-append (omega (
        arith,
        decimal_short 1 k (omega arith),
        decimal_short 7 (get_or f.vols k 0) (p.vol_short k b),
        decimal_short 7 (get_or f.lens k 0) (p.len_short k b),
        decimal_short 14 (get_or f.dues k 0) (p.due_short k b),
        signed_short 14 (margin_in f k) (p.margin_short k b),
      ))

  -- line after line
  pub lines_most : (k : ℕ) → k ≤ f.n → length (in_order k (λ i. task_line i (figures_in f i))) ≤ 1248
  unfolding in_order
  lines_most k h = omega (arith, joined_most k 0 78 (λ i. task_line i (figures_in f i)) (λ j b. task_most j (omega arith)), p.n_few)

  on_most : length (lines_on f) ≤ 1366
  unfolding lines_on
  on_most = simp length-append (omega (
    arith,
    head_most,
    lines_most f.n (omega arith),
    last_most f.verdict p.number_short p.task_short p.named_short p.count_few p.vertex_short,
  ))

-- ALL THE LINES of a file
pub lines_of_most : (f : Findings) → (f.outcome ≡ Read → Printable f) → length (lines_of f) ≤ 1366
unfolding lines_of
lines_of_most f p = go f.outcome p
  where
    go : (o : Outcome) → (o ≡ Read → Printable f) → length (when_read o bad_line (λ _. lines_on f)) ≤ 1366
    go Read q = on_most f (q refl)
    go (Short x) q = bad_most (Short x)
    go (Mark x) q = bad_most (Mark x)
    go (Range x) q = bad_most (Range x)
    go (Ticks x) q = bad_most (Ticks x)
    go (Order x) q = bad_most (Order x)
    go (Edge x) q = bad_most (Edge x)
    go (Cycle x) q = bad_most (Cycle x)
    go (Extra x) q = bad_most (Extra x)
