-- What was found of a file that is read is printable, and its lines are the report: shown once, over what is due for each task and the verdict,
-- for the old figures and the sharp ones. Each figure of a good table has few digits, since the parts of a margin are below 10 to the 15.
use mathlib.Core.Path.{◌≡◌, refl, sym, ap, ap₂, subst, ◌∙◌}
use mathlib.Core.Logic.{⊎_elim}
use mathlib.Core.Bool.{Bool, true, false, cond}
use mathlib.Core.List.{List, ◌++◌}
use Prim.Native.Nat.{ℕ, zero, suc, ◌+◌, ◌*◌, ◌-◌, ◌^◌, ◌≤◌, ◌<◌}
use native.Mathlib.Omega.{arith}
use lib.Dec.{ltb}
use lib.ListN.{get_or}
use lib.IntN.{ℤ, pos, negsuc, ◌-ℤ◌, nat_abs}
use borrow.Author.Tests.{ltb-true, ltb-false}
use Rattle.graph.specs.Words.{in_order, join_from}
use Rattle.table.specs.declared.Table.{Table}
use Rattle.table.specs.declared.Outcome.TheVariants.{Read}
use Rattle.table.specs.Memory.{D}
use Rattle.table.specs.Good.{GoodTable}
use Rattle.verdict.specs.declared.Figures.{Figures}
use Rattle.verdict.specs.declared.Findings.{Findings}
use Rattle.verdict.specs.declared.Verdict.{Verdict}
use Rattle.verdict.specs.Verdicts.{vol, len, due, margin, verdict_on, figures_on, up_to, findings_on}
use Rattle.verdict.proofs.Amounts.{vol_high, len_vol, due_bound, allowance_high, chain_high}
use Rattle.verdict.proofs.Figured.{up_to_at}
use Rattle.verdict.proofs.Says.{table_says}
use Rattle.verdict.proofs.Named.{NamesChain, table_chain}
use Rattle.sharp.specs.Sharp.{sharp_due, sharp_margin, sharp_on, sharp_figures_on, sharp_findings_on}
use Rattle.sharp.proofs.Due.{sharp_within}
use Rattle.sharp.proofs.Says.{sharp_table_says}
use Rattle.sharp.proofs.Named.{sharp_table_chain}
use Rattle.reports.specs.Report.{head_line, task_line, last_line, report_on}
use Rattle.reports.specs.Found.{margin_in, figures_in, lines_on, Printable}

-- a difference is no larger than its larger part
difference_short : (a b c : ℕ) → a < c → b < c → nat_abs (pos a -ℤ pos b) < c
difference_short a zero c h k = omega arith
difference_short a (suc b) c h k = go (ltb a (suc b)) refl
  where
    go : (x : Bool) → ltb a (suc b) ≡ x → nat_abs (cond x (negsuc (suc b - suc a)) (pos (a - suc b))) < c
    go true e = let l = ltb-true a (suc b) e in omega arith
    go false e = let l = ltb-false a (suc b) e in omega arith

-- the same text for each task
join_same : (n i : ℕ) (f g : ℕ → List ℕ) → ((k : ℕ) → k < i + n → f k ≡ g k) → join_from n i f ≡ join_from n i g
unfolding join_from
join_same zero i f g h = refl
join_same (suc n) i f g h = ap₂ (λ (a b : List ℕ). a ++ b) (h i (omega arith)) (join_same n (suc i) f g (λ k b. h k (omega arith)))

-- what is asked of a verdict that is printed
pub record Short (v : Verdict) : Type 0 where
  pub number : v.number < 10 ^ 2
  pub task : v.task < 10 ^ 2
  pub its_margin : nat_abs v.margin < 10 ^ 15
  pub count : v.count ≤ 16
  pub vertex : (i : ℕ) → i < v.count → get_or v.chain i 0 < 10 ^ 2

module _ (t : Table) (good : GoodTable t) (dues : ℕ → ℕ) (most : (k : ℕ) → k < t.n → dues k ≤ due t k) where
  -- a task's margin
  unfoldable pub margin_by : ℕ → ℤ
  margin_by k = pos (t.m * D t k) -ℤ pos ((t.m - 1) * len t k + dues k)

  pub margin_digits : (k : ℕ) → k < t.n → nat_abs (margin_by k) < 10 ^ 15
  unfolding margin_by
  margin_digits k b =
      difference_short (t.m * D t k) ((t.m - 1) * len t k + dues k) (10 ^ 15)
      (omega (arith, allowance_high t good k b))
      (omega (arith, chain_high t good k b, due_bound t good k b, most k b))

  module _ (v : Verdict) (short : Short v) (f : Findings)
      (is : f ≡ record { outcome = Read; m = t.m; n = t.n; deadlines = up_to t.n (D t); vols = up_to t.n (vol t); lens = up_to t.n (len t); dues = up_to t.n dues; verdict = v }) where
    n_is : f.n ≡ t.n
    n_is = ap (λ (x : Findings). x.n) is

    module _ (k : ℕ) (b : k < t.n) where
      D_is : get_or f.deadlines k 0 ≡ D t k
      D_is = ap (λ (x : Findings). get_or x.deadlines k 0) is ∙ up_to_at t.n k (D t) b good.n_high

      vol_is : get_or f.vols k 0 ≡ vol t k
      vol_is = ap (λ (x : Findings). get_or x.vols k 0) is ∙ up_to_at t.n k (vol t) b good.n_high

      len_is : get_or f.lens k 0 ≡ len t k
      len_is = ap (λ (x : Findings). get_or x.lens k 0) is ∙ up_to_at t.n k (len t) b good.n_high

      due_is : get_or f.dues k 0 ≡ dues k
      due_is = ap (λ (x : Findings). get_or x.dues k 0) is ∙ up_to_at t.n k dues b good.n_high

      margin_in_lem : margin_in f k ≡ margin_by k
      unfolding margin_in margin_by
      margin_in_lem = rw (ap (λ (x : Findings). x.m) is, D_is, len_is, due_is) refl

      figures_in_lem : figures_in f k ≡ record { found = true; vol = vol t k; len = len t k; due = dues k; margin = margin_by k }
      unfolding figures_in
      figures_in_lem = rw (vol_is, len_is, due_is, margin_in_lem) refl

    -- it is printable
    pub printable : Printable f
    printable =
        let q = ap (λ (x : Findings). x.verdict) is in
        record {
          m_short = omega (arith, ap (λ (x : Findings). x.m) is, good.m_high);
          n_few = omega (arith, n_is, good.n_high);
          vol_short = λ k b. let l : k < t.n = omega (arith, n_is) in omega (arith, vol_is k l, vol_high t good k l);
          len_short = λ k b. let l : k < t.n = omega (arith, n_is) in omega (arith, len_is k l, len_vol t good k l, vol_high t good k l);
          due_short = λ k b. let l : k < t.n = omega (arith, n_is) in omega (arith, due_is k l, most k l, due_bound t good k l);
          margin_short = λ k b. let l : k < t.n = omega (arith, n_is) in subst (λ (z : ℤ). nat_abs z < 10 ^ 15) (sym (margin_in_lem k l)) (margin_digits k l);
          number_short = rw q short.number;
          task_short = rw q short.task;
          named_short = subst (λ (x : Verdict). nat_abs x.margin < 10 ^ 15) (sym q) short.its_margin;
          count_few = rw q short.count;
          vertex_short = subst (λ (x : Verdict). (i : ℕ) → i < x.count → get_or x.chain i 0 < 10 ^ 2) (sym q) short.vertex;
        }

    -- and its lines are the report by these figures
    pub lines_are : (figures : Table → ℕ → Figures) (judged : Table → Verdict) → judged t ≡ v
        → ((k : ℕ) → k < t.n → figures t k ≡ record { found = true; vol = vol t k; len = len t k; due = dues k; margin = margin_by k })
        → lines_on f ≡ report_on figures judged t
    unfolding lines_on report_on in_order
    lines_are figures judged e same =
        ap (λ (x : Findings). head_line x.m x.n ++ join_from x.n 0 (λ k. task_line k (figures_in f k)) ++ last_line x.verdict) is
        ∙ ap₂ (λ (l : List ℕ) (x : Verdict). head_line t.m t.n ++ l ++ last_line x)
        (join_same t.n 0 _ _ (λ k b. ap (task_line k) (figures_in_lem k (omega arith) ∙ sym (same k (omega arith)))))
        (sym e)

  -- a verdict that names one of the tasks, its margin and its chain
  pub short_by : (v : Verdict) → v.number < 100 → v.task < t.n → v.margin ≡ margin_by v.task → NamesChain t v → Short v
  short_by v l b m c =
      let n = good.n_high in
      let w = (good.each v.task b).v_high in
      record {
        number = omega arith;
        task = omega arith;
        its_margin = subst (λ (z : ℤ). nat_abs z < 10 ^ 15) (sym m) (margin_digits v.task b);
        count = omega (arith, c.few);
        vertex = λ i h. omega (arith, c.vertex i h);
      }

-- ---- the old verdict
module _ (t : Table) (good : GoodTable t) where
  by_margin : margin_by t good (due t) (λ k b. omega arith) ≡ margin t
  unfolding margin_by margin
  by_margin = refl

  old_short : Short (verdict_on t)
  old_short = ⊎_elim (λ q. by (omega (arith, q.0)) q.1.below q.1.its_margin) (λ q. by (omega (arith, q.0)) q.1.below q.1.its_margin) (table_says t good)
    where
      by : (verdict_on t).number < 100 → (verdict_on t).task < t.n → (verdict_on t).margin ≡ margin t (verdict_on t).task → Short (verdict_on t)
      by l b m = short_by t good (due t) (λ k b. omega arith) (verdict_on t) l b (m ∙ sym (ap (λ (z : ℕ → ℤ). z (verdict_on t).task) by_margin)) (table_chain t good)

  pub old_printable : (f : Findings) → f ≡ findings_on t → Printable f
  unfolding findings_on
  old_printable f e = printable t good (due t) (λ k b. omega arith) (verdict_on t) old_short f e

  pub old_lines : (f : Findings) → f ≡ findings_on t → lines_on f ≡ report_on figures_on verdict_on t
  unfolding findings_on figures_on
  old_lines f e = lines_are t good (due t) (λ k b. omega arith) (verdict_on t) old_short f e figures_on verdict_on refl
      (λ k b. ap (λ (z : ℕ → ℤ). record { found = true; vol = vol t k; len = len t k; due = due t k; margin = z k }) (sym by_margin))

-- ---- the sharp verdict: no more is due by it
module _ (t : Table) (good : GoodTable t) where
  by_sharp : margin_by t good (sharp_due t) (λ k b. sharp_within t k) ≡ sharp_margin t
  unfolding margin_by sharp_margin
  by_sharp = refl

  sharp_short : Short (sharp_on t)
  sharp_short = ⊎_elim (λ q. by (omega (arith, q.0)) q.1.below q.1.its_margin)
      (⊎_elim (λ q. by (omega (arith, q.0)) q.1.below q.1.its_margin) (λ q. by (omega (arith, q.0)) q.1.below q.1.its_margin))
      (sharp_table_says t good)
    where
      by : (sharp_on t).number < 100 → (sharp_on t).task < t.n → (sharp_on t).margin ≡ sharp_margin t (sharp_on t).task → Short (sharp_on t)
      by l b m = short_by t good (sharp_due t) (λ k b. sharp_within t k) (sharp_on t) l b (m ∙ sym (ap (λ (z : ℕ → ℤ). z (sharp_on t).task) by_sharp)) (sharp_table_chain t good)

  pub sharp_printable : (f : Findings) → f ≡ sharp_findings_on t → Printable f
  unfolding sharp_findings_on
  sharp_printable f e = printable t good (sharp_due t) (λ k b. sharp_within t k) (sharp_on t) sharp_short f e

  pub sharp_lines : (f : Findings) → f ≡ sharp_findings_on t → lines_on f ≡ report_on sharp_figures_on sharp_on t
  unfolding sharp_findings_on sharp_figures_on
  sharp_lines f e = lines_are t good (sharp_due t) (λ k b. sharp_within t k) (sharp_on t) sharp_short f e sharp_figures_on sharp_on refl
      (λ k b. ap (λ (z : ℕ → ℤ). record { found = true; vol = vol t k; len = len t k; due = sharp_due t k; margin = z k }) (sym by_sharp))
