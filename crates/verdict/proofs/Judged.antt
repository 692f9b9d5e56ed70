-- The verdict that the code's search over a good table's margins comes to; what it answers of a file.
use mathlib.Core.Path.{◌≡◌, sym, ap, ap₂, ◌∙◌}
use mathlib.Core.Bool.{true}
use mathlib.Core.List.{List}
use Prim.Native.Nat.{ℕ, ◌+◌, ◌*◌, ◌≤◌, ◌<◌}
use native.Mathlib.Omega.{arith}
use lib.ListN.{length, get_or, replicate}
use lib.IntN.{ℤ, pos}
use lib.Signed.{lt_z, le_z}
use borrow.Author.Tests.{lt-ltb, le-ltb}
use Rattle.graph.specs.Words.{all, row, lowest}
use Rattle.table.specs.declared.Table.{Table}
use Rattle.table.specs.declared.Outcome.{Outcome}
use Rattle.table.specs.declared.Outcome.TheVariants.{Read}
use Rattle.table.specs.declared.Loaded.{Loaded}
use Rattle.table.specs.Memory.{no_succ, succ}
use Rattle.table.specs.Reading.{read}
use Rattle.table.specs.Good.{GoodTable}
use Rattle.table.proofs.Sound.{read_good}
use Rattle.table.proofs.PartLaws.{told_other, not_read}
use Rattle.chains.specs.declared.ChainFound.{ChainFound}
use Rattle.chains.specs.Chains.{answered, longest_chain}
use Rattle.verdict.specs.declared.Verdict.{Verdict}
use Rattle.verdict.specs.declared.Decided.{Decided}
use Rattle.verdict.specs.declared.measuring.Measures.{Measures}
use Rattle.verdict.specs.declared.Figures.{Figures}
use Rattle.verdict.specs.declared.Findings.{Findings}
use Rattle.verdict.specs.Verdicts.{vol, len, due, margin, chain, in_places, naming, verdict_on, unread, verdict_read, verdict, figures_on, no_figures, figures_read, figures, up_to, findings_on, no_findings, findings_read, findings}
use Rattle.verdict.specs.Judging.{judged_some, judged_by}
use Rattle.verdict.specs.Measured.{Holds, decided, with_chain, own_succ}
use Rattle.verdict.proofs.Orders.{lowest_or_map}
use Rattle.verdict.proofs.Walk.{judged_is}
use Rattle.verdict.proofs.Says.{named_below, names}
use Rattle.verdict.proofs.Figured.{chain_found}

-- ---- an answer that names a task of a good table and hands on its chain; d is that answer without the chain
pub chain_named : (t : Table) → GoodTable t → (v : Verdict) {number : ℕ} {z : ℤ}
    → v ≡ record { number = number; place = 0; task = v.task; margin = z; count = length (chain t v.task); chain = in_places (chain t v.task) }
    → v.task < t.n → (d : Decided) → d ≡ decided v → (own : List ℕ) → own ≡ row 16 (λ u. get_or t.costs (16 * d.task + u) 0)
    → with_chain d (succ t d.task) own ≡ v
unfolding with_chain decided
chain_named t good v named b d e own o =
    ap (λ (l : List ℕ). with_chain d (succ t d.task) l) o
    ∙ ap (λ (x : Decided). with_chain x (succ t x.task) (row 16 (λ u. get_or t.costs (16 * x.task + u) 0))) e
    ∙ ap (λ (c : List ℕ). record { number = v.number; place = 0; task = v.task; margin = v.margin; count = length c; chain = in_places c }) (chain_found t good v.task b)
    ∙ ap (λ (x : Verdict). record { number = x.number; place = 0; task = v.task; margin = x.margin; count = length (chain t v.task); chain = in_places (chain t v.task) }) named
    ∙ sym named

-- a task that the table has room for has its own successors, and another has none
pub succ_there : (t : Table) (k : ℕ) → k < 16 → own_succ t k ≡ succ t k
unfolding own_succ
succ_there t k b = rw (lt-ltb k 16 b)

pub succ_none : (t : Table) (k : ℕ) → 16 ≤ k → own_succ t k ≡ replicate 16 0
unfolding own_succ no_succ
succ_none t k b = rw (le-ltb k 16 b)

-- the search over a table's margins finds what the definition names
pub decided_by : (t : Table) → GoodTable t → judged_by t.n 20 (margin t) ≡ decided (verdict_on t)
unfolding judged_some decided verdict_on naming
decided_by t good =
    judged_is t.n 20 (margin t) good.n_low
    ∙ sym (lowest_or_map decided t.n (λ k. lt_z (margin t k) (pos 0)) (naming 20 t) (naming 0 t (lowest 255 t.n (λ k. all t.n (λ i. le_z (margin t k) (margin t i))))))

module _ (t : Table) (good : GoodTable t) where
  -- ---- the task is known, and its chain is looked for
  module _ (d : Decided) (e : d ≡ decided (verdict_on t)) where
    pub task_there : d.task < t.n
    unfolding decided
    task_there = let b = named_below t good in omega (arith, ap (λ (x : Decided). x.task) e)

    pub with_chain_lem : (own : List ℕ) → own ≡ row 16 (λ u. get_or t.costs (16 * d.task + u) 0) → with_chain d (own_succ t d.task) own ≡ verdict_on t
    unfolding decided naming
    with_chain_lem own o =
        ap (λ (l : List ℕ). with_chain d l own) (succ_there t d.task (omega (arith, task_there, good.n_high)))
        ∙ chain_named t good (verdict_on t) (names t good) (named_below t good) d e own o

-- what the code lists: z is the margin as the machine reads it back from its bits
pub chain_listed : (d : Decided) (next own : List ℕ) (c : ChainFound) (z : ℤ) → c ≡ longest_chain next own → z ≡ d.margin
    → (record { number = d.number; place = 0; task = d.task; margin = z; count = c.count; chain = c.vertices }) ≡ with_chain d next own
unfolding with_chain longest_chain answered in_places
chain_listed d next own c z f q =
    ap₂ (λ (x : ChainFound) (y : ℤ). record { number = d.number; place = 0; task = d.task; margin = y; count = x.count; chain = x.vertices }) f q

-- ---- a task's figures, one by one
pub figures_are : (t : Table) (k v x y : ℕ) (z : ℤ) → v ≡ vol t k → x ≡ len t k → y ≡ due t k → z ≡ margin t k
    → (record { found = true; vol = v; len = x; due = y; margin = z }) ≡ figures_on t k
unfolding figures_on
figures_are t k v x y z a b c d = rw (a, b, c, d)

-- ---- what a report shows
pub none_found : (o : Outcome) (v : Verdict) → v ≡ unread o
    → (record { outcome = o; m = 0; n = 0; deadlines = replicate 16 0; vols = replicate 16 0; lens = replicate 16 0; dues = replicate 16 0; verdict = v }) ≡ no_findings o
unfolding no_findings
none_found o v e = rw e

pub all_found : (t : Table) (x : Measures) (dues : List ℕ) (v : Verdict) → Holds t x → dues ≡ up_to t.n (due t) → v ≡ verdict_on t
    → (record { outcome = Read; m = x.m; n = x.n; deadlines = x.deadlines; vols = x.vols; lens = x.lens; dues = dues; verdict = v }) ≡ findings_on t
unfolding findings_on
all_found t x dues v h d e = rw (h.m_is, h.n_is, h.deadlines_are, h.vols_are, h.lens_are, d, e)

-- ---- a file
module _ (s : List ℕ) (l : Loaded) (h : l ≡ read s) where
  pub good_read : l.outcome ≡ Read → GoodTable l.table
  good_read e = rw h (read_good s (sym (ap (λ (x : Loaded). x.outcome) h) ∙ e))

  pub verdict_stop : (v : Verdict) → (l.outcome ≡ Read → ⊥) → v ≡ unread l.outcome → v ≡ verdict s
  unfolding verdict verdict_read
  verdict_stop v n q = q ∙ rw (← h) (not_read l.outcome unread _ n)

  pub verdict_got : (v : Verdict) → l.outcome ≡ Read → v ≡ verdict_on l.table → v ≡ verdict s
  unfolding verdict verdict_read
  verdict_got v e q = q ∙ rw (← h, e)

  pub findings_stop : (f : Findings) → (l.outcome ≡ Read → ⊥) → f ≡ no_findings l.outcome → f ≡ findings s
  unfolding findings findings_read
  findings_stop f n q = q ∙ rw (← h) (not_read l.outcome no_findings _ n)

  pub findings_got : (f : Findings) → l.outcome ≡ Read → f ≡ findings_on l.table → f ≡ findings s
  unfolding findings findings_read
  findings_got f e q = q ∙ rw (← h, e)

  pub figures_stop : (k : ℕ) (f : Figures) → (l.outcome ≡ Read → ⊥) → f ≡ no_figures → f ≡ figures s k
  unfolding figures figures_read
  figures_stop k f n q = q ∙ rw (← h) (not_read l.outcome (λ _. no_figures) _ n)

  pub figures_past : (k : ℕ) (f : Figures) → l.outcome ≡ Read → l.table.n ≤ k → f ≡ no_figures → f ≡ figures s k
  unfolding figures figures_read
  figures_past k f e b q = q ∙ rw (← h, e, le-ltb k l.table.n b)

  pub figures_got : (k : ℕ) (f : Figures) → l.outcome ≡ Read → k < l.table.n → f ≡ figures_on l.table k → f ≡ figures s k
  unfolding figures figures_read
  figures_got k f e b q = q ∙ rw (← h, e, lt-ltb k l.table.n b)

pub ruleset file-laws = (told_other, good_read, verdict_stop, verdict_got, findings_stop, findings_got, figures_stop, figures_past, figures_got)
