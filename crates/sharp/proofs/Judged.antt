-- Laws that the proofs of the code cite: what the closed form comes to over the rows of a good table is its sharp due work; the two searches over its tasks
-- find what the definition names; what the code answers of a file.
use mathlib.Core.Path.{◌≡◌, sym, ap, ap₂, ◌∙◌}
use mathlib.Core.List.{List}
use Prim.Native.Nat.{ℕ, ◌+◌, ◌*◌, ◌-◌, ◌^◌, ◌≤◌, ◌<◌, min}
use native.Mathlib.Omega.{arith}
use lib.Dec.{ltb}
use lib.ListN.{get_or}
use lib.IntN.{ℤ, pos, ◌-ℤ◌}
use lib.Signed.{lt_z, le_z}
use Rattle.graph.specs.Words.{sum, all, row, lowest}
use Rattle.graph.proofs.Facts.{sum_same, lowest_or_none}
use Rattle.table.specs.declared.Table.{Table}
use Rattle.table.specs.declared.Outcome.TheVariants.{Read}
use Rattle.table.specs.declared.Loaded.{Loaded}
use Rattle.table.specs.Memory.{vertices, D, T, cost}
use Rattle.table.specs.Reading.{read}
use Rattle.table.specs.Good.{GoodTable}
use Rattle.table.proofs.PartLaws.{told_other, not_read}
use Rattle.verdict.specs.declared.Decided.{Decided}
use Rattle.verdict.specs.declared.Verdict.{Verdict}
use Rattle.verdict.specs.declared.Findings.{Findings}
use Rattle.verdict.specs.Verdicts.{len, rounded_up, unread, up_to, no_findings}
use Rattle.verdict.specs.Judging.{judged_some, judged_by}
use Rattle.verdict.specs.Measured.{decided, with_chain, own_succ}
use Rattle.verdict.proofs.Amounts.{vol_high, len_vol, due_bound}
use Rattle.verdict.proofs.Orders.{lowest_or_map}
use Rattle.verdict.proofs.Walk.{judged_is}
use Rattle.verdict.proofs.Figured.{up_to_at}
use Rattle.verdict.proofs.Judged.{good_read, succ_there, chain_named}
use Rattle.sharp.specs.declared.gathering.Gathering.{Gathering}
use Rattle.sharp.specs.Sharp.{tail_of, asked, due_from, sharp_due, sharp_margin, sharp_naming, sharp_on, sharp_read, sharp, sharp_findings_on, sharp_findings_read, sharp_findings}
use Rattle.sharp.specs.Closed.{part, asked_from, due_by}
use Rattle.sharp.specs.Ranges.{InRange}
use Rattle.sharp.specs.Gathered.{Gathered, due_in, margin_in, late_in, NoneLate, FirstLate}
use Rattle.sharp.proofs.Sums.{sum_swap, part_is}
use Rattle.sharp.proofs.Due.{sharp_within}
use Rattle.sharp.proofs.Says.{late, some_late, sharp_named_below, sharp_names}

-- ---- what task i asks for, sums over h and over its vertices in the other order
pub from_parts : (t : Table) → GoodTable t → (k i : ℕ) → i < t.n
    → sum (vertices t i) (λ u. part (cost t i u) (T t i) (D t k - tail_of t i u)) ≡ due_from t k i
unfolding due_from asked
from_parts t good k i l =
    sum_same (vertices t i) (λ u. part (cost t i u) (T t i) (D t k - tail_of t i u)) (λ u. sum (rounded_up (D t k) (T t i)) (λ h. asked t k i h u))
    (λ u b. sym (part_is (cost t i u) (T t i) (D t k) (tail_of t i u) (good.each i l).T_low))
    ∙ sym (sum_swap (rounded_up (D t k) (T t i)) (vertices t i) (asked t k i))

small : {x : ℕ} → x ≤ 2 ^ 53 → min x (2 ^ 53) ≡ x
small h = omega arith

-- a good table's rows are within their ranges
pub in_range : (t : Table) → GoodTable t → (deadlines periods counts : List ℕ)
    → ((i : ℕ) → i < t.n → get_or deadlines i 0 ≡ D t i) → ((i : ℕ) → i < t.n → get_or periods i 0 ≡ T t i) → ((i : ℕ) → i < t.n → get_or counts i 0 ≡ vertices t i)
    → InRange t.n deadlines periods counts t.costs
unfolding cost
in_range t good deadlines periods counts d p v = (
  good.n_low,
  good.n_high,
  λ i b.
      let g = good.each i b in
      let w = v i b in
      (omega (arith, g.D_high, d i b), omega (arith, g.T_low, p i b), omega (arith, g.T_high, p i b), omega (arith, g.v_high), λ u q. g.cost_high u (omega arith)),
)

-- ---- by a good table's rows
module _ (t : Table) (good : GoodTable t) (x : Gathering) (h : Gathered t x) where
  D_is : (k : ℕ) → k < t.n → get_or x.deadlines k 0 ≡ D t k
  D_is k b = ap (λ (r : List ℕ). get_or r k 0) h.deadlines_are ∙ up_to_at t.n k (D t) b good.n_high

  len_is : (k : ℕ) → k < t.n → get_or x.lens k 0 ≡ len t k
  len_is k b = ap (λ (r : List ℕ). get_or r k 0) h.lens_are ∙ up_to_at t.n k (len t) b good.n_high

  module _ (k : ℕ) (b : k < t.n) where
    task_found : (i : ℕ) → i < t.n
        → asked_from x.costs.now x.tails.now (16 * i) (get_or x.counts i 0) (get_or x.deadlines k 0) (get_or x.periods i 0) ≡ due_from t k i
    unfolding asked_from cost
    task_found i l =
        let tail = λ (u : ℕ). get_or x.tails.now (16 * i + u) 0 in
        ap₂ (λ (v d : ℕ). asked_from x.costs.now x.tails.now (16 * i) v d (get_or x.periods i 0)) (h.v_is i l) (D_is k b)
        ∙ ap₂ (λ (c : List ℕ) (p : ℕ). sum (vertices t i) (λ u. part (get_or c (16 * i + u) 0) p (D t k - tail u))) h.costs_are (h.T_is i l)
        ∙ sum_same (vertices t i) (λ u. part (get_or t.costs (16 * i + u) 0) (T t i) (D t k - tail u)) (λ u. part (cost t i u) (T t i) (D t k - tail_of t i u))
        (λ u q. let v = (good.each i l).v_high in ap (λ (y : ℕ). part (cost t i u) (T t i) (D t k - y)) (h.tail_is i u l (omega arith)))
        ∙ from_parts t good k i l

    pub held_due : due_in x k ≡ sharp_due t k
    unfolding due_in due_by sharp_due
    held_due =
        ap (λ (n : ℕ). sum n (λ i. asked_from x.costs.now x.tails.now (16 * i) (get_or x.counts i 0) (get_or x.deadlines k 0) (get_or x.periods i 0))) h.n_is
        ∙ sum_same t.n _ (due_from t k) task_found

    pub held_margin : margin_in x k ≡ sharp_margin t k
    unfolding margin_in sharp_margin
    held_margin =
        let chain : ℕ = min (get_or x.lens k 0) (2 ^ 53) in
        let work : ℕ = min (due_in x k) (2 ^ 53) in
        let l = len_is k b in
        ap₂ (λ (m d : ℕ). pos (m * d) -ℤ pos ((m - 1) * chain + work)) h.m_is (D_is k b)
        ∙ ap₂ (λ (p q : ℕ). pos (t.m * D t k) -ℤ pos ((t.m - 1) * p + q))
        (small (omega (arith, len_vol t good k b, vol_high t good k b)) ∙ l)
        (small (omega (arith, held_due, sharp_within t k, due_bound t good k b)) ∙ held_due)

  -- ---- the chain that is too long: the search over the rows is the definition's
  late_is : (k : ℕ) → k < t.n → late_in x k ≡ late t k
  unfolding late
  late_is k b = ap₂ ltb (D_is k b) (len_is k b)

  -- "22, some len exceeds its D, lowest task"
  pub met_late : (k : ℕ) → FirstLate x k → (z : ℤ) → z ≡ sharp_margin t k → (record { number = 22; task = k; margin = z }) ≡ decided (sharp_on t)
  unfolding sharp_naming decided
  met_late k r z its =
      let b : k < t.n = omega (arith, r.0, h.n_is) in
      ap (λ (m : ℤ). record { number = 22; task = k; margin = m }) its
      ∙ sym (ap decided (some_late t good k (b, sym (late_is k b) ∙ r.1, λ j q. sym (late_is j (omega arith)) ∙ r.2 j q)))

  -- the search over the margins finds what the definition then names
  pub decided_by : NoneLate x → judged_by t.n 23 (sharp_margin t) ≡ decided (sharp_on t)
  unfolding judged_some decided sharp_on sharp_naming late
  decided_by none =
      let other : Verdict = sharp_naming 0 t (lowest 255 t.n (λ k. all t.n (λ i. le_z (sharp_margin t k) (sharp_margin t i)))) in
      judged_is t.n 23 (sharp_margin t) good.n_low
      ∙ sym (
      ap decided (lowest_or_none t.n (late t) (sharp_naming 22 t) _ (λ k b. sym (late_is k b) ∙ none k (omega (arith, h.n_is))))
      ∙ lowest_or_map decided t.n (λ k. lt_z (sharp_margin t k) (pos 0)) (sharp_naming 23 t) other
      )

-- ---- the task is known, and its chain is looked for
module _ (t : Table) (good : GoodTable t) (d : Decided) (e : d ≡ decided (sharp_on t)) where
  pub task_there : d.task < t.n
  unfolding decided
  task_there = let b = sharp_named_below t good in omega (arith, ap (λ (x : Decided). x.task) e)

  pub with_chain_lem : (own : List ℕ) → own ≡ row 16 (λ u. get_or t.costs (16 * d.task + u) 0) → with_chain d (own_succ t d.task) own ≡ sharp_on t
  unfolding sharp_naming
  with_chain_lem own o =
      ap (λ (l : List ℕ). with_chain d l own) (succ_there t d.task (omega (arith, task_there, good.n_high)))
      ∙ chain_named t good (sharp_on t) (sharp_names t good) (sharp_named_below t good) d e own o

-- ---- what a report shows
pub all_found : (t : Table) (x : Gathering) (dues : List ℕ) (v : Verdict) → Gathered t x → dues ≡ up_to t.n (sharp_due t) → v ≡ sharp_on t
    → (record { outcome = Read; m = x.m; n = x.n; deadlines = x.deadlines; vols = x.vols; lens = x.lens; dues = dues; verdict = v }) ≡ sharp_findings_on t
unfolding sharp_findings_on
all_found t x dues v h d e = rw (h.m_is, h.n_is, h.deadlines_are, h.vols_are, h.lens_are, d, e)

-- ---- a file
module _ (s : List ℕ) (l : Loaded) (h : l ≡ read s) where
  pub sharp_stop : (v : Verdict) → (l.outcome ≡ Read → ⊥) → v ≡ unread l.outcome → v ≡ sharp s
  unfolding sharp sharp_read
  sharp_stop v n q = q ∙ rw (← h) (not_read l.outcome unread _ n)

  pub sharp_done : (v : Verdict) → l.outcome ≡ Read → v ≡ sharp_on l.table → v ≡ sharp s
  unfolding sharp sharp_read
  sharp_done v e q = q ∙ rw (← h, e)

  pub findings_stop : (f : Findings) → (l.outcome ≡ Read → ⊥) → f ≡ no_findings l.outcome → f ≡ sharp_findings s
  unfolding sharp_findings sharp_findings_read
  findings_stop f n q = q ∙ rw (← h) (not_read l.outcome no_findings _ n)

  pub findings_done : (f : Findings) → l.outcome ≡ Read → f ≡ sharp_findings_on l.table → f ≡ sharp_findings s
  unfolding sharp_findings sharp_findings_read
  findings_done f e q = q ∙ rw (← h, e)

pub ruleset file-laws = (told_other, good_read, sharp_stop, sharp_done, findings_stop, findings_done)
