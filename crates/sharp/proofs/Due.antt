-- THE SHARP DUE WORK of a good table: no more than the old due work, and what bounds the margin's low end. Each job asks for its volume at most; one of
-- another task that ends h periods before D has D - h ticks at most for each vertex; and of its own four jobs, the longest chain left out, every vertex
-- asks for its cost at most, while along the longest chain all that is asked for fits into the ticks that the job has.
use mathlib.Core.Path.{◌≡◌, refl}
use mathlib.Core.Bool.{Bool}
use mathlib.Core.List.{List, [], ◌∷◌}
use Prim.Native.Nat.{ℕ, zero, suc, ◌+◌, ◌*◌, ◌-◌, ◌≤◌, ◌<◌, min}
use native.Mathlib.Omega.{arith}
use native.Mathlib.Nat.{mul_comm, mul-suc, mul-le-mul_left}
use lib.ListN.{length}
use Rattle.graph.specs.Words.{sum}
use Rattle.graph.specs.Graph.{Chain, joined, sum_along}
use Rattle.graph.proofs.Facts.{sum_le, sum_same, sum_first, sum_add}
use Rattle.graph.proofs.Long.{longest_reached, chain_head}
use Rattle.graph.proofs.Rank.{rank}
use Rattle.chains.proofs.Chains.{none_chain}
use Rattle.chains.specs.Tails.{after}
use Rattle.table.specs.declared.Table.{Table}
use Rattle.table.specs.Memory.{vertices, D, T, succ, edge_in, cost}
use Rattle.table.specs.Good.{GoodTable}
use Rattle.verdict.specs.Verdicts.{vol, len, rounded_up, due}
use Rattle.verdict.proofs.Amounts.{sum_most, sum_but_one, sum_part, up_most, along_most, climbs, own_jobs}
use Rattle.sharp.specs.Sharp.{tail_of, asked, due_from, sharp_due}
use Rattle.sharp.proofs.Sums.{sum_const}
use Rattle.sharp.proofs.Tails.{tail_means}

-- ---- along a chain, vertex by vertex
module _ (v : ℕ) (E : ℕ → ℕ → Bool) (most : ℕ) (f : ℕ → ℕ) where
  along_few : ((u : ℕ) → u < v → f u ≤ most) → (c : List ℕ) → Chain v E c → sum_along f c ≤ most * length c
  unfolding sum_along
  along_few h [] p = absurd (none_chain p)
  along_few h (u ∷ []) p = omega (arith, h u (chain_head v E p), mul-suc most 0)
  along_few h (u ∷ w ∷ c) (joined b e p) = omega (arith, h u b, along_few h (w ∷ c) p, mul-suc most (length (w ∷ c)))

  along_both : (g : ℕ → ℕ) → ((u : ℕ) → u < v → f u + g u ≡ most) → (c : List ℕ) → Chain v E c → sum_along f c + sum_along g c ≡ most * length c
  unfolding sum_along
  along_both g h [] p = absurd (none_chain p)
  along_both g h (u ∷ []) p = omega (arith, h u (chain_head v E p), mul-suc most 0)
  along_both g h (u ∷ w ∷ c) (joined b e p) = omega (arith, h u b, along_both g h (w ∷ c) p, mul-suc most (length (w ∷ c)))

module _ (t : Table) (k : ℕ) where
  -- ---- A JOB ASKS FOR ITS VOLUME AT MOST, so the sharp due work is within the old
  asked_vol : (i h : ℕ) → sum (vertices t i) (asked t k i h) ≤ vol t i
  unfolding asked vol
  asked_vol i h = sum_le (vertices t i) _ _ (λ u l. omega arith)

  pub from_within : (i : ℕ) → due_from t k i ≤ rounded_up (D t k) (T t i) * vol t i
  unfolding due_from
  from_within i =
      omega (arith, sum_most (rounded_up (D t k) (T t i)) (vol t i) (λ h. sum (vertices t i) (asked t k i h)) (λ h l. asked_vol i h), mul_comm (vol t i) (rounded_up (D t k) (T t i)))

  pub sharp_within : sharp_due t k ≤ due t k
  unfolding sharp_due due
  sharp_within = sum_le t.n _ _ (λ i l. from_within i)

four : (f : ℕ → ℕ) → sum 4 f ≡ f 0 + f 1 + f 2 + f 3
unfolding sum
four f = omega arith

-- ---- ANOTHER TASK: 16 · (D + (D - 1) + .. + 1) at most
stairs : (n : ℕ) → sum n (λ h. 16 * (n - h)) ≡ 8 * (n * (n + 1))
unfolding sum
stairs zero = refl
stairs (suc n) =
    let e : suc n * (suc n + 1) ≡ n * (n + 1) + 2 * suc n = omega (arith, mul_comm (suc n) (suc n + 1), mul-suc (suc n + 1) n, mul_comm (suc n + 1) n, mul-suc n (n + 1), mul_comm n (n + 1)) in
    omega (
      arith,
      sum_first n (λ h. 16 * (suc n - h)),
      sum_same n (λ h. 16 * (suc n - suc h)) (λ h. 16 * (n - h)) (λ h l. omega arith),
      stairs n,
      e,
    )

module _ (t : Table) (good : GoodTable t) (k : ℕ) (b : k < t.n) where
  step_high : (i h : ℕ) → i < t.n → sum (vertices t i) (asked t k i h) ≤ 16 * (D t k - h)
  unfolding asked
  step_high i h l =
      let g = good.each i l in
      let one : h * 1 ≤ h * T t i = mul-le-mul_left h g.T_low in
      omega (
        arith,
        sum_most (vertices t i) (D t k - h) (λ u. min (cost t i u) (D t k - h * T t i - tail_of t i u)) (λ u q. omega arith),
        mul-le-mul_left (D t k - h) g.v_high,
      )

  pub other_high : (i : ℕ) → i < t.n → due_from t k i ≤ 8 * (D t k * (D t k + 1))
  unfolding due_from
  other_high i l =
      omega (
        arith,
        sum_le (rounded_up (D t k) (T t i)) (λ h. sum (vertices t i) (asked t k i h)) (λ h. 16 * (D t k - h)) (λ h q. step_high i h l),
        sum_part (rounded_up (D t k) (T t i)) (D t k) (λ h. 16 * (D t k - h)) (up_most (D t k) (T t i) (good.each i l).T_low),
        stairs (D t k),
      )

  -- ---- ITS OWN JOBS, in a window of x ticks: D less so many periods
  module _ (x : ℕ) where
    abbrev want : ℕ → ℕ
    want u = min (cost t k u) (x - tail_of t k u)

    -- along a chain what is asked for is within the window: what follows a vertex has its tail at most
    along : (c : List ℕ) → Chain (vertices t k) (edge_in t k) c → (sum_along want c ≤ x) × (sum_along want c ≤ sum_along (cost t k) c)
    unfolding sum_along
    along [] p = absurd (none_chain p)
    along (u ∷ []) p = (omega arith, omega arith)
    along (u ∷ w ∷ c) (joined h e p) =
        let r = along (w ∷ c) p in
        let q = (tail_means t good k b u).bounds (w ∷ c) (after e p) in
        (omega (arith, r.0, r.1, q), omega (arith, r.1))

    -- and whatever is not on the longest chain asks for 1,000,000 at most
    window_high : sum (vertices t k) want + len t k ≤ x + 16000000
    unfolding len edge_in
    window_high =
        let g = good.each k b in
        let r = longest_reached (vertices t k) (succ t k) (cost t k) g.v_high g.no_cycle g.v_low in
        let m : ℕ → ℕ = λ u. 1000000 - want u in
        omega (
          arith,
          r.2,
          (along r.0 r.1).0,
          along_few (vertices t k) (edge_in t k) 1000000 (cost t k) g.cost_high r.0 r.1,
          along_both (vertices t k) (edge_in t k) 1000000 want m (λ u l. let c = g.cost_high u l in omega arith) r.0 r.1,
          along_most (vertices t k) (edge_in t k) (rank 16 (edge_in t k)) (climbs t good k b) m r.0 r.1,
          sum_add (vertices t k) want m (λ u. 1000000) (λ u l. let c = g.cost_high u l in omega arith),
          sum_const (vertices t k) 1000000 (λ u. 1000000) (λ u l. refl),
          g.v_high,
        )

  job_high : (h : ℕ) → sum (vertices t k) (asked t k k h) + len t k ≤ D t k - h * T t k + 16000000
  unfolding asked
  job_high h = window_high (D t k - h * T t k)

  -- four jobs at most, whose windows D, D - T, D - 2 · T and D - 3 · T come to five halves of D at most, since T is a quarter of D or more
  pub own_high : 2 * due_from t k k + 8 * len t k ≤ 5 * D t k + 128000000
  unfolding due_from
  own_high =
      let p = (good.each k b).D_T in
      let jobs : ℕ → ℕ = λ h. sum (vertices t k) (asked t k k h) in
      omega (arith, sum_part (rounded_up (D t k) (T t k)) 4 jobs (own_jobs t good k b), four jobs, job_high 0, job_high 1, job_high 2, job_high 3)

  -- ---- ALL TOGETHER
  pub sharp_high : sharp_due t k ≤ due_from t k k + 15 * (8 * (D t k * (D t k + 1)))
  unfolding sharp_due
  sharp_high = go t.n refl b
    where
      go : (n : ℕ) → t.n ≡ n → k < n → sum n (due_from t k) ≤ due_from t k k + 15 * (8 * (D t k * (D t k + 1)))
      go zero e l = absurd (omega arith)
      go (suc n) e l =
          let h = good.n_high in
          let z : n ≤ 15 = omega arith in
          omega (
            arith,
            sum_but_one n (due_from t k k) (8 * (D t k * (D t k + 1))) k (due_from t k) l (omega arith) (λ i q. other_high i (omega arith)),
            mul-le-mul_left (8 * (D t k * (D t k + 1))) z,
          )
