-- What a tail means: no chain after the vertex has more, and one has as much, or the vertex has no successor and its tail is 0. Why: where
-- there is no cycle the sum from a vertex is its own time and its tail (`sum_tail`), and the tail is the largest of the sums from its
-- successors. So tails rise against the edges, by the successor's time at least (`tail_falls`), and by just that for one of them (`tail_via`).
use mathlib.Core.Path.{◌≡◌, refl, sym, ap, ◌∙◌}
use mathlib.Core.Logic.{◌⊎◌, inl, inr, ⊎_elim}
use mathlib.Core.Bool.{Bool, true, false, not, not-not}
use mathlib.Core.List.{List, [], ◌∷◌}
use Prim.Native.Nat.{ℕ, zero, suc, ◌+◌, ◌*◌, ◌≤◌, ◌<◌}
use native.Mathlib.Omega.{arith}
use native.Mathlib.Nat.{mul-suc}
use native.Mathlib.Decide.{dec_le, dec_lt}
use lib.ListN.{get_or, replicate}
use Rattle.graph.specs.Words.{pick, bit, all, row_from, row, largest, also_if, those, any_of, is_none}
use Rattle.graph.specs.Graph.{edge, led_to, sweep, sweeps, acyclic_among, acyclic, Chain, sum_along, one_more, longest_from, maximum, longest}
use Rattle.chains.specs.Tails.{tail, After, after, IsTail, tails_of}
use Rattle.graph.proofs.Facts.{off_when, all_at, all_not, row_at, past_end, largest_most, largest_some}
use Rattle.graph.proofs.Rank.{rank}
use Rattle.graph.proofs.Long.{maximum_most, maximum_some, chain_head, from_length}
use Rattle.graph.proofs.Narrow.{largest_same, largest_upto, maximum_same, from_same, from_narrow}
use Rattle.chains.proofs.Sixteen.{from_many}
use Rattle.chains.proofs.Chains.{at_next, chain_most, after_chain, rising, sums_right}

pub largest_within : (n : ℕ) (g : ℕ → ℕ) (most : ℕ) → ((i : ℕ) → i < n → g i ≤ most) → largest n g ≤ most
largest_within n g most h = ⊎_elim (λ z. omega arith) (λ r. omega (arith, r.2, h r.0 r.1)) (largest_some n g)

picked_within : (d : Bool) {x most : ℕ} → x ≤ most → pick d x 0 ≤ most
picked_within true h = h
picked_within false h = omega arith

-- ---- of any graph
module _ (v : ℕ) (E : ℕ → ℕ → Bool) (f : ℕ → ℕ) where
  tail_is : (u : ℕ) → tail v E f u ≡ largest v (λ w. pick (E u w) (get_or (longest_from v E f 16) w 0) 0)
  unfolding tail
  tail_is u = refl

  -- one with no successor
  pub tail_none : (u : ℕ) → ((w : ℕ) → w < v → E u w ≡ false) → tail v E f u ≡ 0
  tail_none u h =
      ⊎_elim (λ z. tail_is u ∙ z) (λ r. tail_is u ∙ r.2 ∙ ap (λ (d : Bool). pick d (get_or (longest_from v E f 16) r.0 0) 0) (h r.0 r.1))
      (largest_some v (λ w. pick (E u w) (get_or (longest_from v E f 16) w 0) 0))

  -- ---- how large they are: a chain of k vertices, none of which has more than c
  module _ (c : ℕ) (h : (u : ℕ) → u < v → f u ≤ c) where
    pub sums_small : (k u : ℕ) → get_or (longest_from v E f k) u 0 ≤ c * k
    unfolding longest_from
    sums_small zero u = omega arith
    sums_small (suc k) u = elim (dec_lt u v) [
      | no b ↦ omega (arith, past_end (longest_from v E f (suc k)) u 0 (omega (arith, from_length v E f (suc k))))
      | yes b ↦
          let m = mul-suc c k in
          omega (
            arith,
            at_next v E f k u b,
            h u b,
            largest_within v (λ w. pick (E u w) (get_or (longest_from v E f k) w 0) 0) (c * k) (λ w b. picked_within (E u w) (sums_small k w)),
          )
    ]

    pub tail_small : (u : ℕ) → tail v E f u ≤ c * 16
    tail_small u =
        omega (
          arith,
          tail_is u,
          largest_within v (λ w. pick (E u w) (get_or (longest_from v E f 16) w 0) 0) (c * 16) (λ w b. picked_within (E u w) (sums_small 16 w)),
        )

  -- a vertex has one tail at most
  no_more : (u x y : ℕ) → IsTail v E f u x → IsTail v E f u y → x ≤ y
  no_more u x y s t = ⊎_elim (λ z. omega (arith, z.0)) (λ r. omega (arith, r.2, t.bounds r.0 r.1)) s.reached

  pub tail_only : (u x y : ℕ) → IsTail v E f u x → IsTail v E f u y → x ≡ y
  tail_only u x y s t = omega (arith, no_more u x y s t, no_more u y x t s)

-- ---- of a graph with no cycle: v vertices with successors of sixteen bits; the cycle test passes
module _ (v : ℕ) (succ : List ℕ) (f : ℕ → ℕ) (v16 : v ≤ 16) (passes : acyclic succ ≡ true) where
  abbrev sums : List ℕ
  sums = longest_from v (edge succ) f 16

  abbrev tail_at : ℕ → ℕ
  tail_at u = tail v (edge succ) f u

  -- the largest sum along a chain from u
  pub sum_tail : (u : ℕ) → u < v → get_or (longest_from v (edge succ) f 16) u 0 ≡ f u + tail v (edge succ) f u
  sum_tail u b = sums_right v succ f (omega arith) v16 passes u b ∙ ap (λ (x : ℕ). f u + x) (sym (tail_is v (edge succ) f u))

  pub tail_falls : (u w : ℕ) → w < v → edge succ u w ≡ true → f w + tail v (edge succ) f w ≤ tail v (edge succ) f u
  tail_falls u w b e =
      let g : ℕ → ℕ = λ x. pick (edge succ u x) (get_or sums x 0) 0 in
      let q : g w ≡ get_or sums w 0 = ap (λ (d : Bool). pick d (get_or sums w 0) 0) e in
      omega (arith, largest_most v g w b, tail_is v (edge succ) f u, sum_tail w b)

  -- 0, or the time and the tail of a successor
  pub tail_via : (u : ℕ)
      → (tail v (edge succ) f u ≡ 0) ⊎ ((w : ℕ) × (w < v) × (edge succ u w ≡ true) × (tail v (edge succ) f u ≡ f w + tail v (edge succ) f w))
  tail_via u =
      ⊎_elim (λ z. inl (tail_is v (edge succ) f u ∙ z)) (λ r. go r.0 r.1 (edge succ u r.0) refl r.2)
      (largest_some v (λ w. pick (edge succ u w) (get_or sums w 0) 0))
    where
      go : (w : ℕ) → w < v → (d : Bool) → edge succ u w ≡ d → largest v (λ x. pick (edge succ u x) (get_or sums x 0) 0) ≡ pick d (get_or sums w 0) 0
          → (tail_at u ≡ 0) ⊎ ((w : ℕ) × (w < v) × (edge succ u w ≡ true) × (tail_at u ≡ f w + tail_at w))
      go w b true e q = inr (w, b, e, tail_is v (edge succ) f u ∙ q ∙ sum_tail w b)
      go w b false e q = inl (tail_is v (edge succ) f u ∙ q)

  -- where u has a successor it is always one's
  pub tail_next : (u x : ℕ) → x < v → edge succ u x ≡ true
      → (w : ℕ) × (w < v) × (edge succ u w ≡ true) × (tail v (edge succ) f u ≡ f w + tail v (edge succ) f w)
  tail_next u x b e = ⊎_elim (λ z. (x, b, e, omega (arith, tail_falls u x b e))) (λ r. r) (tail_via u)

  -- ---- WHAT A TAIL IS
  -- from each vertex some chain has its time and its tail for its sum
  from_tail : (w : ℕ) → w < v → (c : List ℕ) × Chain v (edge succ) (w ∷ c) × (sum_along f (w ∷ c) ≡ f w + tail v (edge succ) f w)
  unfolding sum_along
  from_tail w b =
      let r = rising v succ f (omega arith) v16 passes in
      let s = sums_right v succ f (omega arith) v16 passes in
      let a = after_chain v (edge succ) f sums s (rank 16 (edge succ)) r 15 w (tail_at w) b (sum_tail w b) (omega (arith, r.least w b)) in
      (_, a.0, ap (λ (x : ℕ). f w + x) a.1)

  pub tail_means : (u : ℕ) → IsTail v (edge succ) f u (tail v (edge succ) f u)
  tail_means u = record { bounds = bounds; reached = reached (all v (λ w. not (edge succ u w))) refl }
    where
      bounds : (c : List ℕ) → After v (edge succ) u c → sum_along f c ≤ tail_at u
      bounds [] a = absurd (none a)
        where
          none : After v (edge succ) u [] → ⊥
          none = elim [ ]
      bounds (w ∷ d) (after e p) =
          let b = chain_head v (edge succ) p in
          omega (arith, chain_most v (edge succ) f sums (sums_right v succ f (omega arith) v16 passes) w d p, sum_tail w b, tail_falls u w b e)

      reached : (d : Bool) → all v (λ w. not (edge succ u w)) ≡ d
          → ((tail_at u ≡ 0) × ((w : ℕ) → w < v → edge succ u w ≡ false)) ⊎ ((c : List ℕ) × After v (edge succ) u c × (sum_along f c ≡ tail_at u))
      reached true h =
          let n : (w : ℕ) → w < v → edge succ u w ≡ false = λ w b. sym (not-not (edge succ u w)) ∙ ap not (all_at v (λ w. not (edge succ u w)) h w b) in
          inl (tail_none v (edge succ) f u n, n)
      reached false h =
          let x = all_not v (λ w. not (edge succ u w)) h in
          let w = tail_next u x.0 x.1 (sym (not-not (edge succ u x.0)) ∙ ap not x.2) in
          let c = from_tail w.0 w.1 in
          inr (w.0 ∷ c.0, after w.2 c.1, c.2 ∙ sym w.3)

  -- ---- the longest chain
  pub tail_long : (u : ℕ) → u < v → f u + tail v (edge succ) f u ≤ longest v (edge succ) f
  unfolding longest
  tail_long u b = omega (arith, sum_tail u b, maximum_most sums u)

  pub longest_tail : 1 ≤ v → (u : ℕ) × (u < v) × (longest v (edge succ) f ≡ f u + tail v (edge succ) f u)
  unfolding longest
  longest_tail v1 =
      let m = maximum_some sums (omega (arith, from_many v (edge succ) f 15)) in
      let b : m.0 < v = omega (arith, m.1, from_many v (edge succ) f 15) in
      (m.0, b, m.2 ∙ sum_tail m.0 b)

  pub longest_largest : longest v (edge succ) f ≡ largest v (λ u. f u + tail v (edge succ) f u)
  unfolding longest maximum largest
  longest_largest = elim (dec_le 1 v) [
    | yes v1 ↦
        let g : ℕ → ℕ = λ u. f u + tail_at u in
        let m = longest_tail v1 in
        omega (arith, m.2, largest_most v g m.0 m.1, largest_within v g (longest v (edge succ) f) tail_long)
    | no v0 ↦
        let z : v ≡ 0 = omega arith in
        maximum_same sums [] (λ i. past_end sums i 0 (omega (arith, from_length v (edge succ) f 16)))
        ∙ ap (λ (n : ℕ). largest n (λ u. f u + tail_at u)) (sym z)
  ]

-- ---- times that are the same below v
pub tail_same : (v : ℕ) (E : ℕ → ℕ → Bool) (f g : ℕ → ℕ) → ((u : ℕ) → u < v → f u ≡ g u) → (u : ℕ) → tail v E f u ≡ tail v E g u
tail_same v E f g same u =
    tail_is v E f u ∙ largest_same v _ _ (λ w b. ap (λ (x : ℕ). pick (E u w) x 0) (from_same v E f g same 16 w)) ∙ sym (tail_is v E g u)

-- ---- no edge and no time from v on: the tail among sixteen is that among the first v
pub tails_named : (v : ℕ) (succ : List ℕ) (f : ℕ → ℕ) → v ≤ 16 → ((u w : ℕ) → edge succ u w ≡ true → (u < v) × (w < v))
    → ((u : ℕ) → v ≤ u → u < 16 → f u ≡ 0) → (u : ℕ) → tail 16 (edge succ) f u ≡ tail v (edge succ) f u
tails_named v succ f v16 ends unused u =
    tail_is 16 (edge succ) f u
    ∙ largest_upto v 16 _ v16 (λ w a b. ap (λ (d : Bool). pick d (get_or (longest_from 16 (edge succ) f 16) w 0) 0) (off_when _ (λ e. let n = (ends u w e).1 in omega arith)))
    ∙ largest_same v _ _ (λ w b. ap (λ (x : ℕ). pick (edge succ u w) x 0) (from_narrow v (edge succ) f v16 ends unused 16 w))
    ∙ sym (tail_is v (edge succ) f u)

-- WHAT `tails_of` MEANS, of a task of v vertices that passes the cycle test: its times are f, and the others have none
pub tails_of_is : (v : ℕ) (succ times : List ℕ) (f : ℕ → ℕ) → v ≤ 16 → acyclic succ ≡ true
    → ((u w : ℕ) → edge succ u w ≡ true → (u < v) × (w < v)) → ((u : ℕ) → u < 16 → get_or times u 0 ≡ f u)
    → ((u : ℕ) → v ≤ u → u < 16 → f u ≡ 0) → (u : ℕ) → u < 16 → get_or (tails_of succ times) u 0 ≡ tail v (edge succ) f u
unfolding tails_of
tails_of_is v succ times f v16 passes ends same unused u b =
    row_at 16 _ u 0 b
    ∙ ap (λ (d : Bool). pick d (tail 16 (edge succ) (λ w. get_or times w 0) u) 0) passes
    ∙ tail_same 16 (edge succ) (λ w. get_or times w 0) f same u
    ∙ tails_named v succ f v16 ends unused u

-- EXAMPLES: a chain of three, one with a time of 0 in between, a graph that splits and meets again, a cycle.
abbrev rows : List (List ℕ)
rows =
    tails_of (2 ∷ 4 ∷ 0 ∷ []) (5 ∷ 3 ∷ 4 ∷ [])
    ∷ tails_of (2 ∷ 4 ∷ 0 ∷ []) (5 ∷ 0 ∷ 4 ∷ [])
    ∷ tails_of (6 ∷ 8 ∷ 8 ∷ 0 ∷ []) (1 ∷ 2 ∷ 7 ∷ 3 ∷ [])
    ∷ tails_of (2 ∷ 1 ∷ []) (1 ∷ 1 ∷ [])
    ∷ []

examples : rows ≡ (7 ∷ 4 ∷ replicate 14 0) ∷ (4 ∷ 4 ∷ replicate 14 0) ∷ (10 ∷ 3 ∷ 3 ∷ replicate 13 0) ∷ replicate 16 0 ∷ []
unfolding tails_of tail acyclic acyclic_among sweeps sweep led_to those any_of also_if is_none row row_from edge bit longest_from one_more largest
examples = refl
