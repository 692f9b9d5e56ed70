-- TAILS of a good table's tasks: along an edge a tail falls by the cost of the vertex that the edge leads to, at least; it is 0, or just that of a
-- successor; with the vertex's own cost it is within len, and for one vertex it is len. True by the laws of the crate chains: a good table's
-- task has at most sixteen vertices and no cycle.
use mathlib.Core.Path.{◌≡◌, sym, ap, ap₂, ◌∙◌}
use mathlib.Core.Logic.{◌⊎◌}
use mathlib.Core.Bool.{true}
use mathlib.Core.List.{List}
use Prim.Native.Nat.{ℕ, ◌+◌, ◌*◌, ◌≤◌, ◌<◌}
use native.Mathlib.Omega.{arith}
use native.Mathlib.Decide.{dec_lt}
use lib.ListN.{get_or}
use Rattle.graph.specs.Words.{row, largest}
use Rattle.graph.proofs.Facts.{off_when, row_at, row_past}
use Rattle.graph.proofs.Narrow.{largest_same, largest_upto}
use Rattle.chains.specs.Tails.{tails_of, IsTail}
use Rattle.chains.proofs.Tails as tails
use Rattle.table.specs.declared.Table.{Table}
use Rattle.table.specs.Memory.{vertices, succ, edge_in, cost}
use Rattle.table.specs.Good.{GoodTable}
use Rattle.verdict.specs.Verdicts.{len}
use Rattle.verdict.proofs.Amounts.{vol_high, len_vol}
use Rattle.sharp.specs.Sharp.{tail_of}

module _ (t : Table) (good : GoodTable t) (i : ℕ) (b : i < t.n) where
  -- WHAT A TAIL MEANS: the longest chain after the vertex
  pub tail_means : (u : ℕ) → IsTail (vertices t i) (edge_in t i) (cost t i) u (tail_of t i u)
  unfolding tail_of edge_in
  tail_means = let g = good.each i b in tails.tail_means (vertices t i) (succ t i) (cost t i) g.v_high g.no_cycle

  pub tail_falls : (u w : ℕ) → edge_in t i u w ≡ true → cost t i w + tail_of t i w ≤ tail_of t i u
  unfolding tail_of edge_in
  tail_falls u w e =
      let g = good.each i b in
      tails.tail_falls (vertices t i) (succ t i) (cost t i) g.v_high g.no_cycle u w (g.ends u w e).1 e

  -- the longest chain after u is none, or goes on by w
  pub tail_ends : (u : ℕ)
      → (tail_of t i u ≡ 0) ⊎ ((w : ℕ) × (w < vertices t i) × (edge_in t i u w ≡ true) × (tail_of t i u ≡ cost t i w + tail_of t i w))
  unfolding tail_of edge_in
  tail_ends = let g = good.each i b in tails.tail_via (vertices t i) (succ t i) (cost t i) g.v_high g.no_cycle

  -- a vertex that is not used has none
  pub tail_unused : (u : ℕ) → vertices t i ≤ u → tail_of t i u ≡ 0
  unfolding tail_of
  tail_unused u l =
      tails.tail_none (vertices t i) (edge_in t i) (cost t i) u
      (λ w h. off_when (edge_in t i u w) (λ e. let q = ((good.each i b).ends u w e).0 in omega arith))

  -- ---- the longest chain by them
  pub tail_len : (u : ℕ) → u < vertices t i → cost t i u + tail_of t i u ≤ len t i
  unfolding tail_of len edge_in
  tail_len = let g = good.each i b in tails.tail_long (vertices t i) (succ t i) (cost t i) g.v_high g.no_cycle

  -- of any of the sixteen
  pub tail_within : (u : ℕ) → u < 16 → cost t i u + tail_of t i u ≤ len t i
  tail_within u l = elim (dec_lt u (vertices t i)) [
    | yes h ↦ tail_len u h
    | no h ↦ omega (arith, tail_unused u (omega arith), (good.each i b).unused u (omega arith) l)
  ]

  pub len_tails : len t i ≡ largest (vertices t i) (λ u. cost t i u + tail_of t i u)
  unfolding tail_of len edge_in
  len_tails = let g = good.each i b in tails.longest_largest (vertices t i) (succ t i) (cost t i) g.v_high g.no_cycle

  -- ---- far below 2 ^ 32
  pub tail_high : (u : ℕ) → tail_of t i u ≤ 16000000
  tail_high u = elim (dec_lt u (vertices t i)) [
    | yes h ↦ omega (arith, tail_len u h, len_vol t good i b, vol_high t good i b)
    | no h ↦ omega (arith, tail_unused u (omega arith))
  ]

  -- ---- what the code finds of the successors and the sixteen costs as they lie in memory
  module _ (own after : List ℕ) (o : own ≡ row 16 (λ u. get_or t.costs (16 * i + u) 0)) (e : after ≡ tails_of (succ t i) own) where
    pub tails_found : (u : ℕ) → u < 16 → get_or after u 0 ≡ tail_of t i u
    unfolding tail_of edge_in cost
    tails_found u l =
        let g = good.each i b in
        ap (λ (x : List ℕ). get_or x u 0) (e ∙ ap (tails_of (succ t i)) o)
        ∙ tails.tails_of_is (vertices t i) (succ t i) (row 16 (λ u. get_or t.costs (16 * i + u) 0)) (cost t i) g.v_high g.no_cycle
        (λ u w e. let q = g.ends u w e in (q.0, q.1)) (λ u h. row_at 16 (λ u. get_or t.costs (16 * i + u) 0) u 0 h) g.unused u l

    pub tails_small : (u : ℕ) → get_or after u 0 ≤ 16000000
    unfolding tails_of
    tails_small u = elim (dec_lt u 16) [
      | yes l ↦ omega (arith, tails_found u l, tail_high u)
      | no l ↦ omega (arith, ap (λ (x : List ℕ). get_or x u 0) e ∙ row_past 16 _ u 0 (omega arith))
    ]

    -- the largest of cost and tail is len
    pub len_found : (x : ℕ) → x ≡ largest 16 (λ u. get_or own u 0 + get_or after u 0) → x ≡ len t i
    unfolding cost
    len_found x h =
        h
        ∙ largest_same 16 _ (λ u. cost t i u + tail_of t i u)
        (λ u l. ap₂ (λ (a c : ℕ). a + c) (ap (λ (y : List ℕ). get_or y u 0) o ∙ row_at 16 (λ u. get_or t.costs (16 * i + u) 0) u 0 l) (tails_found u l))
        ∙ largest_upto (vertices t i) 16 (λ u. cost t i u + tail_of t i u) (good.each i b).v_high
        (λ u l h. ap₂ (λ (a c : ℕ). a + c) ((good.each i b).unused u l h) (tail_unused u l))
        ∙ sym len_tails
