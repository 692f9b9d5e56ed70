-- The keys of a task's edges: they ascend, and with the successors of the vertices from v on zero they say all of them.
use mathlib.Core.Path.{◌≡◌, subst}
use mathlib.Core.Bool.{true}
use Prim.Native.Nat.{ℕ, ◌+◌, ◌*◌, ◌/◌, ◌%◌, ◌≤◌, ◌<◌}
use native.Mathlib.Omega.{arith}
use native.Mathlib.Decide.{dec_lt}
use lib.ListN.{get_or}
use Rattle.table.specs.declared.Table.{Table}
use Rattle.graph.specs.Words.{bit, row, those_below, is_in}
use Rattle.graph.specs.Graph.{edge}
use Rattle.graph.proofs.Facts.{below_pass, below_all}
use Rattle.table.specs.Memory.{no_succ, vertices, succ, edge_in}
use Rattle.table.specs.Writing.{edge_keys}
use Rattle.table.proofs.Bits.{bit_zero}
use Rattle.table.proofs.Ascending.{Asc, keys_asc}
use Rattle.table.proofs.Successors.{add_all, Rows, edge_under, same_rows}
use Rattle.table.proofs.FieldViews.{Ends}
use Rattle.table.proofs.Edges.{AllEnds, slot, only_them, edge_in_lem}

module _ (t : Table) (i : ℕ) where
  pub keys_ascend : Asc 0 (16 * vertices t i) (edge_keys t i)
  unfolding edge_keys those_below row
  keys_ascend = keys_asc _ (16 * vertices t i) 0 (16 * vertices t i) (omega arith)

  pub key_edge : (k : ℕ) → is_in k (edge_keys t i) ≡ true → (k < 16 * vertices t i) × (edge (succ t i) (k / 16) (k % 16) ≡ true)
  unfolding edge_keys edge_in
  key_edge k e = below_pass (16 * vertices t i) _ k e

  pub edge_key : (u w : ℕ) → u < vertices t i → w < 16 → edge (succ t i) u w ≡ true → is_in (16 * u + w) (edge_keys t i) ≡ true
  unfolding edge_keys edge_in
  edge_key u w b h e = let q = slot u w h in below_all (16 * vertices t i) _ (16 * u + w) (omega arith) (rw (q.0, q.1) e)

  -- adding them all gives the successors
  pub same_succ : vertices t i ≤ 16 → Rows (succ t i) → AllEnds (vertices t i) (succ t i) → add_all no_succ (edge_keys t i) ≡ succ t i
  same_succ v g ends =
      let key-ends : (k : ℕ) → is_in k (edge_keys t i) ≡ true → Ends (vertices t i) k = λ k e. ends (k / 16) (k % 16) (key_edge k e).1 in
      let a = only_them (vertices t i) v (edge_keys t i) key-ends in
      same_rows (add_all no_succ (edge_keys t i)) (succ t i) a.rows g
      (λ u w hu hw e. let q = slot u w hw in rw (q.0, q.1) at (key_edge (16 * u + w) (edge_in_lem (vertices t i) v (edge_keys t i) key-ends u w e)).1)
      (λ u w hu hw e. let q = slot u w hw in rw (q.0, q.1) at (a.there (16 * u + w) (edge_key u w (ends u w e).0 hw e)))

  -- the ends of all edges are good if those of the keys are and the other vertices have none
  pub ends_by_keys : Rows (succ t i) → ((k : ℕ) → is_in k (edge_keys t i) ≡ true → Ends (vertices t i) k) → ((u : ℕ) → vertices t i ≤ u → u < 16 → get_or (succ t i) u 0 ≡ 0)
      → AllEnds (vertices t i) (succ t i)
  unfolding edge
  ends_by_keys g o z u w e =
      let b = edge_under (succ t i) g u w e in
      let q = slot u w b.1 in
      elim (dec_lt u (vertices t i)) [
        | yes h ↦ rw (q.0, q.1) at (o (16 * u + w) (edge_key u w h b.1 e))
        | no h ↦ absurd (bit_zero w (subst (λ (x : ℕ). bit x w ≡ true) (z u (omega arith) b.0) e))
      ]
