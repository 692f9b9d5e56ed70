-- The edges of the first v vertices, put into rows of sixteen bits one after the other, give back those vertices' rows.
use mathlib.Core.Path.{◌≡◌, sym, ap, ◌∙◌}
use mathlib.Core.Logic.{⊎_elim}
use mathlib.Core.Bool.{Bool, true}
use mathlib.Core.List.{List}
use Prim.Native.Nat.{ℕ, ◌+◌, ◌*◌, ◌/◌, ◌%◌, ◌^◌, ◌≤◌, ◌<◌}
use native.Mathlib.Omega.{arith}
use native.Mathlib.Decide.{dec_lt}
use lib.ListN.{get_or}
use lib.Pow.{pow_pos}
use lib.Dec.{ltb}
use borrow.Author.Tests.{lt-ltb, le-ltb}
use Rattle.graph.specs.Words.{pick, is_in}
use Rattle.graph.specs.Graph.{edge}
use Rattle.graph.proofs.Facts.{below_pass, below_all, length_row, row_at, row_past}
use Rattle.table.specs.Memory.{no_succ}
use Rattle.checks.specs.Checking.{keys_of, used_rows}
use Rattle.table.proofs.Bits.{bit_zero, no_edge}
use Rattle.checks.proofs.Keys.{keys_below}
use Rattle.table.proofs.Edges.{slot}
use Rattle.table.proofs.Successors.{add_all, Rows, added, same_rows, no_rows}

-- ---- the rows of the first v vertices
module _ (v : ℕ) (succ : List ℕ) (hv : v ≤ 16) (small : (u : ℕ) → get_or succ u 0 < 2 ^ 16) where
  used_at : (u : ℕ) → u < 16 → get_or (used_rows v succ) u 0 ≡ pick (ltb u v) (get_or succ u 0) 0
  unfolding used_rows
  used_at u h = row_at 16 _ u 0 h

  used_in : (u : ℕ) → u < v → get_or (used_rows v succ) u 0 ≡ get_or succ u 0
  used_in u h = used_at u (omega arith) ∙ ap (λ (b : Bool). pick b (get_or succ u 0) 0) (lt-ltb u v h)

  used_out : (u : ℕ) → v ≤ u → get_or (used_rows v succ) u 0 ≡ 0
  unfolding used_rows
  used_out u h = elim (dec_lt u 16) [
    | yes l ↦ used_at u l ∙ ap (λ (b : Bool). pick b (get_or succ u 0) 0) (le-ltb u v h)
    | no l ↦ row_past 16 _ u 0 (omega arith)
  ]

  used_rows_lem : Rows (used_rows v succ)
  unfolding used_rows
  used_rows_lem = record {
    many = length_row 16 _;
    small = λ u. elim (dec_lt u v) [ yes l ↦ rw (used_in u l) (small u) | no l ↦ rw (used_out u (omega arith)) (pow_pos 16) ];
  }

  key_edge : (k : ℕ) → is_in k (keys_of v succ) ≡ true → (k < 16 * v) × (edge succ (k / 16) (k % 16) ≡ true)
  key_edge k e = below_pass (16 * v) _ k (ap (is_in k) (sym (keys_below succ v)) ∙ e)

  edge_key : (k : ℕ) → k < 16 * v → edge succ (k / 16) (k % 16) ≡ true → is_in k (keys_of v succ) ≡ true
  edge_key k b e = ap (is_in k) (keys_below succ v) ∙ below_all (16 * v) _ k b e

  -- THE EDGES OF THE FIRST v VERTICES, PUT INTO ROWS, ARE THOSE ROWS
  pub rows_of_keys : add_all no_succ (keys_of v succ) ≡ used_rows v succ
  unfolding edge
  rows_of_keys =
      let a = added no_succ (keys_of v succ) no_rows (λ k e. let o = (key_edge k e).0 in omega arith) in
      same_rows (add_all no_succ (keys_of v succ)) (used_rows v succ) a.rows used_rows_lem
      (λ u w hu hw e.
      let q = slot u w hw in
      ⊎_elim (λ z. absurd (no_edge ((16 * u + w) / 16) ((16 * u + w) % 16) z))
      (λ z.
      let k = key_edge (16 * u + w) z in
      let b = k.0 in
      let h : u < v = omega arith in
      rw (used_in u h) (rw (q.0, q.1) at k.1))
      (a.edges (16 * u + w) (rw (q.0, q.1) e)))
      (λ u w hu hw e. elim (dec_lt u v) [
        | yes h ↦
            let q = slot u w hw in
            let g : edge succ ((16 * u + w) / 16) ((16 * u + w) % 16) ≡ true = rw (q.0, q.1) (rw (used_in u h) at e) in
            let z = a.there (16 * u + w) (edge_key (16 * u + w) (omega arith) g) in
            rw (q.0, q.1) at z
        | no h ↦ absurd (bit_zero w (rw (used_out u (omega arith)) at e))
      ])
