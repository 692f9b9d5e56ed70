-- "Unused entries are zero": what the writer's test 10 says, and that a good table passes it.
use mathlib.Core.Path.{◌≡◌, refl, sym, ap, ◌∙◌}
use mathlib.Core.Bool.{true, ◌&&◌, ◌||◌}
use mathlib.Core.List.{List}
use Prim.Native.Nat.{ℕ, ◌≤◌, ◌<◌}
use native.Mathlib.Omega.{arith}
use native.Mathlib.Decide.{dec_lt}
use lib.ListN.{length, get_or, replicate}
use lib.Seq.{ext_get_or}
use lib.Pow.{pow_pos}
use lib.Dec.{ltb, eqb}
use borrow.Author.Tests.{lt-ltb, le-ltb, eqb-true, eq-eqb}
use Rattle.table.specs.declared.Task.{Task}
use Rattle.table.specs.declared.Table.{Table}
use Rattle.graph.specs.Words.{all}
use Rattle.graph.specs.Graph.{edge}
use Rattle.graph.proofs.Facts.{both_true, and_true, all_at, all_of}
use Rattle.table.specs.Memory.{no_succ, zero_task, task, vertices, D, T, succ, edge_in, cost}
use Rattle.table.specs.Writing.{zero_vertex, zero_entry, unused_zero}
use Rattle.table.specs.Good.{GoodTable, Typed}
use Rattle.table.proofs.Bits.{bit_zero, zeros_at}
use Rattle.table.proofs.Successors.{by_digits, digit_by}

zero_vertex_lem : (t : Table) (i u : ℕ) → zero_vertex t i u ≡ true → (cost t i u ≡ 0) × (get_or (succ t i) u 0 ≡ 0)
unfolding zero_vertex
zero_vertex_lem t i u h =
    let b = both_true (eqb (cost t i u) 0) (eqb (get_or (succ t i) u 0) 0) h in
    (eqb-true (cost t i u) 0 b.0, eqb-true (get_or (succ t i) u 0) 0 b.1)

vertex_zero : (t : Table) (i u : ℕ) → cost t i u ≡ 0 → get_or (succ t i) u 0 ≡ 0 → zero_vertex t i u ≡ true
unfolding zero_vertex
vertex_zero t i u c s = and_true (eqb (cost t i u) 0) (eqb (get_or (succ t i) u 0) 0) (eq-eqb (cost t i u) 0 c) (eq-eqb (get_or (succ t i) u 0) 0 s)

-- ---- a table that passes it
module _ (t : Table) (zeros : unused_zero t ≡ true) where
  -- the vertices from v on of a used task
  pub spare_vertex : (i : ℕ) → i < 16 → i < t.n → (u : ℕ) → vertices t i ≤ u → u < 16 → (cost t i u ≡ 0) × (get_or (succ t i) u 0 ≡ 0)
  unfolding unused_zero
  spare_vertex i h b u l k =
      let a = rw (lt-ltb i t.n b) at (all_at 16 _ zeros i h) in
      zero_vertex_lem t i u (rw (le-ltb u (vertices t i) l) at (all_at 16 _ a u k))

  spare_entry : (i : ℕ) → i < 16 → t.n ≤ i → zero_entry t i && all 16 (zero_vertex t i) ≡ true
  unfolding unused_zero
  spare_entry i h l = rw (le-ltb i t.n l) at (all_at 16 _ zeros i h)

  -- the tasks from n on
  pub spare_cost : (i : ℕ) → i < 16 → t.n ≤ i → (u : ℕ) → u < 16 → (cost t i u ≡ 0) × (get_or (succ t i) u 0 ≡ 0)
  spare_cost i h l u k = zero_vertex_lem t i u (all_at 16 (zero_vertex t i) (both_true (zero_entry t i) (all 16 (zero_vertex t i)) (spare_entry i h l)).1 u k)

  pub spare_task : (i : ℕ) → i < 16 → t.n ≤ i → length (succ t i) ≡ 16 → task t i ≡ zero_task
  unfolding zero_entry vertices D T succ zero_task no_succ
  spare_task i h l n =
      let e = (both_true (zero_entry t i) (all 16 (zero_vertex t i)) (spare_entry i h l)).0 in
      let p = both_true (eqb (vertices t i) 0 && eqb (D t i) 0) (eqb (T t i) 0) e in
      let q = both_true (eqb (vertices t i) 0) (eqb (D t i) 0) p.0 in
      let v : (task t i).v ≡ 0 = eqb-true (vertices t i) 0 q.0 in
      let d : (task t i).d ≡ 0 = eqb-true (D t i) 0 q.1 in
      let p' : (task t i).t ≡ 0 = eqb-true (T t i) 0 p.1 in
      let s : (task t i).succ ≡ replicate 16 0 = ext_get_or 0 (task t i).succ (replicate 16 0) n (λ u k. (spare_cost i h l u (omega arith)).1 ∙ sym (zeros_at 16 u)) in
      whole (task t i) 0 0 0 (replicate 16 0) v d p' s
    where
      whole : (a : Task) (v d p : ℕ) (s : List ℕ) → a.v ≡ v → a.d ≡ d → a.t ≡ p → a.succ ≡ s → a ≡ record { v = v; d = d; t = p; succ = s }
      whole a v d p s e₁ e₂ e₃ e₄ =
          ap (λ (z : ℕ). record { v = z; d = a.d; t = a.t; succ = a.succ }) e₁ ∙ ap (λ (z : ℕ). record { v = v; d = z; t = a.t; succ = a.succ }) e₂
          ∙ ap (λ (z : ℕ). record { v = v; d = d; t = z; succ = a.succ }) e₃ ∙ ap (λ (z : List ℕ). record { v = v; d = d; t = p; succ = z }) e₄

-- ---- a good table passes it
none_of : (t : Table) (i : ℕ) → task t i ≡ zero_task → zero_entry t i ≡ true
unfolding zero_entry vertices D T zero_task
none_of t i e = ap (λ (a : Task). eqb a.v 0 && eqb a.d 0 && eqb a.t 0) e

none_from : (t : Table) (i u : ℕ) → task t i ≡ zero_task → get_or (succ t i) u 0 ≡ 0
unfolding succ zero_task no_succ
none_from t i u e = ap (λ (a : Task). get_or a.succ u 0) e ∙ zeros_at 16 u

module _ (t : Table) (good : GoodTable t) (typed : Typed t) where
  -- a vertex from v on has no successors
  no_succ_lem : (i : ℕ) → i < t.n → (u : ℕ) → vertices t i ≤ u → get_or (succ t i) u 0 ≡ 0
  unfolding edge_in edge
  no_succ_lem i b u l = by_digits 16 (get_or (succ t i) u 0) 0 (typed.small i u) (pow_pos 16) (λ j k. digit_by (get_or (succ t i) u 0) 0 j
      (λ e. let o = ((good.each i b).ends u j e).0 in absurd (omega arith)) (λ e. absurd (bit_zero j e)))

  pub good_unused : unused_zero t ≡ true
  unfolding unused_zero
  good_unused = all_of 16 _ (λ i h. elim (dec_lt i t.n) [
    | yes b ↦ rw (lt-ltb i t.n b) (all_of 16 _ (λ u k. used i b u k (dec_lt u (vertices t i))))
    | no b ↦ rw (le-ltb i t.n (omega arith)) (spare i (omega arith) h)
  ])
    where
      used : (i : ℕ) → i < t.n → (u : ℕ) → u < 16 → Dec (u < vertices t i) → ltb u (vertices t i) || zero_vertex t i u ≡ true
      used i b u k (yes l) = rw (lt-ltb u (vertices t i) l) refl
      used i b u k (no l) = rw (le-ltb u (vertices t i) (omega arith)) (vertex_zero t i u ((good.each i b).unused u (omega arith) k) (no_succ_lem i b u (omega arith)))

      spare : (i : ℕ) → t.n ≤ i → i < 16 → zero_entry t i && all 16 (zero_vertex t i) ≡ true
      spare i l h = and_true (zero_entry t i) (all 16 (zero_vertex t i)) (none_of t i (good.no_task_past i l h))
          (all_of 16 (zero_vertex t i) (λ u k. vertex_zero t i u (good.no_cost i u l h k) (none_from t i u (good.no_task_past i l h))))
