-- If the bytes that a table in memory stands for are read, and its unused entries are zero, the table is good.
use mathlib.Core.Path.{◌≡◌, refl, sym, ap, subst, ◌∙◌}
use mathlib.Core.Bool.{true, ◌&&◌}
use mathlib.Core.List.{List, [], ◌∷◌, ◌++◌, append_assoc, append-nil}
use Prim.Native.Nat.{ℕ, zero, suc, ◌+◌, ◌*◌, ◌/◌, ◌%◌, ◌^◌, ◌≤◌, ◌<◌}
use native.Mathlib.Omega.{arith}
use native.Mathlib.Numerals.{add-one}
use native.Mathlib.Decide.{ℕ_discrete}
use lib.ListN.{length, set, drop}
use lib.Dec.{leb}
use Rattle.table.specs.declared.Table.{Table}
use Rattle.table.specs.declared.Outcome.{Outcome}
use Rattle.table.specs.declared.Outcome.TheVariants.{Read, Ticks}
use Rattle.std.specs.Prelude.{Ok}
use Rattle.table.specs.declared.TableRead.{TableRead}
use Rattle.graph.specs.Words.{is_in, join_from, in_order}
use Rattle.graph.specs.Graph.{acyclic}
use Rattle.table.specs.Memory.{no_succ, no_costs, vertices, D, T, succ, edge_in, cost}
use Rattle.table.specs.Reading.{TaskRead, CostsRead, ranged, byte_at, value4, ticks_at, costs_at, edges_at, task_at, bad_table, with_task, tasks_at, table_at, read}
use Rattle.table.specs.Writing.{bytes4, edge_keys, edge_bytes, encode_task, encode, unused_zero}
use Rattle.table.specs.Good.{GoodTask, GoodTable, Typed}
use Rattle.table.proofs.Successors.{add_all, Rows}
use Rattle.table.proofs.FieldViews.{Between, ticks_view, Ends, on_field, went}
use Rattle.table.proofs.Went.{out_table, task_went, none_yet, table_went, file_went}
use Rattle.table.proofs.FieldBytes.{field_got, pick_got, byte_bytes, period_is}
use Rattle.table.proofs.Edges.{AllEnds, edges_are}
use Rattle.table.proofs.EdgeKeys.{same_succ, ends_by_keys}
use Rattle.table.proofs.FieldForth.{four_value, next_four}
use Rattle.table.proofs.Places.{at_v, at_e, at_D, at_T, at_costs, at_edges, task_after}
use Rattle.table.proofs.Unused.{spare_vertex, spare_cost, spare_task}

-- ---- a field that was read where a value stands has that value
byte_was : (lo hi : ℕ) (s : List ℕ) (at x y : ℕ) (r : List ℕ) → byte_at lo hi s at ≡ Ok x → drop at s ≡ y ∷ r → x ≡ y
byte_was lo hi s at x y r g e = let z : x ∷ drop (at + 1) s ≡ y ∷ r = sym (byte_bytes lo hi s at x g) ∙ e in cc

ticks_was : (lo : ℕ) (s : List ℕ) (at x y : ℕ) (r : List ℕ) → ticks_at lo s at ≡ Ok x → y < 2 ^ 32 → drop at s ≡ bytes4 y ++ r → x ≡ y
unfolding ticks_at ranged
ticks_was lo s at x y r g h e =
    let f = field_got 4 s at _ x g in
    sym (pick_got (leb lo (value4 s at) && leb (value4 s at) 1000000) (value4 s at) (Ticks at) x f.1).1 ∙ four_value s at y r (omega arith) e

costs_were : (s : List ℕ) (k at j : ℕ) (f : ℕ → ℕ) (costs r : List ℕ) → ((u : ℕ) → f u < 2 ^ 32) → drop at s ≡ join_from k j (λ u. bytes4 (f u)) ++ r
    → (costs_at s k at j costs).outcome ≡ Read → (u : ℕ) → j ≤ u → u < j + k → Between 0 1000000 (f u)
unfolding costs_at join_from
costs_were s zero at j f costs r small e h u a b = absurd (omega arith)
costs_were s (suc k) at j f costs r small e h u a b =
    let out : CostsRead → Outcome = λ (x : CostsRead). x.outcome in
    let g = on_field out (λ o. record { outcome = o; costs = costs }) (λ o. refl)
    (ticks_at 0 s at) (ticks_view 0 s at) (λ x. costs_at s k (at + 4) (j + 1) (set costs j x)) (costs_at s (suc k) at j costs) h refl in
    let rest : List ℕ = join_from k (suc j) (λ u. bytes4 (f u)) ++ r in
    let e₂ : drop at s ≡ bytes4 (f j) ++ rest = e ∙ append_assoc (bytes4 (f j)) (join_from k (suc j) (λ u. bytes4 (f u))) r in
    let q : g.0 ≡ f j = ticks_was 0 s at g.0 (f j) rest g.1 (small j) e₂ in
    let o : (costs_at s k (at + 4) (suc j) (set costs j g.0)).outcome ≡ Read =
    ap (λ (n : ℕ). (costs_at s k (at + 4) n (set costs j g.0)).outcome) (sym (add-one j)) ∙ ap out (sym g.3) ∙ h in
    elim (ℕ_discrete u j) [
      | yes z ↦ subst (λ (x : ℕ). Between 0 1000000 x) (q ∙ ap f (sym z)) g.2
      | no z ↦ costs_were s k (at + 4) (suc j) f (set costs j g.0) r small (next_four s at (f j) rest e₂) o u (omega arith) (omega arith)
    ]

same_keys : (ks ls a b : List ℕ) → length ks ≡ length ls → edge_bytes ks ++ a ≡ edge_bytes ls ++ b → ks ≡ ls
unfolding edge_bytes
same_keys [] [] a b n e = refl
same_keys [] (l ∷ ls) a b n e = absurd (omega arith)
same_keys (k ∷ ks) [] a b n e = absurd (omega arith)
same_keys (k ∷ ks) (l ∷ ls) a b n e =
    let p : k / 16 ≡ l / 16 = cc in
    let q : k % 16 ≡ l % 16 = cc in
    let h : edge_bytes ks ++ a ≡ edge_bytes ls ++ b = cc in
    let x : k ≡ l = omega arith in
    let i = same_keys ks ls a b (omega arith) h in
    cc

module _ (t : Table) (typed : Typed t) (zeros : unused_zero t ≡ true) where
  -- ---- a task
  task_stands : (s : List ℕ) (at i : ℕ) → i < 16 → i < t.n → (r : List ℕ) → drop at s ≡ encode_task t i ++ r → (a : TaskRead) → a.outcome ≡ Read → a ≡ task_at s at
      → GoodTask t i × (a.next ≡ at + 12 + 4 * vertices t i + 2 * length (edge_keys t i))
  unfolding edge_in cost
  task_stands s at i h b r e a o q =
      let w = task_went s at a o q in
      let ks : List ℕ = edge_keys t i in
      let v-same : w.v ≡ vertices t i = byte_was 1 16 s (at + 2) w.v (vertices t i) _ w.v_is (at_v t s at i r e) in
      let e-same : w.e ≡ length ks = byte_was 0 120 s (at + 3) w.e (length ks) _ w.e_is (at_e t s at i r e) in
      let d-same : w.d ≡ D t i = ticks_was 1 s (at + 4) w.d (D t i) _ w.d_is (typed.D_word i) (at_D t s at i r e) in
      let t_same : w.t ≡ T t i = ticks_was 1 s (at + 8) w.t (T t i) _ (period_is w.d s (at + 8) w.t w.t_is) (typed.T_word i) (at_T t s at i r e) in
      let v₀ = w.v_range.0 in
      let v₁ = w.v_range.1 in
      let e₁ = w.e_range.1 in
      let d₀ = w.d_range.0 in
      let d₁ = w.d_range.1 in
      let t₀ = w.t_range.0 in
      let t₁ = w.t_range.1 in
      let dt = w.t_range.2 in
      let nx = w.next_is in
      let at_c = at_costs t s at i r e ∙ ap (λ (n : ℕ). join_from n 0 (λ u. bytes4 (cost t i u)) ++ (edge_bytes ks ++ r)) (sym v-same) in
      let range = costs_were s w.v (at + 12) 0 (cost t i) no_costs (edge_bytes ks ++ r) (λ u. typed.cost_word (16 * i + u)) at_c w.costs_read in
      let ea = edges_are w.v v₁ s w.e (at + 12 + 4 * w.v) 0 no_succ (edges_at w.v s w.e (at + 12 + 4 * w.v) 0 no_succ) w.edges_read refl in
      let at_g = ap (λ (n : ℕ). drop (at + 12 + 4 * n) s) v-same ∙ at_edges t s at i r e in
      let ks-same : ea.ks ≡ ks = same_keys ea.ks ks _ r (ea.many ∙ e-same) (sym ea.bytes ∙ at_g) in
      let key-ends : (k : ℕ) → is_in k ks ≡ true → Ends (vertices t i) k =
      λ k z. subst (λ (n : ℕ). Ends n k) v-same (ea.ends k (ap (is_in k) ks-same ∙ z)) in
      let rows : Rows (succ t i) = record { many = typed.rows i h; small = typed.small i } in
      let ends : AllEnds (vertices t i) (succ t i) = ends_by_keys t i rows key-ends (λ u l k. (spare_vertex t zeros i h b u l k).1) in
      let all-succ : (edges_at w.v s w.e (at + 12 + 4 * w.v) 0 no_succ).succ ≡ succ t i =
      ea.new_is ∙ ap (add_all no_succ) ks-same ∙ same_succ t i (omega arith) rows ends in (
        record {
          v_low = omega arith;
          v_high = omega arith;
          e_high = omega arith;
          D_low = omega arith;
          D_high = omega arith;
          T_low = omega arith;
          T_high = omega arith;
          D_T = omega arith;
          cost_high = λ u l. (range u (omega arith) (omega arith)).1;
          ends = ends;
          no_cycle = ap acyclic (sym all-succ) ∙ w.no_cycle;
          unused = λ u l k. (spare_vertex t zeros i h b u l k).0;
        },
        omega arith,
      )

  -- ---- the tasks
  tasks_stand : (s : List ℕ) (k i at : ℕ) (table : Table) (r : List ℕ) → i + k ≤ 16 → i + k ≤ t.n → drop at s ≡ join_from k i (encode_task t) ++ r
      → (tasks_at s k i at table).outcome ≡ Read → (j : ℕ) → i ≤ j → j < i + k → GoodTask t j
  unfolding tasks_at join_from
  tasks_stand s zero i at table r l n e o j a b = absurd (omega arith)
  tasks_stand s (suc k) i at table r l n e o j a b =
      let out : TableRead → Outcome = λ (x : TableRead). x.outcome in
      let one : TaskRead = task_at s at in
      let w = went out bad_table out_table one.outcome _ (tasks_at s (suc k) i at table) o refl in
      let rest : List ℕ = join_from k (suc i) (encode_task t) ++ r in
      let e₂ : drop at s ≡ encode_task t i ++ rest = e ∙ append_assoc (encode_task t i) (join_from k (suc i) (encode_task t)) r in
      let p = task_stands s at i (omega arith) (omega arith) rest e₂ one w.0 refl in
      let e₃ : drop one.next s ≡ join_from k (i + 1) (encode_task t) ++ r =
      ap (λ (x : ℕ). drop x s) p.1 ∙ task_after t s at i rest e₂ ∙ ap (λ (x : ℕ). join_from k x (encode_task t) ++ r) (sym (add-one i)) in
      elim (ℕ_discrete j i) [
        | yes q ↦ rw q p.0
        | no q ↦ tasks_stand s k (i + 1) one.next (with_task table i one) r (omega arith) (omega arith) e₃ (ap out (sym w.1) ∙ o) j (omega arith) (omega arith)
      ]

  -- ---- the file
  pub stands_good : (read (encode t)).outcome ≡ Read → GoodTable t
  unfolding encode in_order
  stands_good h =
      let E : List ℕ = join_from t.n 0 (encode_task t) in
      let s : List ℕ = 0x54 ∷ 0x42 ∷ t.m ∷ t.n ∷ E in
      let f = file_went s h in
      let w = table_went s 0 (table_at s 0) f.table_read refl in
      let m_same : w.m ≡ t.m = byte_was 1 8 s 2 w.m t.m (t.n ∷ E) w.m_is refl in
      let n_same : w.n ≡ t.n = byte_was 1 16 s 3 w.n t.n E w.n_is refl in
      let m₀ = w.m_range.0 in
      let m₁ = w.m_range.1 in
      let n₀ = w.n_range.0 in
      let n₁ = w.n_range.1 in
      let o : (tasks_at s t.n 0 4 (none_yet w.m w.n)).outcome ≡ Read =
      ap (λ (n : ℕ). (tasks_at s n 0 4 (none_yet w.m w.n)).outcome) (sym n_same) ∙ ap (λ (x : TableRead). x.outcome) (sym w.tasks_are) ∙ f.table_read in
      record {
        m_low = omega arith;
        m_high = omega arith;
        n_low = omega arith;
        n_high = omega arith;
        each = λ i b. tasks_stand s t.n 0 4 (none_yet w.m w.n) [] (omega arith) (omega arith) (sym (append-nil E)) o i (omega arith) (omega arith);
        no_task_past = λ i l b. spare_task t zeros i b l (typed.rows i b);
        no_cost = λ i u l b c. (spare_cost t zeros i b l u c).0;
      }
