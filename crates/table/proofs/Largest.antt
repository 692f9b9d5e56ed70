-- "The largest file is 5,060 bytes": no longer one is read, and one of that length is.
use mathlib.Core.Path.{◌≡◌, refl, sym, ap, subst, ◌∙◌}
use mathlib.Core.Bool.{Bool, true, false, ◌||◌, not}
use mathlib.Core.List.{List}
use Prim.Native.Nat.{ℕ, zero, suc, ◌+◌, ◌*◌, ◌-◌, ◌/◌, ◌%◌, ◌^◌, ◌≤◌, ◌<◌}
use native.Mathlib.Omega.{arith}
use native.Mathlib.Decide.{dec_lt}
use lib.ListN.{length, get_or, length-append, replicate, get_or-replicate}
use lib.Pow.{pow_pos}
use lib.Dec.{ltb}
use borrow.Author.Tests.{ltb-true}
use Rattle.table.specs.declared.Task.{Task}
use Rattle.table.specs.declared.Table.{Table}
use Rattle.table.specs.declared.Outcome.TheVariants.{Read}
use Rattle.graph.specs.Words.{all, bit, row_from, row, also_if, those, those_below, any_of, is_none, join_from, in_order}
use Rattle.graph.specs.Graph.{edge, led_to, sweep, sweeps, acyclic_among, acyclic}
use Rattle.graph.proofs.Facts.{clash, all_at, past_end}
use Rattle.table.specs.Memory.{no_task, task, vertices, D, T, succ, edge_in, cost}
use Rattle.table.specs.Reading.{read}
use Rattle.table.specs.Writing.{edge_keys, encode_task, encode}
use Rattle.table.specs.Good.{GoodTask, GoodTable, Typed}
use Rattle.table.proofs.Successors.{Rows, edge_under}
use Rattle.table.proofs.Went.{file_went}
use Rattle.table.proofs.FieldBytes.{Bytes}
use Rattle.table.proofs.Edges.{AllEnds}
use Rattle.table.proofs.Sound.{good_typed}
use Rattle.table.proofs.Places.{task_length}
use Rattle.table.proofs.Forth.{read_forth}
use Rattle.table.proofs.ByteLists.{encode_bytes}
use Rattle.table.proofs.Prefix.{table_next}

-- NO FILE OF MORE THAN 5,060 BYTES IS READ
pub largest_file : (s : List ℕ) → (read s).outcome ≡ Read → length s ≤ 5060
largest_file s h =
    let f = file_went s h in
    let n = table_next s 0 f.table_read in
    let e = f.at_end in
    omega arith

-- ---- a table of that length: sixteen tasks of sixteen vertices, each of which leads to all that follow it
unfoldable pub full_succ : List ℕ
full_succ = row 16 (λ u. 2 ^ 16 - 2 ^ (u + 1))

unfoldable pub full_task : Task
full_task = record { v = 16; d = 1; t = 1; succ = full_succ }

unfoldable pub full_table : Table
full_table = record { m = 8; n = 16; tasks = replicate 16 full_task; costs = replicate 256 1 }

full_at : (i : ℕ) → i < 16 → task full_table i ≡ full_task
unfolding task full_table
full_at i h = get_or-replicate 16 i full_task no_task h

full_cost : (i u : ℕ) → i < 16 → u < 16 → cost full_table i u ≡ 1
unfolding cost full_table
full_cost i u h k = get_or-replicate 256 (16 * i + u) 1 0 (omega arith)

full_rows : Rows full_succ
unfolding full_succ row row_from all
full_rows = record {
  many = refl;
  small = λ u. elim (dec_lt u 16) [
    | yes h ↦ ltb-true (get_or full_succ u 0) 65536 (all_at 16 (λ u. ltb (get_or full_succ u 0) 65536) refl u h)
    | no h ↦ rw (past_end full_succ u 0 (omega arith)) (pow_pos 16)
  ];
}

-- an edge leads to a later vertex
full_ends : AllEnds 16 full_succ
unfolding full_succ row row_from all edge bit
full_ends u w e =
    let b = edge_under full_succ full_rows u w e in
    let o = all_at 16 (λ w. not (edge full_succ u w) || ltb u w) (all_at 16 (λ u. all 16 (λ w. not (edge full_succ u w) || ltb u w)) refl u b.0) w b.1 in
    let l = ltb-true u w (later (edge full_succ u w) (ltb u w) e o) in
    (b.0, b.1, λ q. absurd (omega arith))
  where
    later : (x y : Bool) → x ≡ true → not x || y ≡ true → y ≡ true
    later true y e o = o
    later false y e o = absurd (clash e refl)

full_count : length (those_below 256 (λ k. edge full_succ (k / 16) (k % 16))) ≡ 120
unfolding those_below those also_if row row_from edge bit full_succ
full_count = refl

full_keys : (i : ℕ) → i < 16 → length (edge_keys full_table i) ≡ 120
unfolding edge_keys vertices edge_in succ full_task
full_keys i h = ap (λ (a : Task). length (those_below (16 * a.v) (λ k. edge a.succ (k / 16) (k % 16)))) (full_at i h) ∙ full_count

no_way_back : acyclic full_succ ≡ true
unfolding acyclic acyclic_among sweeps sweep led_to any_of is_none those also_if edge bit full_succ row row_from
no_way_back = refl

full_task_lem : (i : ℕ) → i < 16 → GoodTask full_table i
unfolding vertices D T succ edge_in full_task
full_task_lem i h =
    let v : vertices full_table i ≡ 16 = ap (λ (a : Task). a.v) (full_at i h) in
    let d : D full_table i ≡ 1 = ap (λ (a : Task). a.d) (full_at i h) in
    let p : T full_table i ≡ 1 = ap (λ (a : Task). a.t) (full_at i h) in
    let g : succ full_table i ≡ full_succ = ap (λ (a : Task). a.succ) (full_at i h) in
    let k = full_keys i h in
    record {
      v_low = omega arith;
      v_high = omega arith;
      e_high = omega arith;
      D_low = omega arith;
      D_high = omega arith;
      T_low = omega arith;
      T_high = omega arith;
      D_T = omega arith;
      cost_high = λ u l. let c = full_cost i u h (omega arith) in omega arith;
      ends = λ u w e.
          let o = full_ends u w (subst (λ (l : List ℕ). edge l u w ≡ true) g e) in
          let o₀ = o.0 in
          let o₁ = o.1 in
          (omega arith, omega arith, o.2);
      no_cycle = ap acyclic g ∙ no_way_back;
      unused = λ u l b. absurd (omega arith);
    }

full_good : GoodTable full_table
unfolding full_table
full_good = record {
  m_low = omega arith;
  m_high = omega arith;
  n_low = omega arith;
  n_high = omega arith;
  each = full_task_lem;
  no_task_past = λ i l b. absurd (omega arith);
  no_cost = λ i u l b c. absurd (omega arith);
}

full_typed : Typed full_table
unfolding full_table succ full_task
full_typed = good_typed full_table full_good refl refl (λ i h. subst (λ (a : Task). Rows a.succ) (sym (full_at i h)) full_rows)

tasks_long : (k i : ℕ) → i + k ≤ 16 → length (join_from k i (encode_task full_table)) ≡ 316 * k
unfolding join_from vertices full_task
tasks_long zero i h = refl
tasks_long (suc k) i h =
    let v : vertices full_table i ≡ 16 = ap (λ (a : Task). a.v) (full_at i (omega arith)) in
    let e = full_keys i (omega arith) in
    let n = task_length full_table i 0 in
    let m = tasks_long k (suc i) (omega arith) in
    let a = length-append (encode_task full_table i) (join_from k (suc i) (encode_task full_table)) in
    omega arith

-- A FILE OF 5,060 BYTES IS READ
pub full_file : (length (encode full_table) ≡ 5060) × Bytes (encode full_table) × (read (encode full_table) ≡ record { outcome = Read; table = full_table })
unfolding encode in_order full_table
full_file = let n = tasks_long 16 0 (omega arith) in (omega arith, encode_bytes full_table full_good, read_forth full_table full_good full_typed)
