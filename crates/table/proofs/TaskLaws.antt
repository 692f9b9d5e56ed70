-- What a task record, the task records and the table give, by what their parts gave.
use mathlib.Core.Path.{◌≡◌, refl, sym, ap, ◌∙◌}
use mathlib.Core.Bool.{Bool, true, false}
use mathlib.Core.List.{List}
use Prim.Native.Nat.{ℕ, suc, ◌+◌, ◌*◌, ◌≤◌, ◌<◌}
use native.Mathlib.Omega.{arith}
use borrow.Author.Tests.{eq-eqb, ne_eqb}
use lib.ListN.{length, set}
use Rattle.table.specs.declared.Task.{Task}
use Rattle.table.specs.declared.Table.{Table}
use Rattle.table.specs.declared.Loaded.{Loaded}
use Rattle.table.specs.declared.Outcome.{Outcome}
use Rattle.table.specs.declared.Outcome.TheVariants.{Read, Cycle, Extra}
use Rattle.std.specs.Prelude.{⊤, Result, Ok, Err}
use Rattle.table.specs.declared.reading.TaskFound.{TaskFound}
use Rattle.table.specs.declared.reading.Head.{Head}
use Rattle.table.specs.declared.TableRead.{TableRead}
use Rattle.graph.specs.Graph.{acyclic}
use Rattle.table.specs.Memory.{no_costs, no_succ, no_tasks, no_row}
use Rattle.table.specs.Numbers.{number}
use Rattle.table.specs.Reading.{TaskRead, EdgesRead, CostsRead, onward, mark_at, byte_at, ticks_at, period_at, costs_at, edges_at, bad_task, parts_at, task_at, put_costs, bad_table, with_task, tasks_at, table_at, refused, ending, read}
use Rattle.table.specs.Parts.{told, marked, found, InRow, ZeroFrom, head_at}
use Rattle.table.proofs.FieldLaws.{past, on_mark, mark_stops, byte_read}
use Rattle.table.proofs.FieldViews.{Bad, bad_by, View, value, halt, halted, mark_view, byte_view, ticks_view, period_view}
use Rattle.table.proofs.PartLaws.{not_read, answer_err, answer_ok}
use Rattle.table.proofs.RowLaws.{costs_in_row}

-- ---- the costs, the edges and the cycle test
module _ (s : List ℕ) (at v e d t : ℕ) (c : CostsRead) (hc : c ≡ costs_at s v (at + 12) 0 no_costs) where
  pub parts_costs : (r : TaskRead) → (c.outcome ≡ Read → ⊥) → r ≡ bad_task c.outcome → r ≡ parts_at s at v e d t
  unfolding parts_at
  parts_costs r n h = h ∙ rw (← hc) (not_read c.outcome bad_task _ n)

  module _ (qc : c.outcome ≡ Read) (g : EdgesRead) (hg : g ≡ edges_at v s e (at + 12 + 4 * v) 0 no_succ) where
    pub parts_edges : (r : TaskRead) → (g.outcome ≡ Read → ⊥) → r ≡ bad_task g.outcome → r ≡ parts_at s at v e d t
    unfolding parts_at
    parts_edges r n h = h ∙ rw (← hc, qc, ← hg) (not_read g.outcome bad_task _ n)

    module _ (qg : g.outcome ≡ Read) (b : Bool) (hb : b ≡ acyclic g.succ) where
      pub parts_cycle : (r : TaskRead) → b ≡ false → r ≡ bad_task (Cycle at) → r ≡ parts_at s at v e d t
      unfolding parts_at
      parts_cycle r f h = h ∙ rw (← hc, qc, ← hg, qg, ← hb, f)

      pub parts_got : (next : ℕ) → b ≡ true → next ≡ at + 12 + 4 * v + 2 * e
          → record { outcome = Read; next = next; task = record { v = v; d = d; t = t; succ = g.succ }; costs = c.costs } ≡ parts_at s at v e d t
      unfolding parts_at
      parts_got next f h = rw (h, ← hc, qc, ← hg, qg, ← hb, f)

-- the same with the costs read into the row
module _ (s : List ℕ) (at v e d t i : ℕ) (row : List ℕ) (hi : i < 16) (hv : v ≤ 16) (long : length row ≡ 256) (zero : ZeroFrom (16 * i) row) where
  there : CostsRead
  there = costs_at s v (at + 12) (16 * i) row

  own : CostsRead
  own = costs_at s v (at + 12) 0 no_costs

  same : there.outcome ≡ own.outcome
  unfolding there own
  same = ap (λ (c : CostsRead). c.outcome) (costs_in_row s v (at + 12) i row hi hv long zero)

  pub row_costs : (o : Outcome) → Err o ≡ told (costs_at s v (at + 12) (16 * i) row).outcome → (bad_task o ≡ parts_at s at v e d t) × (o ≡ Read → ⊥)
  unfolding told there own
  row_costs o h =
      let p = answer_err there.outcome tt o h in
      (ap bad_task (sym p.0 ∙ same) ∙ parts_costs s at v e d t own refl (bad_task own.outcome) (λ z. p.1 (sym p.0 ∙ same ∙ z)) refl, p.1)

  module _ (x : ⊤) (qc : Ok x ≡ told (costs_at s v (at + 12) (16 * i) row).outcome) where
    edges : EdgesRead
    edges = edges_at v s e (at + 12 + 4 * v) 0 no_succ

    went : own.outcome ≡ Read
    unfolding told there
    went = sym same ∙ (answer_ok there.outcome tt x qc).0

    pub row_edges : (o : Outcome) → Err o ≡ told (edges_at v s e (at + 12 + 4 * v) 0 no_succ).outcome → (bad_task o ≡ parts_at s at v e d t) × (o ≡ Read → ⊥)
    unfolding told own edges
    row_edges o h =
        let p = answer_err edges.outcome tt o h in
        (ap bad_task (sym p.0) ∙ parts_edges s at v e d t own refl went edges refl (bad_task edges.outcome) (λ z. p.1 (sym p.0 ∙ z)) refl, p.1)

    module _ (y : ⊤) (qe : Ok y ≡ told (edges_at v s e (at + 12 + 4 * v) 0 no_succ).outcome) (succ : List ℕ)
        (hs : succ ≡ (edges_at v s e (at + 12 + 4 * v) 0 no_succ).succ) (b : Bool) (hb : b ≡ acyclic succ) where
      all : edges.outcome ≡ Read
      unfolding told edges
      all = (answer_ok edges.outcome tt y qe).0

      pub row_cycle : b ≡ false → bad_task (Cycle at) ≡ parts_at s at v e d t
      unfolding own edges
      row_cycle f = parts_cycle s at v e d t own refl went edges refl all b (hb ∙ ap acyclic hs) (bad_task (Cycle at)) f refl

      pub row_got : b ≡ true → (next : ℕ) → next ≡ at + 12 + 4 * v + 2 * e → (after : List ℕ) → after ≡ (costs_at s v (at + 12) (16 * i) row).costs
          → (Ok (record { next = next; task = record { v = v; d = d; t = t; succ = succ } }) ≡ found (parts_at s at v e d t))
          × InRow (parts_at s at v e d t) i row after
      unfolding own there edges found
      row_got f next h after ha =
          let g = parts_got s at v e d t own refl went edges refl all b (hb ∙ ap acyclic hs) next f h in (
            ap (λ (x : List ℕ). Ok (record { next = next; task = record { v = v; d = d; t = t; succ = x } })) hs ∙ ap found g,
            λ z. ha ∙ ap (λ (c : CostsRead). c.costs) (costs_in_row s v (at + 12) i row hi hv long zero) ∙ ap (λ (x : TaskRead). put_costs row i x.costs) g,
          )

-- ---- a task record, field by field
module _ (s : List ℕ) (at : ℕ) where
  pub task_mark : (o : Outcome) → Err o ≡ marked 0x4B s at → (bad_task o ≡ task_at s at) × (o ≡ Read → ⊥)
  unfolding task_at
  task_mark o h = let q = mark_stops 0x4B s at o h in (rw q refl, halted _ (mark_view 0x4B s at) o (sym q))

  module _ (x : ⊤) (ha : Ok x ≡ marked 0x4B s at) where
    pub task_v : (o : Outcome) → Err o ≡ byte_at 1 16 s (at + 2) → (bad_task o ≡ task_at s at) × (o ≡ Read → ⊥)
    unfolding task_at
    task_v o h = (sym (on_mark 0x4B s at bad_task _ x ha ∙ rw (← h) refl), halted _ (byte_view 1 16 s (at + 2)) o h)

    module _ (v : ℕ) (hb : Ok v ≡ byte_at 1 16 s (at + 2)) where
      pub task_e : (o : Outcome) → Err o ≡ byte_at 0 120 s (at + 3) → (bad_task o ≡ task_at s at) × (o ≡ Read → ⊥)
      unfolding task_at
      task_e o h = (sym (on_mark 0x4B s at bad_task _ x ha ∙ rw (← hb, ← h) refl), halted _ (byte_view 0 120 s (at + 3)) o h)

      module _ (e : ℕ) (hc : Ok e ≡ byte_at 0 120 s (at + 3)) where
        pub task_d : (o : Outcome) → Err o ≡ ticks_at 1 s (at + 4) → (bad_task o ≡ task_at s at) × (o ≡ Read → ⊥)
        unfolding task_at
        task_d o h = (sym (on_mark 0x4B s at bad_task _ x ha ∙ rw (← hb, ← hc, ← h) refl), halted _ (ticks_view 1 s (at + 4)) o h)

        module _ (d : ℕ) (hd : Ok d ≡ ticks_at 1 s (at + 4)) where
          pub task_t : (o : Outcome) → Err o ≡ period_at d s (at + 8) → (bad_task o ≡ task_at s at) × (o ≡ Read → ⊥)
          unfolding task_at
          task_t o h = (sym (on_mark 0x4B s at bad_task _ x ha ∙ rw (← hb, ← hc, ← hd, ← h) refl), halted _ (period_view d s (at + 8)) o h)

          pub task_parts : (t : ℕ) → Ok t ≡ period_at d s (at + 8) → parts_at s at v e d t ≡ task_at s at
          unfolding task_at
          task_parts t h = sym (on_mark 0x4B s at bad_task _ x ha ∙ rw (← hb, ← hc, ← hd, ← h) refl)

pub task_row : (x y : TaskRead) (r : Result TaskFound Outcome) (i : ℕ) (row after : List ℕ) → x ≡ y → (r ≡ found x) × InRow x i row after → (r ≡ found y) × InRow y i row after
task_row x y r i row after e h = rw (← e) h

pub cycle_refused : (at : ℕ) → Cycle at ≡ Read → ⊥
unfolding Bad number
cycle_refused at = bad_by (Cycle at) 6 refl

-- a refused task, whatever its costs left in the row
pub task_refused : (o : Outcome) (x : TaskRead) → (bad_task o ≡ x) × (o ≡ Read → ⊥) → (r : Result TaskFound Outcome) → r ≡ Err o
    → (i : ℕ) (row after : List ℕ) → (r ≡ found x) × InRow x i row after
unfolding found bad_task
task_refused o x h r q i row after =
    (q ∙ not_read o Err _ h.1 ∙ ap found h.0, λ e. absurd (h.1 (ap (λ (z : TaskRead). z.outcome) h.0 ∙ e)))

-- ---- the task records, one by one
pub tasks_end : (s : List ℕ) (k i at : ℕ) (table : Table) → k ≡ 0 → record { outcome = Read; next = at; table = table } ≡ tasks_at s k i at table
unfolding tasks_at
tasks_end s k i at table h = rw h

module _ (s : List ℕ) (k i at : ℕ) (j : ℕ) (more : k ≡ suc j) where
  pub tasks_stop : (table : Table) (o : Outcome) → Err o ≡ found (task_at s at) → (o ≡ Read → ⊥) × (bad_table o ≡ tasks_at s k i at table)
  unfolding tasks_at found
  tasks_stop table o h =
      let p = answer_err (task_at s at).outcome _ o h in
      (p.1, ap bad_table (sym p.0) ∙ rw more (not_read (task_at s at).outcome bad_table _ (λ z. p.1 (sym p.0 ∙ z))))

  pub tasks_got : (m n : ℕ) (tasks : List Task) (costs next : List ℕ) (r : TaskFound) → Ok r ≡ found (task_at s at) → InRow (task_at s at) i costs next
      → (tasks_at s j (i + 1) r.next (record { m = m; n = n; tasks = set tasks i r.task; costs = next })
      ≡ tasks_at s k i at (record { m = m; n = n; tasks = tasks; costs = costs }))
      × (next ≡ put_costs costs i (task_at s at).costs)
  unfolding tasks_at with_task found
  tasks_got m n tasks costs next r q h =
      let p = answer_ok (task_at s at).outcome _ r q in
      (rw p.1 (rw (more, p.0, h p.0)), h p.0)

-- ---- the table record
module _ (s : List ℕ) (at : ℕ) where
  pub head_mark : (o : Outcome) → Err o ≡ marked 0x42 s at → Err o ≡ head_at s at
  unfolding head_at
  head_mark o h = rw (mark_stops 0x42 s at o h)

  module _ (x : ⊤) (ha : Ok x ≡ marked 0x42 s at) where
    pub head_m : (o : Outcome) → Err o ≡ byte_at 1 8 s (at + 2) → Err o ≡ head_at s at
    unfolding head_at
    head_m o h = sym (on_mark 0x42 s at Err _ x ha ∙ rw (← h) refl)

    module _ (m : ℕ) (hb : Ok m ≡ byte_at 1 8 s (at + 2)) where
      pub head_n : (o : Outcome) → Err o ≡ byte_at 1 16 s (at + 3) → Err o ≡ head_at s at
      unfolding head_at
      head_n o h = sym (on_mark 0x42 s at Err _ x ha ∙ rw (← hb, ← h) refl)

      pub head_got : (n : ℕ) → Ok n ≡ byte_at 1 16 s (at + 3) → Ok (record { m = m; n = n }) ≡ head_at s at
      unfolding head_at
      head_got n h = sym (on_mark 0x42 s at Err _ x ha ∙ rw (← hb, ← h) refl)

-- ---- the table, by its record
abbrev pub empty : Head → Table
empty h = record { m = h.m; n = h.n; tasks = no_tasks; costs = no_row }

module _ (s : List ℕ) (at : ℕ) where
  abbrev on_head : Result Head Outcome → TableRead
  on_head (Ok h) = tasks_at s h.n 0 (at + 4) (empty h)
  on_head (Err o) = bad_table o

  by_head : table_at s at ≡ on_head (head_at s at)
  unfolding table_at head_at
  by_head = go (mark_at 0x42 s at) (byte_at 1 8 s (at + 2)) (byte_at 1 16 s (at + 3))
    where
      go : (a b c : Result ℕ Outcome)
          → onward a bad_table (λ _. onward b bad_table λ m. onward c bad_table λ n. tasks_at s n 0 (at + 4) (record { m = m; n = n; tasks = no_tasks; costs = no_row }))
          ≡ on_head (onward a Err (λ _. onward b Err λ m. onward c Err λ n. Ok (record { m = m; n = n })))
      go (Err o) b c = refl
      go (Ok x) (Err o) c = refl
      go (Ok x) (Ok m) (Err o) = refl
      go (Ok x) (Ok m) (Ok n) = refl

  pub table_stop : (o : Outcome) → Err o ≡ head_at s at → bad_table o ≡ table_at s at
  table_stop o h = sym (by_head ∙ rw (← h) refl)

  pub table_tasks : (h : Head) → Ok h ≡ head_at s at → tasks_at s h.n 0 (at + 4) (empty h) ≡ table_at s at
  table_tasks h e = sym (by_head ∙ rw (← e) refl)

  -- what its fields say of the input and of m and n
  pub head_read : (h : Head) → Ok h ≡ head_at s at → (at + 4 ≤ length s) × (h.m ≤ 8) × (h.n ≤ 16)
  unfolding head_at
  head_read h e =
      let a = past (mark_at 0x42 s at) _ h e in
      let b = past (byte_at 1 8 s (at + 2)) _ h a.2 in
      let c = past (byte_at 1 16 s (at + 3)) _ h b.2 in
      let k = byte_read 1 8 s (at + 2) b.0 b.1 in
      let l = byte_read 1 16 s (at + 3) c.0 c.1 in
      let q : h ≡ record { m = b.0; n = c.0 } = ok_same h _ c.2 in
      let m = ap (λ (x : Head). x.m) q in
      let n = ap (λ (x : Head). x.n) q in
      (omega arith, omega arith, omega arith)
    where
      ok_same : (x y : Head) → ◌≡◌ {A = Result Head Outcome} (Ok x) (Ok y) → x ≡ y
      ok_same x y e = cc

  halts : {P : ℕ → Type 0} (f : Result ℕ Outcome) → View f P → (go : ℕ → Result Head Outcome) (o : Outcome)
      → ((x : ℕ) → Err o ≡ go x → o ≡ Read → ⊥) → Err o ≡ onward f Err go → o ≡ Read → ⊥
  unfolding Bad
  halts f (value x e q) go o step h = step x (h ∙ ap (λ (z : Result ℕ Outcome). onward z Err go) e)
  halts f (halt p e n) go o step h =
      let k : ◌≡◌ {A = Result Head Outcome} (Err o) (Err p) = h ∙ ap (λ (z : Result ℕ Outcome). onward z Err go) e in
      let z : o ≡ p = cc in
      λ r. n (sym z ∙ r)

  -- its refusal is never success
  pub head_refused : (o : Outcome) → Err o ≡ head_at s at → o ≡ Read → ⊥
  unfolding head_at
  head_refused o h =
      halts (mark_at 0x42 s at) (mark_view 0x42 s at) _ o
      (λ _. halts (byte_at 1 8 s (at + 2)) (byte_view 1 8 s (at + 2)) _ o
      (λ m. halts (byte_at 1 16 s (at + 3)) (byte_view 1 16 s (at + 3)) _ o
      (λ n k. let z : ◌≡◌ {A = ℕ} 0 1 = cc in absurd (omega arith)))) h

-- ---- the whole file
module _ (s : List ℕ) (r : TableRead) (hr : r ≡ table_at s 0) where
  pub read_stop : (l : Loaded) → (r.outcome ≡ Read → ⊥) → l ≡ refused r.outcome → l ≡ read s
  unfolding read ending
  read_stop l n h = h ∙ rw (← hr) (not_read r.outcome refused _ n)

  pub read_extra : (l : Loaded) → r.outcome ≡ Read → (r.next ≡ length s → ⊥) → l ≡ refused (Extra r.next) → l ≡ read s
  unfolding read ending
  read_extra l q n h = h ∙ rw (← hr, q, ne_eqb r.next (length s) n)

  pub read_got : r.outcome ≡ Read → r.next ≡ length s → record { outcome = Read; table = r.table } ≡ read s
  unfolding read ending
  read_got q n = rw (← hr, q, eq-eqb r.next (length s) n)

pub read_refused : (s : List ℕ) (o : Outcome) → Err o ≡ head_at s 0 → (l : Loaded) → l ≡ refused o → l ≡ read s
unfolding bad_table
read_refused s o h l e = read_stop s (bad_table o) (table_stop s 0 o h) l (head_refused s 0 o h) e
