-- Every refusal's place lies within the input, or at its end; and it comes with a table of zeros.
use mathlib.Core.Path.{◌≡◌, refl, sym, subst}
use mathlib.Core.Logic.{⊎_elim}
use mathlib.Core.Bool.{Bool, true, false, ◌&&◌}
use mathlib.Core.List.{List}
use Prim.Native.Nat.{ℕ, zero, suc, ◌+◌, ◌*◌, ◌≤◌}
use native.Mathlib.Omega.{arith}
use lib.ListN.{length, get_or, set}
use lib.Dec.{leb, eqb}
use Rattle.table.specs.declared.Table.{Table}
use Rattle.table.specs.declared.Outcome.{Outcome}
use Rattle.table.specs.declared.Outcome.TheVariants.{Read, Short, Mark, Range, Ticks, Order, Edge, Cycle, Extra}
use Rattle.table.specs.declared.Loaded.{Loaded}
use Rattle.std.specs.Prelude.{Result, Ok, Err}
use Rattle.table.specs.declared.TableRead.{TableRead}
use Rattle.graph.specs.Words.{pick}
use Rattle.graph.specs.Graph.{acyclic}
use Rattle.table.specs.Memory.{no_succ, no_costs, no_table, succ}
use Rattle.table.specs.Numbers.{number, place}
use Rattle.table.specs.Reading.{TaskRead, EdgesRead, CostsRead, onward, when_read, field, mark_at, ranged, byte_at, value4, ticks_at, not_under, period_at, edge_ok, edge_at, costs_at, add_edge, edges_at, bad_task, parts_at, task_at, bad_table, with_task, tasks_at, table_at, refused, ending, read}
use Rattle.table.proofs.FieldViews.{Bad, bad_by, field_cases}
use Rattle.table.proofs.Went.{out_task, out_table, out_loaded}
use Rattle.table.proofs.FieldBytes.{stop_got}

-- a field of `size` bytes at a place of n bytes: it lies within them, or is refused at a place of theirs
data Placed (n after : ℕ) (f : Result ℕ Outcome) : Type 0 where
  got : (x : ℕ) → f ≡ Ok x → after ≤ n → Placed n after f
  stopped : (o : Outcome) → f ≡ Err o → Bad o → place o ≤ n → Placed n after f

-- a part of the file: its refusal has a place of theirs, or it ends within them
abbrev Reach : ℕ → ℕ → Outcome → Type 0
Reach n after o = (place o ≤ n) × (o ≡ Read → after ≤ n)

-- a refusal at a place
abbrev StopsAt : ℕ → Outcome → Type 0
StopsAt at o = Bad o × (place o ≡ at)

field_placed : (size : ℕ) (s : List ℕ) (at : ℕ) → at ≤ length s → (rules : Result ℕ Outcome) → ((o : Outcome) → rules ≡ Err o → StopsAt at o) → Placed (length s) (at + size) (field size s at rules)
unfolding number place
field_placed size s at h rules p = ⊎_elim (λ z. rw z.1 (go z.0 rules p)) (λ z. rw z.1 (stopped (Short at) refl (bad_by (Short at) 0 refl) h)) (field_cases size s at rules)
  where
    go : at + size ≤ length s → (f : Result ℕ Outcome) → ((o : Outcome) → f ≡ Err o → StopsAt at o) → Placed (length s) (at + size) f
    go l (Ok x) p = got x refl l
    go l (Err o) p = let q = p o refl in stopped o refl q.0 (omega (arith, q.1))

pick_stops : (b : Bool) (x at : ℕ) (o : Outcome) → StopsAt at o → (q : Outcome) → pick b (Ok x) (Err o) ≡ Err q → StopsAt at q
pick_stops true x at o h q e = stop_got q x (sym e)
pick_stops false x at o h q e = let z : o ≡ q = cc in subst (StopsAt at) z h

module _ (s : List ℕ) where
  mark_placed : (b at : ℕ) → at ≤ length s → Placed (length s) (at + 2) (mark_at b s at)
  unfolding mark_at number place
  mark_placed b at h = field_placed 2 s at h _ (pick_stops (eqb (get_or s at 0) 0x54 && eqb (get_or s (at + 1) 0) b) 0 at (Mark at) (bad_by (Mark at) 1 refl, refl))

  byte_placed : (lo hi at : ℕ) → at ≤ length s → Placed (length s) (at + 1) (byte_at lo hi s at)
  unfolding byte_at ranged number place
  byte_placed lo hi at h = field_placed 1 s at h _ (pick_stops (leb lo (get_or s at 0) && leb (get_or s at 0) hi) (get_or s at 0) at (Range at) (bad_by (Range at) 2 refl, refl))

  ticks_placed : (lo at : ℕ) → at ≤ length s → Placed (length s) (at + 4) (ticks_at lo s at)
  unfolding ticks_at ranged number place
  ticks_placed lo at h = field_placed 4 s at h _ (pick_stops (leb lo (value4 s at) && leb (value4 s at) 1000000) (value4 s at) at (Ticks at) (bad_by (Ticks at) 3 refl, refl))

  edge_placed : (v low at : ℕ) → at ≤ length s → Placed (length s) (at + 2) (edge_at v low s at)
  unfolding edge_at number place
  edge_placed v low at h = field_placed 2 s at h _ (pick_stops (edge_ok v low (get_or s at 0) (get_or s (at + 1) 0)) _ at (Edge at) (bad_by (Edge at) 5 refl, refl))

  period_placed : (d at : ℕ) → at ≤ length s → Placed (length s) (at + 4) (period_at d s at)
  unfolding period_at not_under number place
  period_placed d at h = go (ticks_at 1 s at) (ticks_placed 1 at h)
    where
      also : (b : Bool) (x : ℕ) → at + 4 ≤ length s → Placed (length s) (at + 4) (pick b (Ok x) (Err (Order at)))
      also true x l = got x refl l
      also false x l = stopped (Order at) refl (bad_by (Order at) 4 refl) h

      go : (f : Result ℕ Outcome) → Placed (length s) (at + 4) f → Placed (length s) (at + 4) (not_under d at f)
      go f (got x e l) = rw e (also (leb d (4 * x)) x l)
      go f (stopped o e b p) = rw e (stopped o refl b p)

-- ---- what follows
module _ {X : Type 0} (out : X → Outcome) (bad : Outcome → X) (same : (o : Outcome) → out (bad o) ≡ o) (n : ℕ) where
  stop_reach : (o : Outcome) (after : ℕ) → Bad o → place o ≤ n → Reach n after (out (bad o))
  unfolding Bad
  stop_reach o after b p = rw (same o) (p, λ e. absurd (b e))

  on_reach : (at : ℕ) (f : Result ℕ Outcome) → Placed n at f → (go : ℕ → X) (after : X → ℕ) → ((x : ℕ) → at ≤ n → Reach n (after (go x)) (out (go x)))
      → Reach n (after (onward f bad go)) (out (onward f bad go))
  on_reach at f (got x e l) go after h = rw e (h x l)
  on_reach at f (stopped o e b p) go after h = rw e (stop_reach o (after (bad o)) b p)

  when_reach : (at : ℕ) (o : Outcome) → Reach n at o → (go : Unit {0} → X) (after : X → ℕ) → (at ≤ n → Reach n (after (go tt)) (out (go tt)))
      → Reach n (after (when_read o bad go)) (out (when_read o bad go))
  unfolding number
  when_reach at Read r go after h = h (r.1 refl)
  when_reach at (Short p) r go after h = stop_reach (Short p) (after (bad (Short p))) (bad_by (Short p) 0 refl) r.0
  when_reach at (Mark p) r go after h = stop_reach (Mark p) (after (bad (Mark p))) (bad_by (Mark p) 1 refl) r.0
  when_reach at (Range p) r go after h = stop_reach (Range p) (after (bad (Range p))) (bad_by (Range p) 2 refl) r.0
  when_reach at (Ticks p) r go after h = stop_reach (Ticks p) (after (bad (Ticks p))) (bad_by (Ticks p) 3 refl) r.0
  when_reach at (Order p) r go after h = stop_reach (Order p) (after (bad (Order p))) (bad_by (Order p) 4 refl) r.0
  when_reach at (Edge p) r go after h = stop_reach (Edge p) (after (bad (Edge p))) (bad_by (Edge p) 5 refl) r.0
  when_reach at (Cycle p) r go after h = stop_reach (Cycle p) (after (bad (Cycle p))) (bad_by (Cycle p) 6 refl) r.0
  when_reach at (Extra p) r go after h = stop_reach (Extra p) (after (bad (Extra p))) (bad_by (Extra p) 7 refl) r.0

  pick_reach : (b : Bool) (x : X) (o : Outcome) (after : X → ℕ) → Bad o → place o ≤ n → (b ≡ true → Reach n (after x) (out x)) → Reach n (after (pick b x (bad o))) (out (pick b x (bad o)))
  pick_reach true x o after h p k = k refl
  pick_reach false x o after h p k = stop_reach o (after (bad o)) h p

module _ (s : List ℕ) where
  costs_reach : (k at u : ℕ) (costs : List ℕ) → at ≤ length s → Reach (length s) (at + 4 * k) (costs_at s k at u costs).outcome
  unfolding costs_at place
  costs_reach zero at u costs h = (omega arith, λ e. omega arith)
  costs_reach (suc k) at u costs h =
      on_reach (λ (x : CostsRead). x.outcome) (λ o. record { outcome = o; costs = costs }) (λ o. refl) (length s)
      (at + 4) (ticks_at 0 s at) (ticks_placed s 0 at h) _ (λ x. at + 4 * suc k) (λ x l.
      let i = costs_reach k (at + 4) (u + 1) (set costs u x) l in
      (i.0, λ e. let j = i.1 e in omega arith))

  edges_reach : (v k at low : ℕ) (succ : List ℕ) → at ≤ length s → Reach (length s) (at + 2 * k) (edges_at v s k at low succ).outcome
  unfolding edges_at place
  edges_reach v zero at low succ h = (omega arith, λ e. omega arith)
  edges_reach v (suc k) at low succ h =
      on_reach (λ (x : EdgesRead). x.outcome) (λ o. record { outcome = o; succ = succ }) (λ o. refl) (length s)
      (at + 2) (edge_at v low s at) (edge_placed s v low at h) _ (λ x. at + 2 * suc k) (λ x l.
      let i = edges_reach v k (at + 2) (x + 1) (add_edge succ x) l in
      (i.0, λ e. let j = i.1 e in omega arith))

  task_reach : (at : ℕ) → at ≤ length s → Reach (length s) (task_at s at).next (task_at s at).outcome
  unfolding task_at parts_at number place
  task_reach at h =
      let out : TaskRead → Outcome = λ (x : TaskRead). x.outcome in
      let n : ℕ = length s in
      let nx : TaskRead → ℕ = λ (x : TaskRead). x.next in
      on_reach out bad_task out_task n (at + 2) (mark_at 0x4B s at) (mark_placed s 0x4B at h) _ nx (λ _ l₁.
      on_reach out bad_task out_task n (at + 2 + 1) (byte_at 1 16 s (at + 2)) (byte_placed s 1 16 (at + 2) l₁) _ nx (λ v l₂.
      on_reach out bad_task out_task n (at + 3 + 1) (byte_at 0 120 s (at + 3)) (byte_placed s 0 120 (at + 3) (omega arith)) _ nx (λ e l₃.
      on_reach out bad_task out_task n (at + 4 + 4) (ticks_at 1 s (at + 4)) (ticks_placed s 1 (at + 4) (omega arith)) _ nx (λ d l₄.
      on_reach out bad_task out_task n (at + 8 + 4) (period_at d s (at + 8)) (period_placed s d (at + 8) (omega arith)) _ nx (λ t l₅.
      when_reach out bad_task out_task n (at + 12 + 4 * v) _ (costs_reach v (at + 12) 0 no_costs (omega arith)) _ nx (λ l₆.
      when_reach out bad_task out_task n (at + 12 + 4 * v + 2 * e) _ (edges_reach v e (at + 12 + 4 * v) 0 no_succ l₆) _ nx (λ l₇.
      pick_reach out bad_task out_task n (acyclic (edges_at v s e (at + 12 + 4 * v) 0 no_succ).succ) _ (Cycle at) nx (bad_by (Cycle at) 6 refl) h (λ _. (omega arith, λ _. l₇)))))))))

  tasks_reach : (k i at : ℕ) (t : Table) → at ≤ length s → Reach (length s) (tasks_at s k i at t).next (tasks_at s k i at t).outcome
  unfolding tasks_at place
  tasks_reach zero i at t h = (omega arith, λ e. h)
  tasks_reach (suc k) i at t h =
      when_reach (λ (x : TableRead). x.outcome) bad_table out_table (length s) (task_at s at).next (task_at s at).outcome (task_reach at h) _ (λ x. x.next)
      (λ l. tasks_reach k (i + 1) (task_at s at).next (with_task t i (task_at s at)) l)

  table_reach : (at : ℕ) → at ≤ length s → Reach (length s) (table_at s at).next (table_at s at).outcome
  unfolding table_at
  table_reach at h =
      let out : TableRead → Outcome = λ (x : TableRead). x.outcome in
      let nx : TableRead → ℕ = λ (x : TableRead). x.next in
      on_reach out bad_table out_table (length s) (at + 2) (mark_at 0x42 s at) (mark_placed s 0x42 at h) _ nx (λ _ l₁.
      on_reach out bad_table out_table (length s) (at + 2 + 1) (byte_at 1 8 s (at + 2)) (byte_placed s 1 8 (at + 2) l₁) _ nx (λ m l₂.
      on_reach out bad_table out_table (length s) (at + 3 + 1) (byte_at 1 16 s (at + 3)) (byte_placed s 1 16 (at + 3) (omega arith)) _ nx (λ n l₃.
      tasks_reach n 0 (at + 4) _ (omega arith))))

  -- EVERY REFUSAL'S PLACE lies within the input, or at its end
  pub read_place : place (read s).outcome ≤ length s
  unfolding read ending number place
  read_place =
      let r : TableRead = table_at s 0 in
      let out : Loaded → Outcome = λ (x : Loaded). x.outcome in
      let k : Reach (length s) 0 (read s).outcome = when_reach out refused out_loaded (length s) r.next r.outcome (table_reach 0 (omega arith)) _ (λ x. 0) (λ l.
      pick_reach out refused out_loaded (length s) (eqb r.next (length s)) (record { outcome = Read; table = r.table }) (Extra r.next) (λ x. 0) (bad_by (Extra r.next) 7 refl) l
      (λ _. (omega arith, λ _. omega arith))) in
      k.0

-- ---- "A refusal returns number, place and a table of zeros"
zeros_when : (o : Outcome) (go : Unit {0} → Loaded) → (Bad (go tt).outcome → (go tt).table ≡ no_table) → Bad (when_read o refused go).outcome → (when_read o refused go).table ≡ no_table
unfolding refused
zeros_when Read go h b = h b
zeros_when (Short p) go h b = refl
zeros_when (Mark p) go h b = refl
zeros_when (Range p) go h b = refl
zeros_when (Ticks p) go h b = refl
zeros_when (Order p) go h b = refl
zeros_when (Edge p) go h b = refl
zeros_when (Cycle p) go h b = refl
zeros_when (Extra p) go h b = refl

pub refused_zeros : (s : List ℕ) → ((read s).outcome ≡ Read → ⊥) → (read s).table ≡ no_table
unfolding read ending refused Bad
refused_zeros s b = zeros_when (table_at s 0).outcome _ (λ h. at_end (eqb (table_at s 0).next (length s)) h) b
  where
    at_end : (c : Bool) → ((pick c (record { outcome = Read; table = (table_at s 0).table }) (refused (Extra (table_at s 0).next))).outcome ≡ Read → ⊥)
        → (pick c (record { outcome = Read; table = (table_at s 0).table }) (refused (Extra (table_at s 0).next))).table ≡ no_table
    at_end true h = absurd (h refl)
    at_end false h = refl
