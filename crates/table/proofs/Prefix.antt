-- Reading looks at no more than the largest file and the byte after it: `read` of the first 5,061 bytes equals `read` of all.
use mathlib.Core.Path.{◌≡◌, refl, sym, ap, ◌∙◌}
use mathlib.Core.Logic.{◌⊎◌, inl, inr, ⊎_elim}
use mathlib.Core.Bool.{Bool}
use mathlib.Core.List.{List}
use Prim.Native.Nat.{ℕ, zero, suc, ◌+◌, ◌*◌, ◌≤◌, ◌<◌}
use native.Mathlib.Omega.{arith}
use native.Mathlib.Decide.{dec_le, dec_lt}
use lib.ListN.{length, get_or, set, take}
use lib.Seq.{take_all, length-take-le, get_or-take}
use lib.Dec.{leb, eqb}
use borrow.Author.Tests.{le-leb, lt-leb, ne_eqb}
use Rattle.table.specs.declared.Table.{Table}
use Rattle.table.specs.declared.Outcome.{Outcome}
use Rattle.table.specs.declared.Outcome.TheVariants.{Read, Short, Mark, Range, Ticks, Order, Edge, Cycle, Extra}
use Rattle.std.specs.Prelude.{Result}
use Rattle.table.specs.declared.TableRead.{TableRead}
use Rattle.graph.specs.Words.{pick}
use Rattle.table.specs.Memory.{no_succ, no_costs, succ}
use Rattle.table.specs.Reading.{TaskRead, onward, when_read, field, mark_at, ranged, byte_at, value4, ticks_at, not_under, period_at, edge_at, costs_at, add_edge, edges_at, bad_task, parts_at, task_at, bad_table, with_task, tasks_at, table_at, refused, ending, read}
use Rattle.table.proofs.FieldViews.{View, mark_view, byte_view, ticks_view, period_view, edge_view, went, value, halt}
use Rattle.table.proofs.Went.{out_table, task_went, none_yet, table_went}

-- ---- what follows a field, and a part, over two lists
module _ {X : Type 0} (bad : Outcome → X) where
  pub on_both : {P : ℕ → Type 0} (f g : Result ℕ Outcome) → f ≡ g → View g P → (go by : ℕ → X) → ((x : ℕ) → P x → go x ≡ by x) → onward f bad go ≡ onward g bad by
  on_both f g e (value x q p) go by h = ap (λ (z : Result ℕ Outcome). onward z bad go) (e ∙ q) ∙ h x p ∙ ap (λ (z : Result ℕ Outcome). onward z bad by) (sym q)
  on_both f g e (halt o q n) go by h = ap (λ (z : Result ℕ Outcome). onward z bad go) (e ∙ q) ∙ ap (λ (z : Result ℕ Outcome). onward z bad by) (sym q)

  pub when_both : (o : Outcome) (go by : Unit {0} → X) → (o ≡ Read → go tt ≡ by tt) → when_read o bad go ≡ when_read o bad by
  when_both Read go by h = h refl
  when_both (Short p) go by h = refl
  when_both (Mark p) go by h = refl
  when_both (Range p) go by h = refl
  when_both (Ticks p) go by h = refl
  when_both (Order p) go by h = refl
  when_both (Edge p) go by h = refl
  when_both (Cycle p) go by h = refl
  when_both (Extra p) go by h = refl

-- ---- how far a record reaches: a task has at most 12 + 4 * 16 + 2 * 120 bytes
pub task_next : (s : List ℕ) (at : ℕ) → (task_at s at).outcome ≡ Read → (task_at s at).next ≤ at + 316
task_next s at h =
    let w = task_went s at (task_at s at) h refl in
    let v = w.v_range.1 in
    let e = w.e_range.1 in
    let n = w.next_is in
    omega arith

pub tasks_next : (s : List ℕ) (k i at : ℕ) (t : Table) → (tasks_at s k i at t).outcome ≡ Read → (tasks_at s k i at t).next ≤ at + 316 * k
unfolding tasks_at
tasks_next s zero i at t h = omega arith
tasks_next s (suc k) i at t h =
    let out : TableRead → Outcome = λ (x : TableRead). x.outcome in
    let a : TaskRead = task_at s at in
    let w = went out bad_table out_table a.outcome _ (tasks_at s (suc k) i at t) h refl in
    let n₁ = task_next s at w.0 in
    let n₂ = tasks_next s k (i + 1) a.next (with_task t i a) (ap out (sym w.1) ∙ h) in
    let e = ap (λ (x : TableRead). x.next) w.1 in
    omega arith

-- a table has at most 4 + 16 * 316 bytes
pub table_next : (s : List ℕ) (at : ℕ) → (table_at s at).outcome ≡ Read → (table_at s at).next ≤ at + 5060
table_next s at h =
    let w = table_went s at (table_at s at) h refl in
    let n = w.n_range.1 in
    let e = ap (λ (x : TableRead). x.next) w.tasks_are in
    let m = tasks_next s w.n 0 (at + 4) (none_yet w.m w.n) (ap (λ (x : TableRead). x.outcome) (sym w.tasks_are) ∙ h) in
    omega arith

-- ---- two lists that are the same as far as b
pub record Alike (b : ℕ) (s r : List ℕ) : Type 0 where
  pub within : (k : ℕ) → k ≤ b → leb k (length s) ≡ leb k (length r)
  pub same : (k : ℕ) → k < b → get_or s k 0 ≡ get_or r k 0

module _ (b : ℕ) (s r : List ℕ) (a : Alike b s r) where
  mark_both : (x at : ℕ) → at + 2 ≤ b → mark_at x s at ≡ mark_at x r at
  unfolding mark_at field
  mark_both x at h = rw (a.within (at + 2) h, a.same at (omega arith), a.same (at + 1) (omega arith))

  byte_both : (lo hi at : ℕ) → at + 1 ≤ b → byte_at lo hi s at ≡ byte_at lo hi r at
  unfolding byte_at field ranged
  byte_both lo hi at h = rw (a.within (at + 1) h, a.same at (omega arith))

  ticks_both : (lo at : ℕ) → at + 4 ≤ b → ticks_at lo s at ≡ ticks_at lo r at
  unfolding ticks_at field ranged value4
  ticks_both lo at h =
      rw (a.within (at + 4) h, a.same at (omega arith), a.same (at + 1) (omega arith), a.same (at + 2) (omega arith), a.same (at + 3) (omega arith))

  period_both : (d at : ℕ) → at + 4 ≤ b → period_at d s at ≡ period_at d r at
  unfolding period_at
  period_both d at h = ap (not_under d at) (ticks_both 1 at h)

  edge_both : (v low at : ℕ) → at + 2 ≤ b → edge_at v low s at ≡ edge_at v low r at
  unfolding edge_at field
  edge_both v low at h = rw (a.within (at + 2) h, a.same at (omega arith), a.same (at + 1) (omega arith))

  costs_both : (k at u : ℕ) (costs : List ℕ) → at + 4 * k ≤ b → costs_at s k at u costs ≡ costs_at r k at u costs
  unfolding costs_at
  costs_both zero at u costs h = refl
  costs_both (suc k) at u costs h =
      on_both (λ o. record { outcome = o; costs = costs }) (ticks_at 0 s at) (ticks_at 0 r at) (ticks_both 0 at (omega arith)) (ticks_view 0 r at) _ _
      (λ x p. costs_both k (at + 4) (u + 1) (set costs u x) (omega arith))

  edges_both : (v : ℕ) → v ≤ 16 → (k at low : ℕ) (succ : List ℕ) → at + 2 * k ≤ b → edges_at v s k at low succ ≡ edges_at v r k at low succ
  unfolding edges_at
  edges_both v hv zero at low succ h = refl
  edges_both v hv (suc k) at low succ h =
      on_both (λ o. record { outcome = o; succ = succ }) (edge_at v low s at) (edge_at v low r at) (edge_both v low at (omega arith)) (edge_view v low r at hv) _ _
      (λ x p. edges_both v hv k (at + 2) (x + 1) (add_edge succ x) (omega arith))

  parts_both : (at v e d t : ℕ) → v ≤ 16 → at + 12 + 4 * v + 2 * e ≤ b → parts_at s at v e d t ≡ parts_at r at v e d t
  unfolding parts_at
  parts_both at v e d t hv h = rw (costs_both v (at + 12) 0 no_costs (omega arith), edges_both v hv e (at + 12 + 4 * v) 0 no_succ h)

  task_both : (at : ℕ) → at + 316 ≤ b → task_at s at ≡ task_at r at
  unfolding task_at
  task_both at h =
      on_both bad_task (mark_at 0x4B s at) (mark_at 0x4B r at) (mark_both 0x4B at (omega arith)) (mark_view 0x4B r at) _ _ (λ _ _.
      on_both bad_task (byte_at 1 16 s (at + 2)) (byte_at 1 16 r (at + 2)) (byte_both 1 16 (at + 2) (omega arith)) (byte_view 1 16 r (at + 2)) _ _ (λ v hv.
      on_both bad_task (byte_at 0 120 s (at + 3)) (byte_at 0 120 r (at + 3)) (byte_both 0 120 (at + 3) (omega arith)) (byte_view 0 120 r (at + 3)) _ _ (λ e he.
      on_both bad_task (ticks_at 1 s (at + 4)) (ticks_at 1 r (at + 4)) (ticks_both 1 (at + 4) (omega arith)) (ticks_view 1 r (at + 4)) _ _ (λ d _.
      on_both bad_task (period_at d s (at + 8)) (period_at d r (at + 8)) (period_both d (at + 8) (omega arith)) (period_view d r (at + 8)) _ _ (λ t _.
      parts_both at v e d t hv.1 (let h₁ = hv.1 in let h₂ = he.1 in omega arith))))))

  tasks_both : (k i at : ℕ) (t : Table) → at + 316 * k ≤ b → tasks_at s k i at t ≡ tasks_at r k i at t
  unfolding tasks_at
  tasks_both zero i at t h = refl
  tasks_both (suc k) i at t h =
      rw (task_both at (omega arith)) (when_both bad_table (task_at r at).outcome _ _ (λ o.
      let n = task_next r at o in
      tasks_both k (i + 1) (task_at r at).next (with_task t i (task_at r at)) (omega arith)))

  pub table_both : (at : ℕ) → at + 5060 ≤ b → table_at s at ≡ table_at r at
  unfolding table_at
  table_both at h =
      on_both bad_table (mark_at 0x42 s at) (mark_at 0x42 r at) (mark_both 0x42 at (omega arith)) (mark_view 0x42 r at) _ _ (λ _ _.
      on_both bad_table (byte_at 1 8 s (at + 2)) (byte_at 1 8 r (at + 2)) (byte_both 1 8 (at + 2) (omega arith)) (byte_view 1 8 r (at + 2)) _ _ (λ m _.
      on_both bad_table (byte_at 1 16 s (at + 3)) (byte_at 1 16 r (at + 3)) (byte_both 1 16 (at + 3) (omega arith)) (byte_view 1 16 r (at + 3)) _ _ (λ n hn.
      tasks_both n 0 (at + 4) _ (let h₁ = hn.1 in omega arith))))

-- ---- the first bytes of a list
length_first : (n : ℕ) (s : List ℕ) → ((length s ≤ n) × (length (take n s) ≡ length s)) ⊎ ((n < length s) × (length (take n s) ≡ n))
length_first n s = elim (dec_lt n (length s)) [
  | yes h ↦ inr (h, length-take-le n s (omega arith))
  | no h ↦ inl (omega arith, ap length (take_all n s (omega arith)))
]

same_test : (k m n : ℕ) → ((k ≤ m) → (k ≤ n)) → ((k ≤ n) → (k ≤ m)) → leb k m ≡ leb k n
same_test k m n f g = elim (dec_le k m) [
  | yes h ↦ le-leb k m h ∙ sym (le-leb k n (f h))
  | no h ↦ lt-leb k m (omega arith) ∙ sym (lt-leb k n (elim (dec_le k n) [ yes l ↦ absurd (h (g l)) | no l ↦ omega arith ]))
]

first_alike : (b n : ℕ) (s : List ℕ) → b ≤ n → Alike b (take n s) s
first_alike b n s h = record {
  within = λ k l. same_test k (length (take n s)) (length s)
      (λ x. ⊎_elim (λ z. let y = z.1 in omega arith) (λ z. let y = z.0 in omega arith) (length_first n s))
      (λ x. ⊎_elim (λ z. let y = z.1 in omega arith) (λ z. let y = z.1 in omega arith) (length_first n s));
  same = λ k l. get_or-take n s k 0 (omega arith);
}

-- READING THE FIRST 5,061 BYTES, or more, IS READING ALL
pub read_first : (n : ℕ) (s : List ℕ) → 5061 ≤ n → read (take n s) ≡ read s
unfolding read ending
read_first n s h =
    rw (table_both 5060 (take n s) s (first_alike 5060 n s (omega arith)) 0 (omega arith))
    (when_both refused (table_at s 0).outcome _ _ (λ o.
    let l = table_next s 0 o in
    ap (λ (c : Bool). pick c (record { outcome = Read; table = (table_at s 0).table }) (refused (Extra (table_at s 0).next))) (ends (table_at s 0).next (omega arith))))
  where
    ends : (k : ℕ) → k ≤ 5060 → eqb k (length (take n s)) ≡ eqb k (length s)
    ends k l = ⊎_elim (λ z. ap (eqb k) z.1)
        (λ z. let y = z.0 in let x = z.1 in ne_eqb k (length (take n s)) (λ e. absurd (omega arith)) ∙ sym (ne_eqb k (length s) (λ e. absurd (omega arith)))) (length_first n s)

pub read_prefix : (s : List ℕ) → read (take 5061 s) ≡ read s
read_prefix s = read_first 5061 s (omega arith)
