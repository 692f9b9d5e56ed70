-- A task that was read, and its bytes.
use mathlib.Core.Path.{◌≡◌, refl, sym, ap, ◌∙◌}
use mathlib.Core.List.{List, ◌∷◌, ◌++◌, append_assoc}
use Prim.Native.Nat.{ℕ, zero, suc, ◌+◌, ◌*◌, ◌/◌, ◌%◌, ◌≤◌}
use native.Mathlib.Omega.{arith}
use native.Mathlib.Numerals.{add-one}
use lib.ListN.{length, get_or, set, drop, length-set}
use lib.Seq.{get_or-set_same}
use Rattle.table.specs.declared.Task.{Task}
use Rattle.table.specs.declared.Outcome.TheVariants.{Read}
use Rattle.graph.specs.Words.{those_below, join_from, in_order}
use Rattle.graph.specs.Graph.{edge}
use Rattle.table.specs.Memory.{no_succ, no_costs}
use Rattle.table.specs.Reading.{TaskRead, EdgesRead, CostsRead, ticks_at, costs_at, edges_at, task_at}
use Rattle.table.specs.Writing.{bytes4, edge_bytes}
use Rattle.table.proofs.Successors.{add_all}
use Rattle.table.proofs.FieldViews.{ticks_view, on_field}
use Rattle.table.proofs.Went.{task_went}
use Rattle.table.proofs.FieldBytes.{Bytes, at_sum, mark_bytes, byte_bytes, ticks_bytes, period_is}
use Rattle.table.proofs.Edges.{edges_are, keys_are}
use Rattle.table.proofs.Sound.{costs_in}

-- ---- costs
costs_bytes : (s : List ℕ) → Bytes s → (k at j : ℕ) (costs : List ℕ) → j + k ≤ length costs → (r : CostsRead) → r.outcome ≡ Read
    → r ≡ costs_at s k at j costs → drop at s ≡ join_from k j (λ u. bytes4 (get_or r.costs u 0)) ++ drop (at + 4 * k) s
unfolding costs_at join_from
costs_bytes s b zero at j costs l r h e = at_sum s at (at + 4 * 0) (omega arith)
costs_bytes s b (suc k) at j costs l r h e =
    let g = on_field (λ (x : CostsRead). x.outcome) (λ o. record { outcome = o; costs = costs }) (λ o. refl)
    (ticks_at 0 s at) (ticks_view 0 s at) (λ x. costs_at s k (at + 4) (j + 1) (set costs j x)) r h e in
    let x = g.0 in
    let n = length-set costs j x in
    let e₂ : r ≡ costs_at s k (at + 4) (suc j) (set costs j x) = g.3 ∙ ap (λ (z : ℕ). costs_at s k (at + 4) z (set costs j x)) (add-one j) in
    let ih = costs_bytes s b k (at + 4) (suc j) (set costs j x) (omega arith) r h e₂ in
    let ci = costs_in s k (at + 4) (suc j) (set costs j x) (omega arith) r h e₂ in
    let mine : get_or r.costs j 0 ≡ x = ci.below j (omega arith) ∙ get_or-set_same costs j x 0 (omega arith) in
    let rest : List ℕ = join_from k (suc j) (λ u. bytes4 (get_or r.costs u 0)) in
    let t = ticks_bytes 0 s at x b g.1 in
    let m = at_sum s (at + 4 + 4 * k) (at + 4 * suc k) (omega arith) in
    t ∙ ap (λ (z : List ℕ). bytes4 x ++ z) (ih ∙ ap (λ (z : List ℕ). rest ++ z) m)
    ∙ sym (append_assoc (bytes4 x) rest (drop (at + 4 * suc k) s))
    ∙ ap (λ (z : ℕ). (bytes4 z ++ rest) ++ drop (at + 4 * suc k) s) (sym mine)

-- ---- a task
unfoldable pub body : ℕ → ℕ → ℕ → (ℕ → ℕ) → List ℕ → List ℕ
body v d t c ks = 0x54 ∷ 0x4B ∷ v ∷ length ks ∷ (bytes4 d ++ bytes4 t ++ in_order v (λ u. bytes4 (c u)) ++ edge_bytes ks)

join_task : (s : List ℕ) (at v e d t : ℕ) (cs ks : List ℕ) → drop at s ≡ 0x54 ∷ 0x4B ∷ drop (at + 2) s → drop (at + 2) s ≡ v ∷ drop (at + 3) s → drop (at + 3) s ≡ e ∷ drop (at + 4) s
    → drop (at + 4) s ≡ bytes4 d ++ drop (at + 8) s → drop (at + 8) s ≡ bytes4 t ++ drop (at + 12) s → drop (at + 12) s ≡ cs ++ drop (at + 12 + 4 * v) s
    → drop (at + 12 + 4 * v) s ≡ edge_bytes ks ++ drop (at + 12 + 4 * v + 2 * e) s → length ks ≡ e
    → drop at s ≡ (0x54 ∷ 0x4B ∷ v ∷ length ks ∷ (bytes4 d ++ bytes4 t ++ cs ++ edge_bytes ks)) ++ drop (at + 12 + 4 * v + 2 * e) s
join_task s at v e d t cs ks b₁ b₂ b₃ b₄ b₅ b₆ b₇ n =
    b₁ ∙ ap (λ (z : List ℕ). 0x54 ∷ 0x4B ∷ z) (b₂ ∙ ap (λ (z : List ℕ). v ∷ z) (b₃ ∙ ap (λ (z : ℕ). z ∷ drop (at + 4) s) (sym n) ∙ ap (λ (z : List ℕ). length ks ∷ z) rest))
  where
    rest : drop (at + 4) s ≡ (bytes4 d ++ bytes4 t ++ cs ++ edge_bytes ks) ++ drop (at + 12 + 4 * v + 2 * e) s
    rest = b₄ ∙ ap (λ (z : List ℕ). bytes4 d ++ z) (b₅ ∙ ap (λ (z : List ℕ). bytes4 t ++ z) (b₆ ∙ ap (λ (z : List ℕ). cs ++ z) b₇)) ∙ sym (simp append_assoc)

-- the keys of a task's edges
unfoldable pub keys_of : Task → List ℕ
keys_of a = those_below (16 * a.v) (λ x. edge a.succ (x / 16) (x % 16))

pub task_bytes_lem : (s : List ℕ) → Bytes s → (at : ℕ) (r : TaskRead) → r.outcome ≡ Read → r ≡ task_at s at
    → drop at s ≡ body r.task.v r.task.d r.task.t (λ u. get_or r.costs u 0) (keys_of r.task) ++ drop r.next s
unfolding body keys_of no_costs in_order
task_bytes_lem s b at r h q =
    let w = task_went s at r h q in
    let v = w.v in
    let e = w.e in
    let d = w.d in
    let t = w.t in
    let v16 = w.v_range.1 in
    let c : CostsRead = costs_at s v (at + 12) 0 no_costs in
    let g : EdgesRead = edges_at v s e (at + 12 + 4 * v) 0 no_succ in
    let ea = edges_are v v16 s e (at + 12 + 4 * v) 0 no_succ g w.edges_read refl in
    let ka = keys_are v v16 ea.ks ea.ends ea.asc in
    let mine : r.task ≡ record { v = v; d = d; t = t; succ = add_all no_succ ea.ks } =
    w.task_is ∙ ap (λ (z : List ℕ). record { v = v; d = d; t = t; succ = z }) ea.new_is in
    let b₁ = mark_bytes 0x4B s at w.x w.mark_is in
    let b₂ = byte_bytes 1 16 s (at + 2) v w.v_is ∙ ap (λ (z : List ℕ). v ∷ z) (at_sum s (at + 2 + 1) (at + 3) (omega arith)) in
    let b₃ = byte_bytes 0 120 s (at + 3) e w.e_is ∙ ap (λ (z : List ℕ). e ∷ z) (at_sum s (at + 3 + 1) (at + 4) (omega arith)) in
    let b₄ = ticks_bytes 1 s (at + 4) d b w.d_is ∙ ap (λ (z : List ℕ). bytes4 d ++ z) (at_sum s (at + 4 + 4) (at + 8) (omega arith)) in
    let b₅ = ticks_bytes 1 s (at + 8) t b (period_is d s (at + 8) t w.t_is) ∙ ap (λ (z : List ℕ). bytes4 t ++ z) (at_sum s (at + 8 + 4) (at + 12) (omega arith)) in
    let b₆ = costs_bytes s b v (at + 12) 0 no_costs (omega arith) c w.costs_read refl in
    let b₇ = ea.bytes ∙ ap (λ (x : List ℕ). edge_bytes x ++ drop (at + 12 + 4 * v + 2 * e) s) (sym ka) in
    let nx : ℕ = at + 12 + 4 * v + 2 * e in
    join_task s at v e d t (join_from v 0 (λ u. bytes4 (get_or c.costs u 0))) (those_below (16 * v) (λ x. edge (add_all no_succ ea.ks) (x / 16) (x % 16)))
    b₁ b₂ b₃ b₄ b₅ b₆ b₇ (ap length ka ∙ ea.many)
    ∙ ap (λ (a : Task). body a.v a.d a.t (λ u. get_or c.costs u 0) (keys_of a) ++ drop nx s) (sym mine)
    ∙ ap (λ (z : List ℕ). body r.task.v r.task.d r.task.t (λ u. get_or z u 0) (keys_of r.task) ++ drop nx s) (sym w.costs_are)
    ∙ ap (λ (z : ℕ). body r.task.v r.task.d r.task.t (λ u. get_or r.costs u 0) (keys_of r.task) ++ drop z s) (sym w.next_is)
