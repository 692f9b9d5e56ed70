-- Where the fields of a task stand, among the bytes that a table stands for.
use mathlib.Core.Path.{◌≡◌, refl, sym, ap, ◌∙◌}
use mathlib.Core.List.{List, [], ◌∷◌, ◌++◌, append_assoc}
use Prim.Native.Nat.{ℕ, zero, suc, ◌+◌, ◌*◌}
use native.Mathlib.Omega.{arith}
use lib.ListN.{length, drop, length-append}
use lib.Seq.{drop-drop}
use Rattle.table.specs.declared.Table.{Table}
use Rattle.graph.specs.Words.{join_from, in_order}
use Rattle.table.specs.Memory.{vertices, D, T, cost}
use Rattle.table.specs.Writing.{bytes4, edge_keys, edge_bytes, encode_task}
use Rattle.table.proofs.FieldForth.{at_eq, next_four}

after_costs : (s : List ℕ) (k at j : ℕ) (f : ℕ → ℕ) (r : List ℕ) → drop at s ≡ join_from k j (λ u. bytes4 (f u)) ++ r → drop (at + 4 * k) s ≡ r
unfolding join_from
after_costs s zero at j f r e = at_eq s at (at + 4 * 0) r (omega arith) e
after_costs s (suc k) at j f r e =
    let e₂ = e ∙ append_assoc (bytes4 (f j)) (join_from k (suc j) (λ u. bytes4 (f u))) r in
    at_eq s (at + 4 + 4 * k) (at + 4 * suc k) r (omega arith) (after_costs s k (at + 4) (suc j) f r (next_four s at (f j) _ e₂))

after_edges : (s ks : List ℕ) (at : ℕ) (r : List ℕ) → drop at s ≡ edge_bytes ks ++ r → drop (at + 2 * length ks) s ≡ r
unfolding edge_bytes
after_edges s [] at r e = at_eq s at (at + 2 * 0) r (omega arith) e
after_edges s (k ∷ ks) at r e =
    at_eq s (at + 2 + 2 * length ks) (at + 2 * suc (length ks)) r (omega arith) (after_edges s ks (at + 2) r (sym (drop-drop 2 at s) ∙ ap (drop 2) e))

pub costs_long : (k j : ℕ) (f : ℕ → ℕ) → length (join_from k j (λ u. bytes4 (f u))) ≡ 4 * k
unfolding join_from bytes4
costs_long zero j f = refl
costs_long (suc k) j f = let h = costs_long k (suc j) f in omega arith

pub edges_long : (ks : List ℕ) → length (edge_bytes ks) ≡ 2 * length ks
unfolding edge_bytes
edges_long [] = refl
edges_long (k ∷ ks) = let h = edges_long ks in omega arith

-- how far a task reaches
pub task_length : (t : Table) (i at : ℕ) → at + 12 + 4 * vertices t i + 2 * length (edge_keys t i) ≡ at + length (encode_task t i)
unfolding encode_task in_order bytes4
task_length t i at =
    let a = length-append (bytes4 (D t i) ++ bytes4 (T t i) ++ join_from (vertices t i) 0 (λ u. bytes4 (cost t i u))) (edge_bytes (edge_keys t i)) in
    let b = length-append (bytes4 (D t i) ++ bytes4 (T t i)) (join_from (vertices t i) 0 (λ u. bytes4 (cost t i u))) in
    let c = costs_long (vertices t i) 0 (cost t i) in
    let d = edges_long (edge_keys t i) in
    omega arith

-- ---- a task of t stands at a place
module _ (t : Table) (s : List ℕ) (at i : ℕ) (r : List ℕ) (e : drop at s ≡ encode_task t i ++ r) where
  abbrev v : ℕ
  v = vertices t i

  abbrev ks : List ℕ
  ks = edge_keys t i

  abbrev cs : List ℕ
  cs = join_from v 0 (λ u. bytes4 (cost t i u))

  pub at_mark : drop at s ≡ 0x54 ∷ 0x4B ∷ v ∷ length ks ∷ (bytes4 (D t i) ++ (bytes4 (T t i) ++ (cs ++ (edge_bytes ks ++ r))))
  unfolding encode_task in_order
  at_mark = e ∙ simp append_assoc

  pub at_v : drop (at + 2) s ≡ v ∷ length ks ∷ (bytes4 (D t i) ++ (bytes4 (T t i) ++ (cs ++ (edge_bytes ks ++ r))))
  at_v = sym (drop-drop 2 at s) ∙ ap (drop 2) at_mark

  pub at_e : drop (at + 3) s ≡ length ks ∷ (bytes4 (D t i) ++ (bytes4 (T t i) ++ (cs ++ (edge_bytes ks ++ r))))
  at_e = sym (drop-drop 3 at s) ∙ ap (drop 3) at_mark

  pub at_D : drop (at + 4) s ≡ bytes4 (D t i) ++ (bytes4 (T t i) ++ (cs ++ (edge_bytes ks ++ r)))
  at_D = sym (drop-drop 4 at s) ∙ ap (drop 4) at_mark

  pub at_T : drop (at + 8) s ≡ bytes4 (T t i) ++ (cs ++ (edge_bytes ks ++ r))
  at_T = at_eq s (at + 4 + 4) (at + 8) _ (omega arith) (next_four s (at + 4) (D t i) _ at_D)

  pub at_costs : drop (at + 12) s ≡ cs ++ (edge_bytes ks ++ r)
  at_costs = at_eq s (at + 8 + 4) (at + 12) _ (omega arith) (next_four s (at + 8) (T t i) _ at_T)

  pub at_edges : drop (at + 12 + 4 * v) s ≡ edge_bytes ks ++ r
  at_edges = after_costs s v (at + 12) 0 (cost t i) (edge_bytes ks ++ r) at_costs

  pub task_after : drop (at + 12 + 4 * v + 2 * length ks) s ≡ r
  task_after = after_edges s ks (at + 12 + 4 * v) r at_edges
