-- The bytes that a good table stands for are bytes: each below 256.
use mathlib.Core.Path.{◌≡◌}
use mathlib.Core.Bool.{true}
use mathlib.Core.List.{List, [], ◌∷◌, ◌++◌}
use Prim.Native.Nat.{ℕ, zero, suc, ◌+◌, ◌≤◌, ◌<◌}
use native.Mathlib.Omega.{arith}
use Rattle.table.specs.declared.Table.{Table}
use Rattle.graph.specs.Words.{is_in, join_from, in_order}
use Rattle.graph.proofs.Facts.{first_in, tail_in}
use Rattle.table.specs.Memory.{vertices, D, T, cost}
use Rattle.table.specs.Writing.{bytes4, edge_keys, edge_bytes, encode_task, encode}
use Rattle.table.specs.Good.{GoodTable}
use Rattle.table.proofs.FieldBytes.{Bytes}
use Rattle.table.proofs.EdgeKeys.{key_edge}

-- the same by the list
unfoldable pub AllBytes : List ℕ → Type 0
AllBytes [] = Unit {0}
AllBytes (x ∷ l) = (x < 256) × AllBytes l

pub each_byte : (l : List ℕ) → AllBytes l → Bytes l
unfolding AllBytes
each_byte [] h i = omega arith
each_byte (x ∷ l) h zero = h.0
each_byte (x ∷ l) h (suc i) = each_byte l h.1 i

bytes_append : (a l : List ℕ) → AllBytes a → AllBytes l → AllBytes (a ++ l)
unfolding AllBytes
bytes_append [] l ha hl = hl
bytes_append (x ∷ a) l ha hl = (ha.0, bytes_append a l ha.1 hl)

four_lists : (a b c d : List ℕ) → AllBytes a → AllBytes b → AllBytes c → AllBytes d → AllBytes (a ++ b ++ c ++ d)
four_lists a b c d ha hb hc hd = bytes_append (a ++ b ++ c) d (bytes_append (a ++ b) c (bytes_append a b ha hb) hc) hd

four_bytes : (x : ℕ) → AllBytes (bytes4 x)
unfolding bytes4 AllBytes
four_bytes x = (omega arith, (omega arith, (omega arith, (omega arith, tt))))

join_bytes : (k i : ℕ) (f : ℕ → List ℕ) → ((u : ℕ) → i ≤ u → u < i + k → AllBytes (f u)) → AllBytes (join_from k i f)
unfolding join_from AllBytes
join_bytes zero i f h = tt
join_bytes (suc k) i f h = bytes_append (f i) (join_from k (suc i) f) (h i (omega arith) (omega arith)) (join_bytes k (suc i) f (λ u a b. h u (omega arith) (omega arith)))

edge_bytes_lem : (ks : List ℕ) → ((k : ℕ) → is_in k ks ≡ true → k < 256) → AllBytes (edge_bytes ks)
unfolding edge_bytes AllBytes
edge_bytes_lem [] h = tt
edge_bytes_lem (k ∷ ks) h = let b = h k (first_in k ks) in (omega arith, (omega arith, edge_bytes_lem ks (λ x e. h x (tail_in x k ks e))))

module _ (t : Table) (good : GoodTable t) where
  task_is_bytes : (i : ℕ) → i < t.n → AllBytes (encode_task t i)
  unfolding encode_task in_order AllBytes
  task_is_bytes i b =
      let v = (good.each i b).v_high in
      let e = (good.each i b).e_high in
      let cs = join_bytes (vertices t i) 0 (λ u. bytes4 (cost t i u)) (λ u x y. four_bytes (cost t i u)) in
      let ks = edge_bytes_lem (edge_keys t i) (λ k z. let o = (key_edge t i k z).0 in omega arith) in
      let rest = four_lists (bytes4 (D t i)) (bytes4 (T t i)) (join_from (vertices t i) 0 (λ u. bytes4 (cost t i u))) (edge_bytes (edge_keys t i))
      (four_bytes (D t i)) (four_bytes (T t i)) cs ks in
      (omega arith, (omega arith, (omega arith, (omega arith, rest))))

  pub encode_bytes : Bytes (encode t)
  unfolding encode in_order AllBytes
  encode_bytes =
      let m = good.m_high in
      let n = good.n_high in
      each_byte (0x54 ∷ 0x42 ∷ t.m ∷ t.n ∷ join_from t.n 0 (encode_task t))
      (omega arith, (omega arith, (omega arith, (omega arith, join_bytes t.n 0 (encode_task t) (λ i x y. task_is_bytes i (omega arith))))))
