-- Laws of the tests on a table, a step at a time, for the code's loops.
use mathlib.Core.Path.{◌≡◌, refl, sym, ap, ◌∙◌}
use mathlib.Core.Logic.{◌⊎◌, ⊎_elim}
use mathlib.Core.Bool.{Bool, true, false, ◌&&◌, not, and-false}
use mathlib.Core.List.{List, [], ◌∷◌, ◌++◌}
use Prim.Native.Nat.{ℕ, zero, suc, ◌+◌, ◌*◌, ◌-◌, ◌/◌, ◌%◌, ◌^◌, ◌≤◌, ◌<◌}
use native.Mathlib.Omega.{arith}
use native.Mathlib.Numerals.{add-one}
use native.Mathlib.Nat.{sub-zero, div-lt_iff_lt-mul, div-eq_of_lt, lt_of_lt_of_le}
use native.Mathlib.Decide.{ℕ_discrete, dec_lt}
use lib.ListN.{length, get_or, take, drop, length-append, length-drop, replicate}
use lib.Seq.{ext_get_or, get_or-drop}
use Rattle.std.proofs.lemmas.List.{get_or-take, get_or_append_left, get_or-append_right, length-take-le}
use Rattle.table.proofs.Bits.{zeros_at}
use lib.Pow.{pow_pos, pow_mono}
use lib.Dec.{ltb, leb, eqb}
use borrow.Author.Tests.{eqb-true, lt-leb, lt-ltb, le-ltb, eq-eqb, ne_eqb}
use Rattle.graph.specs.Words.{pick, bit, also_if, join_from, in_order}
use Rattle.graph.proofs.Facts.{length_row, row_at}
use Rattle.graph.proofs.Members.{Took}
use Rattle.table.specs.declared.Outcome.{Outcome}
use Rattle.table.specs.declared.Outcome.TheVariants.{Ticks, Edge}
use Rattle.std.specs.Prelude.{Result, Ok, Err}
use Rattle.table.specs.Reading.{onward, ranged}
use Rattle.checks.specs.Checking.{row_keys, keys_of, edges_of, edge_tested, edges_tested, costs_tested, used_rows}
use Rattle.checks.proofs.Keys.{bit_low, bit_up}
use Rattle.checks.proofs.RowSteps.{row_took, no_bits}
use Rattle.table.proofs.Edges.{slot}
use Rattle.table.proofs.FieldLaws.{past, ranged_got}

-- ---- parts joined in order: the next one, and the end
pub join_next : (f : ℕ → List ℕ) (n u : ℕ) → u < n → join_from (n - u) u f ≡ f u ++ join_from (n - (u + 1)) (u + 1) f
unfolding join_from
join_next f n u h =
    let q : n - u ≡ suc (n - (u + 1)) = omega arith in
    ap (λ (k : ℕ). join_from k u f) q ∙ ap (λ (k : ℕ). f u ++ join_from (n - (u + 1)) k f) (sym (add-one u))

pub join_end : (f : ℕ → List ℕ) (n u : ℕ) → n ≤ u → join_from (n - u) u f ≡ []
unfolding join_from
join_end f n u h = let q : n - u ≡ 0 = omega arith in ap (λ (k : ℕ). join_from k u f) q

-- ---- the edges from vertex u on
unfoldable pub keys_from : ℕ → List ℕ → ℕ → List ℕ
keys_from v succ u = join_from (v - u) u (λ u. row_keys 16 u 0 (get_or succ u 0))

pub keys_start : (v : ℕ) (succ : List ℕ) → keys_from v succ 0 ≡ keys_of v succ
unfolding keys_from keys_of in_order
keys_start v succ = ap (λ (k : ℕ). join_from k 0 (λ u. row_keys 16 u 0 (get_or succ u 0))) (sub-zero v)

pub keys_next : (v : ℕ) (succ : List ℕ) (u : ℕ) → u < v → keys_from v succ u ≡ row_keys 16 u 0 (get_or succ u 0) ++ keys_from v succ (u + 1)
unfolding keys_from
keys_next v succ u h = join_next _ v u h

pub keys_end : (v : ℕ) (succ : List ℕ) (u : ℕ) → v ≤ u → keys_from v succ u ≡ []
unfolding keys_from
keys_end v succ u h = join_end _ v u h

-- ---- how many edges there are
pub edges_past : (v : ℕ) (succ : List ℕ) → 16 < v → 0 ≡ edges_of v succ
unfolding edges_of
edges_past v succ h = rw (lt-ltb 16 v h) refl

pub edges_counted : (v : ℕ) (succ : List ℕ) → v ≤ 16 → length (keys_of v succ) ≡ edges_of v succ
unfolding edges_of
edges_counted v succ h = rw (le-ltb 16 v h) refl

abbrev pub done : ℕ → Result ℕ Outcome
done n = Ok n

-- ---- a number held to its range
pub same_range : (outside : ℕ → Outcome) (lo hi at x y : ℕ) → x ≡ y → ranged (λ _. outside at) lo hi 0 x ≡ ranged outside lo hi at y
unfolding ranged
same_range outside lo hi at x y q = rw q refl

-- ---- costs
module _ (costs : List ℕ) (k j p slot : ℕ) (e : k ≡ suc j) where
  pub costs_over : 1000000 < get_or costs slot 0 → Err (Ticks p) ≡ costs_tested costs k p slot
  unfolding costs_tested ranged
  costs_over h = rw (e, lt-leb (get_or costs slot 0) 1000000 h, and-false (leb 0 (get_or costs slot 0)))

  pub costs_more : (slot' : ℕ) → slot' ≡ slot + 1 → get_or costs slot 0 ≤ 1000000 → costs_tested costs j (p + 4) slot' ≡ costs_tested costs k p slot
  unfolding costs_tested
  costs_more slot' q l = rw (e, q, ← ranged_got Ticks 0 1000000 p (get_or costs slot 0) (omega arith) l)

pub costs_end : (costs : List ℕ) (k p slot : ℕ) → k ≡ 0 → Ok p ≡ costs_tested costs k p slot
unfolding costs_tested
costs_end costs k p slot e = rw e

pub costs_next : (costs : List ℕ) (k at slot n : ℕ) → Ok n ≡ costs_tested costs k at slot → n ≡ at + 4 * k
unfolding costs_tested
costs_next costs zero at slot n h = let z : n ≡ at = cc in omega arith
costs_next costs (suc k) at slot n h =
    let p = past (ranged Ticks 0 1000000 at (get_or costs slot 0)) _ n h in
    let i = costs_next costs k (at + 4) (slot + 1) n p.2 in
    omega arith

-- ---- an edge
module _ (v u w at : ℕ) (b : w < 16) where
  pub to_high : v ≤ w → edge_tested v (16 * u + w) at ≡ Err (Edge at)
  unfolding edge_tested
  to_high h = rw ((slot u w b).1, le-ltb w v h)

  pub to_same : u ≡ w → edge_tested v (16 * u + w) at ≡ Err (Edge at)
  unfolding edge_tested
  to_same h = rw ((slot u w b).1, (slot u w b).0, eq-eqb u w h, and-false (ltb w v))

  pub to_other : w < v → (u ≡ w → ⊥) → edge_tested v (16 * u + w) at ≡ Ok (16 * u + w)
  unfolding edge_tested
  to_other h n = rw ((slot u w b).1, (slot u w b).0, lt-ltb w v h, ne_eqb u w n)

-- ---- the edges of a vertex, bit by bit
module _ (v k j u w x p : ℕ) (e : k ≡ suc j) (b : w < 16) where
  row_set : x % 2 ≡ 1 → row_keys k u w x ≡ (16 * u + w) ∷ row_keys j u (w + 1) (x / 2)
  unfolding row_keys also_if
  row_set h = rw (e, eq-eqb (x % 2) 1 h)

  row_clear : (x % 2 ≡ 1 → ⊥) → row_keys k u w x ≡ row_keys j u (w + 1) (x / 2)
  unfolding row_keys also_if
  row_clear h = rw (e, ne_eqb (x % 2) 1 h)

  walk_pass : x % 2 ≡ 1 → w < v → (u ≡ w → ⊥) → edges_tested v (row_keys j u (w + 1) (x / 2)) (p + 2) ≡ edges_tested v (row_keys k u w x) p
  unfolding edges_tested
  walk_pass h l n = rw (row_set h, to_other v u w p b l n)

  walk_skip : (x % 2 ≡ 1 → ⊥) → edges_tested v (row_keys j u (w + 1) (x / 2)) p ≡ edges_tested v (row_keys k u w x) p
  walk_skip h = rw (row_clear h)

-- ---- the same, member by member
module _ (v u w x y p : ℕ) (t : Took x w y) where
  pub member_bad : (v ≤ w) ⊎ ((w < v) × (u ≡ w)) → Err (Edge p) ≡ edges_tested v (row_keys 16 u 0 x) p
  unfolding edges_tested
  member_bad q = let e = ⊎_elim (λ l. to_high v u w p t.below l) (λ l. to_same v u w p t.below l.1) q in rw (row_took u x w y t, e)

  pub member_passes : w < v → (u ≡ w → ⊥) → edges_tested v (row_keys 16 u 0 y) (p + 2) ≡ edges_tested v (row_keys 16 u 0 x) p
  unfolding edges_tested
  member_passes l n = rw (row_took u x w y t, to_other v u w p t.below l n)

pub member_none : (v u x p : ℕ) → x ≡ 0 → Ok p ≡ edges_tested v (row_keys 16 u 0 x) p
unfolding edges_tested
member_none v u x p e = rw (no_bits 16 u 0 x e)

-- ---- a vertex whose bits are all let through
pub row_passes : (v k u w x p : ℕ) → w + k ≤ 16 → ((j : ℕ) → j < k → bit x j ≡ true → (w + j < v) × (u ≡ w + j → ⊥))
    → Ok (p + 2 * length (row_keys k u w x)) ≡ edges_tested v (row_keys k u w x) p
unfolding edges_tested row_keys
row_passes v zero u w x p b h = let z : p + 2 * 0 ≡ p = omega arith in ap done z
row_passes v (suc k) u w x p b h = go (λ q. row_passes v k u (w + 1) (x / 2) q (omega arith) rest) (ℕ_discrete (x % 2) 1)
  where
    rest : (j : ℕ) → j < k → bit (x / 2) j ≡ true → (w + 1 + j < v) × (u ≡ w + 1 + j → ⊥)
    rest j l e = let q = h (suc j) (omega arith) (bit_up x j ∙ e) in let a = q.0 in (omega arith, λ z. q.1 (omega arith))

    go : ((q : ℕ) → Ok (q + 2 * length (row_keys k u (w + 1) (x / 2))) ≡ edges_tested v (row_keys k u (w + 1) (x / 2)) q)
        → Dec (x % 2 ≡ 1) → Ok (p + 2 * length (row_keys (suc k) u w x)) ≡ edges_tested v (row_keys (suc k) u w x) p
    go i (yes e) =
        let q = h 0 (omega arith) (bit_low x ∙ eq-eqb (x % 2) 1 e) in
        let l = q.0 in
        let m = ap length (row_set v (suc k) k u w x p refl (omega arith) e) in
        let n : p + 2 * length (row_keys (suc k) u w x) ≡ p + 2 + 2 * length (row_keys k u (w + 1) (x / 2)) = omega arith in
        ap done n ∙ i (p + 2)
        ∙ walk_pass v (suc k) k u w x p refl (omega arith) e (omega arith) (λ z. q.1 (omega arith))
    go i (no e) =
        let m = ap length (row_clear v (suc k) k u w x p refl (omega arith) e) in
        let n : p + 2 * length (row_keys (suc k) u w x) ≡ p + 2 * length (row_keys k u (w + 1) (x / 2)) = omega arith in
        ap done n ∙ i p
        ∙ walk_skip v (suc k) k u w x p refl (omega arith) e

-- no bit from v on, and not bit u
pub bits_pass : (v u x : ℕ) → x / 2 ^ v ≡ 0 → x / 2 ^ u % 2 ≡ 0 → (j : ℕ) → j < 16 → bit x j ≡ true → (0 + j < v) × (u ≡ 0 + j → ⊥)
unfolding bit
bits_pass v u x h n j l e = (low, λ z. other z)
  where
    small : x < 2 ^ v
    small = let d : x / 2 ^ v < 1 = omega arith in let m = (div-lt_iff_lt-mul (pow_pos v)).0 d in omega arith

    low : 0 + j < v
    low = elim (dec_lt j v) [
      | yes q ↦ omega arith
      | no q ↦
          let z : x / 2 ^ j ≡ 0 = div-eq_of_lt (lt_of_lt_of_le small (pow_mono (omega arith))) in
          let o = eqb-true (x / 2 ^ j % 2) 1 e in
          absurd (omega arith)
    ]

    other : u ≡ 0 + j → ⊥
    other z =
        let q : u ≡ j = omega arith in
        let o = ap (λ (k : ℕ). x / 2 ^ k % 2) q ∙ eqb-true (x / 2 ^ j % 2) 1 e in
        omega arith

-- ---- edges after edges
pub edges_append : (v : ℕ) (xs ys : List ℕ) (p : ℕ) → edges_tested v (xs ++ ys) p ≡ onward (edges_tested v xs p) Err (λ q. edges_tested v ys q)
unfolding edges_tested edge_tested
edges_append v [] ys p = refl
edges_append v (k ∷ xs) ys p = go (ltb (k % 16) v && not (eqb (k / 16) (k % 16))) (edges_append v xs ys (p + 2))
  where
    go : (b : Bool) → edges_tested v (xs ++ ys) (p + 2) ≡ onward (edges_tested v xs (p + 2)) Err (λ q. edges_tested v ys q)
        → onward (pick b (Ok k) (Err (Edge p))) Err (λ _. edges_tested v (xs ++ ys) (p + 2))
        ≡ onward (onward (pick b (Ok k) (Err (Edge p))) Err (λ _. edges_tested v xs (p + 2))) Err (λ q. edges_tested v ys q)
    go true h = h
    go false h = refl

pub edges_next : (v : ℕ) (ks : List ℕ) (p n : ℕ) → Ok n ≡ edges_tested v ks p → n ≡ p + 2 * length ks
unfolding edges_tested
edges_next v [] p n h = let z : n ≡ p = cc in omega arith
edges_next v (k ∷ ks) p n h =
    let a = past (edge_tested v k p) _ n h in
    let i = edges_next v ks (p + 2) n a.2 in
    omega arith

-- ---- the rows of the first vertices, one more
used_long : (v : ℕ) (succ : List ℕ) → length (used_rows v succ) ≡ 16
unfolding used_rows
used_long v succ = length_row 16 _

used_at : (v : ℕ) (succ : List ℕ) (k : ℕ) → k < 16 → get_or (used_rows v succ) k 0 ≡ pick (ltb k v) (get_or succ k 0) 0
unfolding used_rows
used_at v succ k h = row_at 16 _ k 0 h

abbrev pub zeros : List ℕ
zeros = replicate 16 0

pub used_copied : (v : ℕ) (succ : List ℕ) → v ≤ 16 → length succ ≡ 16 → take v succ ++ drop v zeros ≡ used_rows v succ
used_copied v succ h n =
    let m : length (take v succ) ≡ v = length-take-le v succ (omega arith) in
    let d = length-drop v zeros in
    let a = length-append (take v succ) (drop v zeros) in
    let z : length zeros ≡ 16 = refl in
    let e : length (take v succ ++ drop v zeros) ≡ 16 = omega arith in
    ext_get_or 0 (take v succ ++ drop v zeros) (used_rows v succ) (e ∙ sym (used_long v succ)) (λ k l.
    let k16 : k < 16 = omega arith in
    elim (dec_lt k v) [
      | yes q ↦
          get_or_append_left (take v succ) (drop v zeros) 0 k (omega arith) ∙ get_or-take v succ k 0 q
          ∙ sym (used_at v succ k k16 ∙ ap (λ (b : Bool). pick b (get_or succ k 0) 0) (lt-ltb k v q))
      | no q ↦
          get_or-append_right (take v succ) (drop v zeros) v k 0 m (omega arith) ∙ get_or-drop v zeros (k - v) 0 ∙ zeros_at 16 (v + (k - v))
          ∙ sym (used_at v succ k k16 ∙ ap (λ (b : Bool). pick b (get_or succ k 0) 0) (le-ltb k v (omega arith)))
    ])

-- ---- the edges vertex by vertex: a vertex refused, one let through, the end
module _ (v : ℕ) (succ : List ℕ) (u p : ℕ) (h : u < v) where
  rows_next : edges_tested v (keys_from v succ u) p ≡ onward (edges_tested v (row_keys 16 u 0 (get_or succ u 0)) p) Err (λ q. edges_tested v (keys_from v succ (u + 1)) q)
  rows_next = rw (keys_next v succ u h) (edges_append v (row_keys 16 u 0 (get_or succ u 0)) (keys_from v succ (u + 1)) p)

  pub rows_stop : (o : Outcome) → Err o ≡ edges_tested v (row_keys 16 u 0 (get_or succ u 0)) p → Err o ≡ edges_tested v (keys_from v succ u) p
  rows_stop o e = sym (rows_next ∙ rw (← e) refl)

  pub rows_go : (q : ℕ) → Ok q ≡ edges_tested v (row_keys 16 u 0 (get_or succ u 0)) p → edges_tested v (keys_from v succ (u + 1)) q ≡ edges_tested v (keys_from v succ u) p
  rows_go q e = sym (rows_next ∙ rw (← e) refl)

pub rows_end : (v : ℕ) (succ : List ℕ) (u p : ℕ) → v ≤ u → Ok p ≡ edges_tested v (keys_from v succ u) p
unfolding edges_tested
rows_end v succ u p h = rw (keys_end v succ u h)
