-- The edges vertex by vertex are the table's edges in order: `keys_of` is `edge_keys`. How many they are, and that they ascend.
use mathlib.Core.Path.{◌≡◌, refl, sym, ap, ◌∙◌}
use mathlib.Core.Bool.{Bool, true, false}
use mathlib.Core.List.{List, ◌++◌}
use Prim.Native.Nat.{ℕ, zero, suc, ◌+◌, ◌*◌, ◌/◌, ◌%◌, ◌^◌, ◌<◌}
use native.Mathlib.Omega.{arith}
use native.Mathlib.Numerals.{one-add}
use native.Mathlib.Nat.{add-zero, zero-add, div-one}
use lib.ListN.{length, get_or}
use lib.Dec.{eqb}
use lib.Count.{ones, ones_step}
use lib.Pow.{shr-shr}
use Rattle.graph.specs.Words.{bit, row_from, row, also_if, those, those_below, join_from, in_order}
use Rattle.graph.specs.Graph.{edge}
use Rattle.table.specs.declared.Table.{Table}
use Rattle.table.specs.Memory.{vertices, succ, edge_in}
use Rattle.table.specs.Writing.{edge_keys}
use Rattle.checks.specs.Checking.{row_keys, keys_of}
use Rattle.table.proofs.Ascending.{Asc, keys_asc}

-- bit 0, and the bits above it
pub bit_low : (x : ℕ) → bit x 0 ≡ eqb (x % 2) 1
unfolding bit
bit_low x = ap (λ (n : ℕ). eqb (n % 2) 1) (div-one x)

pub bit_up : (x j : ℕ) → bit x (suc j) ≡ bit (x / 2) j
unfolding bit
bit_up x j = rw one-add at (ap (λ (n : ℕ). eqb (n % 2) 1) (sym (shr-shr x 1 j)))

also_append : (b : Bool) (x : ℕ) (l r : List ℕ) → also_if b x (l ++ r) ≡ also_if b x l ++ r
unfolding also_if
also_append true x l r = refl
also_append false x l r = refl

-- the numbers from a on that pass, in two parts
pub those_split : (p : ℕ → Bool) (m n a : ℕ) → those p (row_from (m + n) a (λ j. j)) ≡ those p (row_from m a (λ j. j)) ++ those p (row_from n (a + m) (λ j. j))
unfolding those row_from
those_split p zero n a =
    let z : a ≡ a + 0 = sym (add-zero a) in
    let y : 0 + n ≡ n = omega arith in
    ap (λ (k : ℕ). those p (row_from k a (λ j. j))) y ∙ ap (λ (k : ℕ). those p (row_from n k (λ j. j))) z
those_split p (suc m) n a =
    let y : suc m + n ≡ suc (m + n) = omega arith in
    let z : suc a + m ≡ a + suc m = omega arith in
    ap (λ (k : ℕ). those p (row_from k a (λ j. j))) y
    ∙ ap (also_if (p a) a) (those_split p m n (suc a) ∙ ap (λ (k : ℕ). those p (row_from m (suc a) (λ j. j)) ++ those p (row_from n k (λ j. j))) z)
    ∙ also_append (p a) a (those p (row_from m (suc a) (λ j. j))) (those p (row_from n (a + suc m) (λ j. j)))

-- a vertex's keys are those whose bits are set
row_keys_lem : (p : ℕ → Bool) (k u w x : ℕ) → ((j : ℕ) → j < k → p (16 * u + w + j) ≡ bit x j) → row_keys k u w x ≡ those p (row_from k (16 * u + w) (λ j. j))
unfolding row_keys those row_from
row_keys_lem p zero u w x h = refl
row_keys_lem p (suc k) u w x h =
    let z : 16 * u + w + 0 ≡ 16 * u + w = add-zero (16 * u + w) in
    let q : 16 * u + (w + 1) ≡ suc (16 * u + w) = omega arith in
    let b : p (16 * u + w) ≡ eqb (x % 2) 1 = ap p (sym z) ∙ h 0 (omega arith) ∙ bit_low x in
    let i = row_keys_lem p k u (w + 1) (x / 2) (λ j l.
    let e : 16 * u + (w + 1) + j ≡ 16 * u + w + suc j = omega arith in
    ap p e ∙ h (suc j) (omega arith) ∙ bit_up x j) in
    ap (λ (c : Bool). also_if c (16 * u + w) (row_keys k u (w + 1) (x / 2))) (sym b)
    ∙ ap (also_if (p (16 * u + w)) (16 * u + w)) (i ∙ ap (λ (n : ℕ). those p (row_from k n (λ j. j))) q)

module _ (succ : List ℕ) where
  abbrev led : ℕ → Bool
  led k = edge succ (k / 16) (k % 16)

  led_at : (u j : ℕ) → j < 16 → led (16 * u + 0 + j) ≡ bit (get_or succ u 0) j
  unfolding edge
  led_at u j h =
      let a : (16 * u + 0 + j) / 16 ≡ u = omega arith in
      let b : (16 * u + 0 + j) % 16 ≡ j = omega arith in
      rw (a, b)

  rows_keys : (k u : ℕ) → join_from k u (λ u. row_keys 16 u 0 (get_or succ u 0)) ≡ those led (row_from (16 * k) (16 * u) (λ j. j))
  unfolding join_from row_from those
  rows_keys zero u = refl
  rows_keys (suc k) u =
      let z : 16 * u + 0 ≡ 16 * u = add-zero (16 * u) in
      let y : 16 * suc u ≡ 16 * u + 16 = omega arith in
      let n : 16 + 16 * k ≡ 16 * suc k = omega arith in
      let a = row_keys_lem led 16 u 0 (get_or succ u 0) (led_at u) ∙ ap (λ (x : ℕ). those led (row_from 16 x (λ j. j))) z in
      let b = rows_keys k (suc u) ∙ ap (λ (x : ℕ). those led (row_from (16 * k) x (λ j. j))) y in
      ap (λ (l : List ℕ). l ++ join_from k (suc u) (λ u. row_keys 16 u 0 (get_or succ u 0))) a
      ∙ ap (λ (l : List ℕ). those led (row_from 16 (16 * u) (λ j. j)) ++ l) b
      ∙ sym (those_split led 16 (16 * k) (16 * u))
      ∙ ap (λ (x : ℕ). those led (row_from x (16 * u) (λ j. j))) n

  pub keys_below : (v : ℕ) → keys_of v succ ≡ those_below (16 * v) led
  unfolding keys_of in_order those_below row
  keys_below v = rows_keys v 0

-- THE EDGES VERTEX BY VERTEX ARE THE TABLE'S EDGES
pub keys_are : (t : Table) (i : ℕ) → keys_of (vertices t i) (succ t i) ≡ edge_keys t i
unfolding edge_keys edge_in
keys_are t i = keys_below (succ t i) (vertices t i)

-- how many: the set bits
no_ones : ones 0 ≡ 0
unfolding ones
no_ones = refl

also_many : (b x k : ℕ) (l : List ℕ) → b < 2 → length (also_if (eqb b 1) x l) ≡ b + length l
unfolding also_if
also_many zero x k l h = sym (zero-add (length l))
also_many (suc zero) x k l h = sym (one-add (length l))
also_many (suc (suc b)) x k l h = absurd (omega arith)

pub row_many : (k u w x : ℕ) → x < 2 ^ k → length (row_keys k u w x) ≡ ones x
unfolding row_keys
row_many zero u w x h = let z : x ≡ 0 = omega arith in rw z (sym no_ones)
row_many (suc k) u w x h =
    also_many (x % 2) (16 * u + w) k (row_keys k u (w + 1) (x / 2)) (omega arith)
    ∙ ap (λ (n : ℕ). x % 2 + n) (row_many k u (w + 1) (x / 2) (omega arith)) ∙ sym (ones_step x)

-- they ascend
pub keys_of_asc : (v : ℕ) (succ : List ℕ) → Asc 0 (16 * v) (keys_of v succ)
unfolding those_below row
keys_of_asc v succ = rw (keys_below succ v) (keys_asc (led succ) (16 * v) 0 (16 * v) (omega arith))
