-- The test of unused entries, entry by entry.
use mathlib.Core.Path.{◌≡◌, refl, sym, ap}
use mathlib.Core.Bool.{Bool, true, false, ◌&&◌, ◌||◌, and-false}
use mathlib.Core.List.{List}
use Prim.Native.Nat.{ℕ, zero, suc, ◌+◌, ◌*◌, ◌≤◌, ◌<◌}
use native.Mathlib.Omega.{arith}
use native.Mathlib.Decide.{ℕ_discrete}
use lib.ListN.{get_or}
use lib.Dec.{ltb, eqb}
use borrow.Author.Tests.{lt-ltb, le-ltb, eq-eqb, ne_eqb}
use Rattle.graph.specs.Words.{pick, all}
use Rattle.graph.proofs.Facts.{clash, all_at, all_of, off_when}
use Rattle.table.specs.declared.Task.{Task}
use Rattle.table.specs.declared.Table.{Table}
use Rattle.table.specs.Memory.{task, vertices, D, T, succ, cost}
use Rattle.table.specs.Writing.{zero_vertex, zero_entry, unused_zero}
use Rattle.checks.specs.Checking.{zero_from, unused_in}

-- ---- a test of each number below n
pub all_fails : (n : ℕ) (p : ℕ → Bool) (i : ℕ) → i < n → p i ≡ false → all n p ≡ false
all_fails n p i h e = off_when (all n p) (λ q. clash (all_at n p q i h) e)

all_same : (n : ℕ) (p q : ℕ → Bool) → ((i : ℕ) → p i ≡ q i) → all n p ≡ all n q
unfolding all
all_same zero p q h = refl
all_same (suc n) p q h = rw (h n, all_same n p q h)

-- ---- the vertices from a number on
module _ (succ costs : List ℕ) (slot from : ℕ) where
  unfoldable pub zero_at : ℕ → Bool
  zero_at u = ltb u from || (eqb (get_or costs (slot + u) 0) 0 && eqb (get_or succ u 0) 0)

  pub zero_all : ((u : ℕ) → u < 16 → zero_at u ≡ true) → true ≡ zero_from succ costs slot from
  unfolding zero_from zero_at
  zero_all h = sym (all_of 16 _ h)

  pub zero_before : (u : ℕ) → u < from → zero_at u ≡ true
  unfolding zero_at
  zero_before u h = rw (lt-ltb u from h)

  pub zero_here : (u : ℕ) → get_or costs (slot + u) 0 ≡ 0 → get_or succ u 0 ≡ 0 → zero_at u ≡ true
  unfolding zero_at
  zero_here u h k = rw (eq-eqb _ 0 h, eq-eqb _ 0 k) (or_right (ltb u from))
    where
      or_right : (b : Bool) → (b || true) ≡ true
      or_right true = refl
      or_right false = refl

  pub zero_not_cost : (u : ℕ) → from ≤ u → u < 16 → (get_or costs (slot + u) 0 ≡ 0 → ⊥) → false ≡ zero_from succ costs slot from
  unfolding zero_from
  zero_not_cost u l h n = sym (all_fails 16 _ u h (rw (le-ltb u from l, ne_eqb (get_or costs (slot + u) 0) 0 n)))

  pub zero_not_succ : (u : ℕ) → from ≤ u → u < 16 → (get_or succ u 0 ≡ 0 → ⊥) → false ≡ zero_from succ costs slot from
  unfolding zero_from
  zero_not_succ u l h n = sym (all_fails 16 _ u h (rw (le-ltb u from l, ne_eqb (get_or succ u 0) 0 n) (and-false (eqb (get_or costs (slot + u) 0) 0))))

-- ---- a task: used, or not
module _ (a : Task) (costs : List ℕ) (slot : ℕ) where
  pub in_used : zero_from a.succ costs slot a.v ≡ unused_in a costs slot true
  unfolding unused_in
  in_used = refl

  pub in_rest : a.v ≡ 0 → a.d ≡ 0 → a.t ≡ 0 → zero_from a.succ costs slot 0 ≡ unused_in a costs slot false
  unfolding unused_in
  in_rest v d t = rw (eq-eqb a.v 0 v, eq-eqb a.d 0 d, eq-eqb a.t 0 t)

  pub in_some : (a.v ≡ 0 → a.d ≡ 0 → a.t ≡ 0 → ⊥) → false ≡ unused_in a costs slot false
  unfolding unused_in
  in_some n = go (ℕ_discrete a.v 0) (ℕ_discrete a.d 0) (ℕ_discrete a.t 0)
    where
      go : Dec (a.v ≡ 0) → Dec (a.d ≡ 0) → Dec (a.t ≡ 0) → false ≡ (eqb a.v 0 && eqb a.d 0 && eqb a.t 0 && zero_from a.succ costs slot 0)
      go (yes v) (yes d) (yes t) = absurd (n v d t)
      go (no v) d t = rw (ne_eqb a.v 0 v)
      go (yes v) (no d) t = rw (eq-eqb a.v 0 v, ne_eqb a.d 0 d)
      go (yes v) (yes d) (no t) = rw (eq-eqb a.v 0 v, eq-eqb a.d 0 d, ne_eqb a.t 0 t)

-- ---- the table
module _ (t : Table) where
  unfoldable pub unused_at : ℕ → Bool
  unused_at i = unused_in (task t i) t.costs (16 * i) (ltb i t.n)

  pub at_used : (i : ℕ) → i < t.n → zero_from (task t i).succ t.costs (16 * i) (task t i).v ≡ unused_at i
  unfolding unused_at
  at_used i h = rw (lt-ltb i t.n h) (in_used (task t i) t.costs (16 * i))

  pub at_rest : (i : ℕ) → t.n ≤ i → unused_in (task t i) t.costs (16 * i) false ≡ unused_at i
  unfolding unused_at
  at_rest i h = rw (le-ltb i t.n h) refl

  at_same : (i : ℕ) → pick (ltb i t.n) (all 16 (λ u. ltb u (vertices t i) || zero_vertex t i u)) (zero_entry t i && all 16 (zero_vertex t i)) ≡ unused_at i
  unfolding unused_at unused_in zero_from zero_vertex zero_entry vertices D T succ cost
  at_same i = ap (λ (b : Bool). pick (ltb i t.n) (zero_from (succ t i) t.costs (16 * i) (vertices t i)) (zero_entry t i && b)) (all_same 16 _ _ (λ u. none u _))
    where
      none : (u : ℕ) (b : Bool) → b ≡ (ltb u 0 || b)
      none u b = rw (le-ltb u 0 (omega arith))

  pub unused_is : unused_zero t ≡ all 16 unused_at
  unfolding unused_zero
  unused_is = all_same 16 _ _ at_same
