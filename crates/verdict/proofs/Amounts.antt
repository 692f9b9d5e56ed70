-- vol, len and due of a good table: their ranges, and vol ≥ len, due ≥ vol. All are far below 2 ^ 63, so no sum of them wraps.
use mathlib.Core.Path.{◌≡◌, refl, ap}
use mathlib.Core.Bool.{Bool, true, false}
use mathlib.Core.List.{List, [], ◌∷◌}
use Prim.Native.Nat.{ℕ, zero, suc, ◌+◌, ◌*◌, ◌-◌, ◌/◌, ◌%◌, ◌≤◌, ◌<◌, min}
use native.Mathlib.Omega.{arith}
use native.Mathlib.Nat.{mul_comm, mul-suc, mul-le-mul, mul-le-mul_left, mul-le-mul_right, div-eq_of_lt, div-le_of_le-mul, le-div_iff_mul-le}
use native.Mathlib.Decide.{ℕ_discrete, dec_le}
use lib.Dec.{leb}
use borrow.Author.Tests.{le-leb, leb-true}
use Rattle.std.proofs.lemmas.Grind.{div_ceil_times}
use Rattle.graph.specs.Words.{pick, sum}
use Rattle.graph.specs.Graph.{acyclic, Chain, alone, joined, sum_along}
use Rattle.graph.proofs.Facts.{sum_le, sum_at}
use Rattle.graph.proofs.Rank.{rank, rank_up}
use Rattle.graph.proofs.Long.{longest_reached}
use Rattle.table.specs.declared.Table.{Table}
use Rattle.table.specs.Memory.{vertices, D, T, succ, edge_in, cost}
use Rattle.table.specs.Good.{GoodTable}
use Rattle.verdict.specs.Verdicts.{vol, len, rounded_up, due}

-- ---- sums
pub sum_most : (n c : ℕ) (f : ℕ → ℕ) → ((i : ℕ) → i < n → f i ≤ c) → sum n f ≤ c * n
unfolding sum
sum_most zero c f h = omega arith
sum_most (suc n) c f h = omega (arith, sum_most n c f (λ i b. h i (omega arith)), h n (omega arith), mul-suc c n)

-- one term is at most a, and each of the others at most c
pub sum_but_one : (n a c p : ℕ) (f : ℕ → ℕ) → p < suc n → f p ≤ a → ((i : ℕ) → i < suc n → f i ≤ c) → sum (suc n) f ≤ a + c * n
unfolding sum
sum_but_one zero a c p f b h k = let z : p ≡ 0 = omega arith in let y : f 0 ≤ a = rw z at h in omega arith
sum_but_one (suc n) a c p f b h k = elim (ℕ_discrete p (suc n)) [
  | yes e ↦ omega (arith, sum_most (suc n) c f (λ i l. k i (omega arith)), rw e at h)
  | no e ↦ omega (arith, sum_but_one n a c p f (omega arith) h (λ i l. k i (omega arith)), k (suc n) (omega arith), mul-suc c n)
]

-- no term falls, and one grows by a or more
sum_grows : (n : ℕ) (f g : ℕ → ℕ) (a p : ℕ) → p < n → ((i : ℕ) → i < n → f i ≤ g i) → f p + a ≤ g p → sum n f + a ≤ sum n g
unfolding sum
sum_grows zero f g a p b h k = absurd (omega arith)
sum_grows (suc n) f g a p b h k = elim (ℕ_discrete p n) [
  | yes e ↦ omega (arith, sum_le n f g (λ i l. h i (omega arith)), rw e at k)
  | no e ↦ omega (arith, sum_grows n f g a p (omega arith) (λ i l. h i (omega arith)) k, h n (omega arith))
]

-- the first terms of a sum are within it, so a loop that adds up stays within the bounds below
pub sum_part : (j n : ℕ) (f : ℕ → ℕ) → j ≤ n → sum j f ≤ sum n f
unfolding sum
sum_part j zero f h = let z : j ≡ 0 = omega arith in rw z (omega arith)
sum_part j (suc n) f h = elim (ℕ_discrete j (suc n)) [ yes e ↦ rw e (omega arith) | no e ↦ omega (arith, sum_part j n f (omega arith)) ]

-- ---- a division rounded up
pub up_most : (x y : ℕ) → 1 ≤ y → rounded_up x y ≤ x
unfolding rounded_up
up_most zero y h = let z : (0 + (y - 1)) / y ≡ 0 = div-eq_of_lt (omega arith) in omega arith
up_most (suc x) y h = div-le_of_le-mul y (omega (arith, mul-suc y x, mul-le-mul_right {m = 1} {n = y} x h))

pub up_least : (x y : ℕ) → 1 ≤ x → 1 ≤ y → 1 ≤ rounded_up x y
unfolding rounded_up
up_least x y h one = (le-div_iff_mul-le {k = y} {x = 1} {y = x + (y - 1)} (omega arith)).1 (omega arith)

-- up to n times y it is n at most
pub up_within : (x y n : ℕ) → 1 ≤ y → x ≤ n * y → rounded_up x y ≤ n
unfolding rounded_up
up_within x y n one h = elim (dec_le ((x + (y - 1)) / y) n) [
  | yes l ↦ l
  | no l ↦
      let q = (le-div_iff_mul-le {k = y} {x = suc n} {y = x + (y - 1)} (omega arith)).0 (omega arith) in
      absurd (omega (arith, q, mul_comm (suc n) y, mul-suc y n, mul_comm y n))
]

-- it is what std's method returns
pub up_ceil : (x y : ℕ) → 1 ≤ y → x / y + min 1 (x % y) ≡ rounded_up x y
unfolding rounded_up
up_ceil x y h =
    let q : ℕ = x / y + min 1 (x % y) in
    let p = div_ceil_times x y h in
    omega (arith, up_within x y q h p.0, (le-div_iff_mul-le {k = y} {x = q} {y = x + (y - 1)} (omega arith)).1 (omega (arith, p.1)))

-- ---- a chain passes no vertex twice, so its sum is within the whole sum
module _ (v : ℕ) (E : ℕ → ℕ → Bool) (rise : ℕ → ℕ) (up : (u w : ℕ) → u < v → w < v → E u w ≡ true → rise u < rise w) (f : ℕ → ℕ) where
  -- f at the vertices of u's rank or above
  from : ℕ → ℕ → ℕ
  from u x = pick (leb (rise u) (rise x)) (f x) 0

  head : {u : ℕ} {c : List ℕ} → Chain v E (u ∷ c) → u < v
  head (alone h) = h
  head (joined h e c) = h

  from_self : (u : ℕ) → from u u ≡ f u
  unfolding from
  from_self u = ap (λ (b : Bool). pick b (f u) 0) (le-leb (rise u) (rise u) (omega arith))

  from_most : (u x : ℕ) → from u x ≤ f x
  unfolding from
  from_most u x = go (leb (rise u) (rise x))
    where
      go : (b : Bool) → pick b (f x) 0 ≤ f x
      go true = omega arith
      go false = omega arith

  from_less : (u w x : ℕ) → rise u < rise w → from w x ≤ from u x
  unfolding from
  from_less u w x h = go (leb (rise w) (rise x)) refl
    where
      go : (b : Bool) → leb (rise w) (rise x) ≡ b → pick b (f x) 0 ≤ pick (leb (rise u) (rise x)) (f x) 0
      go true e = let l = leb-true (rise w) (rise x) e in rw (le-leb (rise u) (rise x) (omega arith)) (omega arith)
      go false e = omega arith

  from_none : (u w : ℕ) → rise u < rise w → from w u ≡ 0
  unfolding from
  from_none u w h = go (leb (rise w) (rise u)) refl
    where
      go : (b : Bool) → leb (rise w) (rise u) ≡ b → pick b (f u) 0 ≡ 0
      go true e = absurd (omega (arith, leb-true (rise w) (rise u) e))
      go false e = refl

  along_from : (u : ℕ) (c : List ℕ) → Chain v E (u ∷ c) → sum_along f (u ∷ c) ≤ sum v (from u)
  unfolding sum_along
  along_from u [] h = omega (arith, sum_at v (from u) u (head h), from_self u)
  along_from u (w ∷ c) (joined b e h) =
      let r = up u w b (head h) e in
      omega (arith, along_from w c h, sum_grows v (from w) (from u) (f u) u b (λ x l. from_less u w x r) (omega (arith, from_none u w r, from_self u)))

  pub along_most : (c : List ℕ) → Chain v E c → sum_along f c ≤ sum v f
  along_most [] h = absurd (none h)
    where
      none : Chain v E [] → ⊥
      none = elim [ ]
  along_most (u ∷ c) h = omega (arith, along_from u c h, sum_le v (from u) f (λ x l. from_most u x))

module _ (t : Table) (good : GoodTable t) where
  -- len ≤ vol ≤ 16,000,000
  pub vol_high : (k : ℕ) → k < t.n → vol t k ≤ 16000000
  unfolding vol
  vol_high k b = omega (arith, sum_most (vertices t k) 1000000 (cost t k) (good.each k b).cost_high, (good.each k b).v_high)

  pub climbs : (k : ℕ) → k < t.n → (u w : ℕ) → u < vertices t k → w < vertices t k → edge_in t k u w ≡ true → rank 16 (edge_in t k) u < rank 16 (edge_in t k) w
  unfolding acyclic edge_in
  climbs k b u w l h e = let v = (good.each k b).v_high in rank_up 16 (edge_in t k) (good.each k b).no_cycle u w (omega arith) e

  pub len_vol : (k : ℕ) → k < t.n → len t k ≤ vol t k
  unfolding len vol edge_in
  len_vol k b =
      let r = longest_reached (vertices t k) (succ t k) (cost t k) (good.each k b).v_high (good.each k b).no_cycle (good.each k b).v_low in
      omega (arith, r.2, along_most (vertices t k) (edge_in t k) (rank 16 (edge_in t k)) (climbs k b) (cost t k) r.0 r.1)

  -- vol ≤ due ≤ 4 · vol + 15 · D · 16,000,000: of its own jobs one to four are due, since D is at most four times T, of another task's at most
  -- one each tick
  pub own_jobs : (k : ℕ) → k < t.n → rounded_up (D t k) (T t k) ≤ 4
  own_jobs k b = up_within (D t k) (T t k) 4 (good.each k b).T_low (good.each k b).D_T

  own_least : (k : ℕ) → k < t.n → 1 * vol t k ≤ rounded_up (D t k) (T t k) * vol t k
  own_least k b = mul-le-mul_right (vol t k) (up_least (D t k) (T t k) (good.each k b).D_low (good.each k b).T_low)

  own_most : (k : ℕ) → k < t.n → rounded_up (D t k) (T t k) * vol t k ≤ 4 * vol t k
  own_most k b = mul-le-mul_right (vol t k) (own_jobs k b)

  pub vol_due : (k : ℕ) → k < t.n → vol t k ≤ due t k
  unfolding due
  vol_due k b = omega (arith, own_least k b, sum_at t.n (λ i. rounded_up (D t k) (T t i) * vol t i) k b)

  -- one task's part of what is due, and the parts of the first tasks
  pub task_due : (k i : ℕ) → i < t.n → rounded_up (D t k) (T t i) * vol t i ≤ D t k * 16000000
  task_due k i l = mul-le-mul (up_most (D t k) (T t i) (good.each i l).T_low) (vol_high i l)

  pub due_high : (k : ℕ) → k < t.n → due t k ≤ 4 * vol t k + 15 * (D t k * 16000000)
  unfolding due
  due_high k b = go t.n refl b
    where
      go : (n : ℕ) → t.n ≡ n → k < n → sum n (λ i. rounded_up (D t k) (T t i) * vol t i) ≤ 4 * vol t k + 15 * (D t k * 16000000)
      go zero e l = absurd (omega arith)
      go (suc n) e l =
          let h = good.n_high in
          let z : n ≤ 15 = omega arith in
          omega (
            arith,
            sum_but_one n (4 * vol t k) (D t k * 16000000) k _ l (own_most k b) (λ i q. task_due k i (omega arith)),
            mul-le-mul_left (D t k * 16000000) z,
          )

  -- the margin's first part, m · D, and (m - 1) · len
  pub allowance_high : (k : ℕ) → k < t.n → t.m * D t k ≤ 8000000
  allowance_high k b = mul-le-mul {n₂ = 8} {m₂ = 1000000} good.m_high (good.each k b).D_high

  pub chain_high : (k : ℕ) → k < t.n → (t.m - 1) * len t k ≤ 112000000
  chain_high k b = let h = good.m_high in mul-le-mul {n₂ = 7} {m₂ = 16000000} (omega arith) (omega (arith, len_vol k b, vol_high k b))

  -- together, as code needs them
  pub due_bound : (k : ℕ) → k < t.n → due t k ≤ 240000064000000
  due_bound k b = omega (arith, due_high k b, vol_high k b, (good.each k b).D_high)

  pub due_part : (k j : ℕ) → k < t.n → j ≤ t.n → sum j (λ i. rounded_up (D t k) (T t i) * vol t i) ≤ 240000064000000
  unfolding due
  due_part k j b l = omega (arith, sum_part j t.n (λ i. rounded_up (D t k) (T t i) * vol t i) l, due_bound k b)

  pub spent_bound : (k : ℕ) → k < t.n → (t.m - 1) * len t k + due t k ≤ 240000176000000
  spent_bound k b = omega (arith, due_bound k b, chain_high k b)
