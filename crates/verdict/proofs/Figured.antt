-- What the code finds of a good table's task is its len, due and margin; what a difference of two numbers is to the machine.
use mathlib.Core.Path.{◌≡◌, refl, sym, ap, ap₂, ◌∙◌}
use mathlib.Core.Bool.{Bool, true, false, cond}
use mathlib.Core.List.{List}
use Prim.Native.Nat.{ℕ, zero, suc, ◌+◌, ◌*◌, ◌-◌, ◌^◌, ◌≤◌, ◌<◌, min}
use native.Mathlib.Omega.{arith}
use native.Mathlib.Nat.{mul-le-mul}
use native.Mathlib.Numerals.{add-one}
use native.Mathlib.Decide.{ℕ_discrete, dec_lt}
use lib.Dec.{ltb}
use lib.ListN.{length, get_or, set, length-set, take, drop, length-take, length-drop, replicate, get_or-replicate, length-replicate}
use lib.Seq.{get_or-set_same, get_or-set_other, get_or-take, get_or-drop, ext_get_or}
use lib.IntN.{ℤ, pos, negsuc, ◌-ℤ◌}
use lib.Signed.{mag}
use mir.Syntax.{w64}
use mir.Val.{Fits, SFits, to_z}
use mir.Facts.{to_z_pos}
use borrow.Author.Tests.{lt-ltb, ltb-true, ltb-false}
use Rattle.graph.specs.Words.{pick, sum, row}
use Rattle.graph.specs.Graph.{longest_of}
use Rattle.graph.proofs.Facts.{sum_same, sum_upto, length_row, row_at, past_end}
use Rattle.graph.proofs.Narrow.{longest_of_is}
use Rattle.chains.specs.Chains.{chain_of}
use Rattle.chains.proofs.Named.{chain_of_is}
use Rattle.table.specs.declared.Table.{Table}
use Rattle.table.specs.Memory.{vertices, D, T, succ, edge_in, cost}
use Rattle.table.specs.Good.{GoodTable}
use Rattle.verdict.specs.declared.measuring.Measures.{Measures}
use Rattle.verdict.specs.Verdicts.{vol, len, rounded_up, due, margin, chain, up_to}
use Rattle.verdict.specs.Ranges.{InRange}
use Rattle.verdict.specs.Measured.{Holds, due_in, margin_in}
use Rattle.verdict.proofs.Amounts.{vol_high, len_vol, due_bound}

-- ---- loops: one term more of a sum, and a row of sixteen whose first i numbers are those of f
pub sum_next : (n : ℕ) (f : ℕ → ℕ) → sum (n + 1) f ≡ sum n f + f n
unfolding sum
sum_next n f = rw add-one

pub sum_done : (i n x : ℕ) (f : ℕ → ℕ) → i ≡ n → x ≡ sum i f → x ≡ sum n f
sum_done i n x f e h = rw e at h

pub record Filled (f : ℕ → ℕ) (i : ℕ) (a : List ℕ) : Type 0 where
  pub size : length a ≡ 16
  pub each : (j : ℕ) → j < i → get_or a j 0 ≡ f j
  pub rest : (j : ℕ) → i ≤ j → get_or a j 0 ≡ 0

zeros : (n j : ℕ) → ◌≡◌ {A = ℕ} (get_or (replicate n 0) j 0) 0
zeros n j = elim (dec_lt j n) [
  | yes b ↦ get_or-replicate n j 0 0 b
  | no b ↦ past_end (replicate n 0) j 0 (omega (arith, length-replicate {A = ℕ} n 0))
]

pub filled_none : {f : ℕ → ℕ} {a : List ℕ} → a ≡ replicate 16 0 → Filled f 0 a
filled_none e = record { size = ap length e; each = λ j l. absurd (omega arith); rest = λ j l. ap (λ (x : List ℕ). get_or x j 0) e ∙ zeros 16 j }

pub filled_next : {f : ℕ → ℕ} {i : ℕ} {a : List ℕ} (x : ℕ) → i < 16 → x ≡ f i → Filled f i a → Filled f (i + 1) (set a i x)
filled_next {f} {i} {a} x h e r = record {
  size = length-set a i x ∙ r.size;
  each = λ j l. elim (ℕ_discrete j i) [
    | yes q ↦ rw q (get_or-set_same a i x 0 (omega (arith, r.size)) ∙ e)
    | no q ↦ get_or-set_other a i j x 0 q ∙ r.each j (omega arith)
  ];
  rest = λ j l. get_or-set_other a i j x 0 (λ q. omega arith) ∙ r.rest j (omega arith);
}

pub filled_row : {f : ℕ → ℕ} {a : List ℕ} → Filled f 16 a → a ≡ row 16 f
filled_row {f} {a} r =
    ext_get_or 0 a (row 16 f) (r.size ∙ sym (length_row 16 f))
    (λ i h. let l : i < 16 = omega (arith, r.size) in r.each i l ∙ sym (row_at 16 f i 0 l))

-- task i's sixteen numbers of a row of 256, which are zeros past its end
pub costs_row : (costs : List ℕ) (i : ℕ) → length costs ≡ 256 → i < 16 → take 16 (drop (16 * i) costs) ≡ row 16 (λ u. get_or costs (16 * i + u) 0)
costs_row costs i e h =
    let whole : length (take 16 (drop (16 * i) costs)) ≡ 16 = omega (arith, length-take 16 (drop (16 * i) costs), length-drop (16 * i) costs) in
    ext_get_or 0 (take 16 (drop (16 * i) costs)) (row 16 (λ u. get_or costs (16 * i + u) 0)) (whole ∙ sym (length_row 16 _))
    (λ u l. get_or-take 16 (drop (16 * i) costs) u 0 (omega (arith, whole)) ∙ get_or-drop (16 * i) costs u 0 ∙ sym (row_at 16 (λ u. get_or costs (16 * i + u) 0) u 0 (omega (arith, whole))))

pub costs_none : (costs : List ℕ) (i : ℕ) → length costs ≡ 256 → 16 ≤ i → replicate 16 0 ≡ row 16 (λ u. get_or costs (16 * i + u) 0)
costs_none costs i e h =
    let r = filled_none {f = λ u. get_or costs (16 * i + u) 0} {a = replicate 16 0} refl in
    filled_row (record { size = r.size; each = λ j l. r.rest j (omega arith) ∙ sym (past_end costs (16 * i + j) 0 (omega arith)); rest = λ j l. r.rest j (omega arith) })

-- the first n of them, and zeros
pub filled_up_to : {f : ℕ → ℕ} {n : ℕ} {a : List ℕ} → Filled f n a → a ≡ up_to n f
unfolding up_to
filled_up_to {f} {n} {a} r =
    ext_get_or 0 a (row 16 (λ k. pick (ltb k n) (f k) 0)) (r.size ∙ sym (length_row 16 _))
    (λ i h. let l : i < 16 = omega (arith, r.size) in at i (ltb i n) refl ∙ sym (row_at 16 (λ k. pick (ltb k n) (f k) 0) i 0 l))
  where
    at : (i : ℕ) (b : Bool) → ltb i n ≡ b → get_or a i 0 ≡ pick b (f i) 0
    at i true e = r.each i (ltb-true i n e)
    at i false e = r.rest i (ltb-false i n e)

-- the first n of them for which the row has room
pub filled_room : {f : ℕ → ℕ} (n : ℕ) {a : List ℕ} → Filled f (min n 16) a → a ≡ up_to n f
unfolding up_to
filled_room {f} n {a} r =
    ext_get_or 0 a (row 16 (λ k. pick (ltb k n) (f k) 0)) (r.size ∙ sym (length_row 16 _))
    (λ i h. let l : i < 16 = omega (arith, r.size) in at i l (ltb i n) refl ∙ sym (row_at 16 (λ k. pick (ltb k n) (f k) 0) i 0 l))
  where
    at : (i : ℕ) → i < 16 → (b : Bool) → ltb i n ≡ b → get_or a i 0 ≡ pick b (f i) 0
    at i l true e = r.each i (omega (arith, ltb-true i n e))
    at i l false e = r.rest i (omega (arith, ltb-false i n e))

pub up_to_at : (n k : ℕ) (f : ℕ → ℕ) → k < n → n ≤ 16 → get_or (up_to n f) k 0 ≡ f k
unfolding up_to
up_to_at n k f b h = row_at 16 (λ k. pick (ltb k n) (f k) 0) k 0 (omega arith) ∙ ap (λ (c : Bool). pick c (f k) 0) (lt-ltb k n b)

module _ (t : Table) (good : GoodTable t) (k : ℕ) (b : k < t.n) where
  -- the sum of its sixteen costs as they lie in memory is vol
  pub vol_found : (own : List ℕ) (x : ℕ) → own ≡ row 16 (λ u. get_or t.costs (16 * k + u) 0) → x ≡ sum 16 (λ u. get_or own u 0) → x ≡ vol t k
  unfolding vol cost
  vol_found own x e h =
      h ∙ ap (λ (l : List ℕ). sum 16 (λ u. get_or l u 0)) e ∙ sum_same 16 _ _ (λ u l. row_at 16 (λ u. get_or t.costs (16 * k + u) 0) u 0 l)
      ∙ sum_upto (vertices t k) 16 (cost t k) (good.each k b).v_high (good.each k b).unused

  -- the longest chain of the successors and the sixteen costs as they lie in memory is len
  pub len_found : (x : ℕ) → x ≡ longest_of (succ t k) (row 16 (λ u. get_or t.costs (16 * k + u) 0)) → x ≡ len t k
  unfolding len edge_in cost
  len_found x e =
      let g = good.each k b in
      e
      ∙ longest_of_is (vertices t k) (succ t k) (row 16 (λ u. get_or t.costs (16 * k + u) 0)) (cost t k) g.v_high g.no_cycle
      (λ u w e. let q = g.ends u w e in (q.0, q.1)) (λ u h. row_at 16 (λ u. get_or t.costs (16 * k + u) 0) u 0 h) g.unused

  -- the chain that is listed of them is the task's
  pub chain_found : chain_of (succ t k) (row 16 (λ u. get_or t.costs (16 * k + u) 0)) ≡ chain t k
  unfolding chain edge_in cost
  chain_found =
      let g = good.each k b in
      chain_of_is (vertices t k) (succ t k) (row 16 (λ u. get_or t.costs (16 * k + u) 0)) (cost t k) g.v_low g.v_high g.no_cycle
      (λ u w e. let q = g.ends u w e in (q.0, q.1)) (λ u h. row_at 16 (λ u. get_or t.costs (16 * k + u) 0) u 0 h) g.unused

  -- what is due, over rows that hold the periods and the vols
  pub due_found : (times vols : List ℕ) → ((i : ℕ) → i < t.n → get_or times i 0 ≡ T t i) → ((i : ℕ) → i < t.n → get_or vols i 0 ≡ vol t i)
      → (y : ℕ) → y ≡ sum t.n (λ i. rounded_up (D t k) (get_or times i 0) * get_or vols i 0) → y ≡ due t k
  unfolding due
  due_found times vols p q y e = e ∙ sum_same t.n _ _ (λ i h. ap₂ (λ (x y : ℕ). rounded_up (D t k) x * y) (p i h) (q i h))

  -- the same by a table's measures
  module _ (x : Measures) (h : Holds t x) where
    pub held_due : due_in x k ≡ due t k
    unfolding due_in
    held_due = due_found x.periods x.vols h.T_is h.vol_is (due_in x k) (rw (h.n_is, h.D_is k b))

    pub held_margin : margin_in x k ≡ margin t k
    unfolding margin_in margin
    held_margin =
        let chain : ℕ = min (get_or x.lens k 0) (2 ^ 53) in
        let work : ℕ = min (due_in x k) (2 ^ 53) in
        let l = h.len_is k b in
        ap₂ (λ (m d : ℕ). pos (m * d) -ℤ pos ((m - 1) * chain + work)) h.m_is (h.D_is k b)
        ∙ ap₂ (λ (x y : ℕ). pos (t.m * D t k) -ℤ pos ((t.m - 1) * x + y))
        (small (omega (arith, len_vol t good k b, vol_high t good k b)) ∙ l)
        (small (omega (arith, held_due, due_bound t good k b)) ∙ held_due)
      where
        small : {x : ℕ} → x ≤ 2 ^ 53 → min x (2 ^ 53) ≡ x
        small h = omega arith

-- a good table's measures are within their ranges
pub in_range : (t : Table) → GoodTable t → (deadlines periods vols : List ℕ)
    → ((i : ℕ) → i < t.n → get_or deadlines i 0 ≡ D t i) → ((i : ℕ) → i < t.n → get_or periods i 0 ≡ T t i) → ((i : ℕ) → i < t.n → get_or vols i 0 ≡ vol t i)
    → InRange t.n deadlines periods vols
in_range t good deadlines periods vols d p v = (
  good.n_low,
  good.n_high,
  λ i b.
      let g = good.each i b in
      (omega (arith, g.D_high, d i b), omega (arith, g.T_low, p i b), omega (arith, g.T_high, p i b), omega (arith, vol_high t good i b, v i b)),
)

-- ---- what the code computes stays small, whatever the numbers are
pub product_small : (a b : ℕ) → a ≤ 8 → b ≤ 16000000 → a * b < 2 ^ 62
product_small a b h k = omega (arith, mul-le-mul {n₂ = 8} {m₂ = 16000000} h k)

pub product_fits : (a b : ℕ) → a ≤ 8 → b ≤ 16000000 → Fits w64 (a * b)
product_fits a b h k = record { fits = omega (arith, product_small a b h k) }

-- (m minus 1) times what is at most 2 ^ 53, and as much again
pub spent_within : (f x y : ℕ) → f ≤ 254 → x ≤ 2 ^ 53 → y ≤ 2 ^ 53 → f * x + y < 2 ^ 61
spent_within f x y h k l = omega (arith, mul-le-mul {n₂ = 254} {m₂ = 2 ^ 53} h k)

pub allowed_within : (m d : ℕ) → m ≤ 255 → d < 2 ^ 32 → m * d < 2 ^ 40
allowed_within m d h k = omega (arith, mul-le-mul {m₁ = d} {n₂ = 255} {m₂ = 2 ^ 32} h (omega arith))

-- ---- a difference of two numbers as the machine has it
either_mag : (c : Bool) (x y n : ℕ) → x ≤ n → y ≤ n → mag (cond c (negsuc x) (pos y)) ≤ n
either_mag true x y n h k = h
either_mag false x y n h k = k

minus_mag : (a b : ℕ) → mag (pos a -ℤ pos b) ≤ a + b
minus_mag a zero = omega arith
minus_mag a (suc b) = either_mag (ltb a (suc b)) (suc b - suc a) (a - suc b) (a + suc b) (omega arith) (omega arith)

pub minus_fits : {a b : ℕ} → a < 2 ^ 62 → b < 2 ^ 62 → SFits w64 (pos a -ℤ pos b)
minus_fits {a} {b} h k = record { sfits = omega (arith, minus_mag a b) }

-- what the code `(a as i64) - (b as i64)` computes
pub cast_minus : {a b : ℕ} → a < 2 ^ 62 → b < 2 ^ 62 → pos a -ℤ pos b ≡ to_z w64 a -ℤ to_z w64 b
cast_minus {a} {b} h k = sym (ap₂ (λ (x y : ℤ). x -ℤ y) (to_z_pos w64 {n = a} (omega arith)) (to_z_pos w64 {n = b} (omega arith)))
