-- The tests of what a row lists, as the code makes them with a set of sixteen bits for each slot, 16 times age place plus task.
use mathlib.Core.Path.{◌≡◌, refl, sym, ap, ap₂, ◌∙◌}
use mathlib.Core.Bool.{Bool, true, false, ◌&&◌, ◌||◌, not}
use mathlib.Core.Logic.{◌⊎◌, inl, inr, ⊎_elim}
use mathlib.Core.List.{List, [], ◌∷◌}
use Prim.Native.Nat.{ℕ, zero, suc, ◌+◌, ◌*◌, ◌/◌, ◌%◌, ◌^◌, ◌≤◌, ◌<◌, min}
use native.Mathlib.Omega.{arith}
use native.Mathlib.Numerals.{add-one}
use native.Mathlib.Decide.{ℕ_discrete}
use lib.ListN.{length, get_or, set, drop, length-set}
use lib.Seq.{get_or-set_same, get_or-set_other, drop-cons, drop-length}
use lib.Dec.{ltb, leb, eqb}
use lib.Count.{count_trailing_zeros}
use borrow.Author.Tests.{lt-ltb, le-ltb, ltb-true, eq-eqb, ne_eqb, eqb-true, eqb-false, leb-true, leb-false, not-true, not-false}
use Rattle.graph.specs.Words.{pick, bit, all, row, largest, those_below, is_in, set_of}
use Rattle.graph.proofs.Facts.{clash, both_true, and_true, all_at, all_not, all_same, length_row, row_at, below_pass, below_all, largest_most, largest_some, first_in, other_in, off_when}
use Rattle.graph.proofs.Lists.{any_some}
use Rattle.graph.proofs.Bits.{bit_zero, lowest, lowest_lt}
use Rattle.graph.proofs.Sets.{bit_set}
use Rattle.table.specs.declared.Table.{Table}
use Rattle.machine.specs.declared.State.{State}
use Rattle.machine.specs.States.{live, left}
use Rattle.machine.specs.Steps.{task_in, age_in, vertex_in, available, availables, available_sets, left_in, left_at}
use Rattle.machine.proofs.Places.{at_in}
use Rattle.machine.proofs.Index.{name_task, name_age, name_of, age_below, vertex_below}
use Rattle.machine.proofs.Standing.{available_is}
use Rattle.journal.specs.Rows.{row_count, row_task, row_age, row_vertex, row_key, listed, triple_available, not_available, passes_over}
use Rattle.journal.specs.Listing.{in_set, all_in, AreVertices, row_slot, Without}
use Rattle.machine.proofs.Filling.{row_same}
use Rattle.journal.proofs.Keys.{in_row}
use Rattle.journal.proofs.Passing.{passes_over_lem}

-- ---- a slot's age place and task
module _ (i p : ℕ) (h : i < 16) where
  slot_task : (16 * p + i) % 16 ≡ i
  slot_task = omega arith

  slot_age : (16 * p + i) / 16 ≡ p
  slot_age = omega arith

slot_of : (k : ℕ) → 16 * (k / 16) + k % 16 ≡ k
slot_of k = omega arith

-- ---- a triple in its slot's set
module _ (sets : List ℕ) (i p u : ℕ) where
  abbrev here : Bool
  here = bit (get_or sets (16 * p + i) 0) u

  pub no_task_past : 16 ≤ i → false ≡ in_set sets i p u
  unfolding in_set
  no_task_past h = sym (ap (λ (b : Bool). b && ltb p 4 && ltb u 16 && here) (le-ltb i 16 h))

  pub no_age : 4 ≤ p → i < 16 → false ≡ in_set sets i p u
  unfolding in_set
  no_age h k = sym (ap₂ (λ (b c : Bool). b && c && ltb u 16 && here) (lt-ltb i 16 k) (le-ltb p 4 h))

  pub no_vertex : 16 ≤ u → p < 4 → i < 16 → false ≡ in_set sets i p u
  unfolding in_set
  no_vertex h k l = sym (ap₂ (λ (b c : Bool). b && c && ltb u 16 && here) (lt-ltb i 16 l) (lt-ltb p 4 k) ∙ ap (λ (b : Bool). b && here) (le-ltb u 16 h))

  pub in_set_lem : u < 16 → p < 4 → i < 16 → bit (get_or sets (16 * p + i) 0) u ≡ in_set sets i p u
  unfolding in_set
  in_set_lem h k l = sym (ap₂ (λ (b c : Bool). b && c && ltb u 16 && here) (lt-ltb i 16 l) (lt-ltb p 4 k) ∙ ap (λ (b : Bool). b && here) (lt-ltb u 16 h))

-- a test's answer, of the fields that were read
pub in_by : (sets : List ℕ) (r : Bool) (i p u a b c : ℕ) → r ≡ in_set sets a b c → a ≡ i → b ≡ p → c ≡ u → in_set sets i p u ≡ r
in_by sets r i p u a b c e x y z = sym (e ∙ ap (λ (k : ℕ). in_set sets k b c) x ∙ ap₂ (in_set sets i) y z)

-- three tests and a fourth
three_true : (i p u : ℕ) (b : Bool) → (ltb i 16 && ltb p 4 && ltb u 16 && b) ≡ true → (i < 16) × (p < 4) × (u < 16) × (b ≡ true)
three_true i p u b e =
    let c = both_true (ltb i 16 && ltb p 4 && ltb u 16) b e in
    let d = both_true (ltb i 16 && ltb p 4) (ltb u 16) c.0 in
    let f = both_true (ltb i 16) (ltb p 4) d.0 in
    (ltb-true i 16 f.0, ltb-true p 4 f.1, ltb-true u 16 d.1, c.1)

-- where each triple is in its slot's set, each is a vertex
pub all_vertices : (s : List ℕ) (at : ℕ) (sets : List ℕ) → all_in sets s at ≡ true → AreVertices s at
unfolding all_in in_set AreVertices
all_vertices s at sets e j b =
    let a = all_at (row_count s at) (λ j. in_set sets (row_task s at j) (row_age s at j) (row_vertex s at j)) e j b in
    let c = three_true (row_task s at j) (row_age s at j) (row_vertex s at j) _ a in
    (c.0, c.1, c.2)

module _ (t : Table) (st : State) where
  -- what is in the available sets
  set_at : (i p u : ℕ) → i < 16 → p < 4 → u < 16 → bit (get_or (available_sets t st) (16 * p + i) 0) u ≡ available t st (64 * i + 16 * p + u)
  unfolding available_sets
  set_at i p u h l k =
      ap (λ (n : ℕ). bit n u) (row_at 64 (λ s. set_of 16 (λ u. available t st (64 * (s % 16) + 16 * (s / 16) + u))) (16 * p + i) 0 (omega arith))
      ∙ bit_set 16 (λ u. available t st (64 * ((16 * p + i) % 16) + 16 * ((16 * p + i) / 16) + u)) u k
      ∙ ap₂ (λ (x y : ℕ). available t st (64 * x + 16 * y + u)) (slot_task i p h) (slot_age i p h)

  in_triple : (i p u : ℕ) → in_set (available_sets t st) i p u ≡ triple_available t st i p u
  unfolding in_set triple_available
  in_triple i p u = same (ltb i 16) (ltb p 4) (ltb u 16) _ _ (λ a b c. set_at i p u (ltb-true i 16 a) (ltb-true p 4 b) (ltb-true u 16 c))
    where
      same : (a b c x y : Bool) → (a ≡ true → b ≡ true → c ≡ true → x ≡ y) → (a && b && c && x) ≡ (a && b && c && y)
      same true true true x y f = f refl refl refl
      same true true false x y f = refl
      same true false c x y f = refl
      same false b c x y f = refl

  in_all : (s : List ℕ) (at : ℕ) → all_in (available_sets t st) s at ≡ all (row_count s at) (λ j. triple_available t st (row_task s at j) (row_age s at j) (row_vertex s at j))
  unfolding all_in
  in_all s at = all_same (row_count s at) _ _ (λ j b. in_triple (row_task s at j) (row_age s at j) (row_vertex s at j))

  -- 44
  pub all_in_lem : (s : List ℕ) (at : ℕ) (sets : List ℕ) (r : Bool) → sets ≡ available_sets t st → r ≡ all_in sets s at → not r ≡ not_available t st s at
  unfolding not_available
  all_in_lem s at sets r e q = ap not (q ∙ ap (λ (l : List ℕ). all_in l s at) e ∙ in_all s at)

  pub each_vertex : (s : List ℕ) (at : ℕ) → not_available t st s at ≡ false → AreVertices s at
  unfolding not_available
  each_vertex s at e = all_vertices s at (available_sets t st) (in_all s at ∙ not-false _ e)

-- ---- the sets without what is listed: of the list from j on, and of all of it
pub record TakenTo (sets chosen : List ℕ) (j : ℕ) (rest : List ℕ) : Type 0 where
  pub long : length rest ≡ 64
  pub same : (i p u : ℕ) → i < 16 → p < 4 → u < 16
      → (bit (get_or rest (16 * p + i) 0) u && not (is_in (64 * i + 16 * p + u) (drop j chosen)))
      ≡ (bit (get_or sets (16 * p + i) 0) u && not (is_in (64 * i + 16 * p + u) chosen))

pub none_taken : (sets chosen : List ℕ) → length sets ≡ 64 → TakenTo sets chosen 0 sets
none_taken sets chosen e = record { long = e; same = λ i p u h l k. refl }

module _ (sets chosen : List ℕ) (j : ℕ) (rest : List ℕ) (r : TakenTo sets chosen j rest) where
  -- taking out u of slot k, which is age place p of task i
  module _ (i p u k x : ℕ) (b : j < length chosen) (e : 64 * i + 16 * p + u ≡ get_or chosen j 0) (at : k ≡ 16 * p + i) (hi : i < 16) (hp : p < 4) (hu : u < 16)
      (less : (w : ℕ) → w < 16 → bit x w ≡ (bit (get_or rest k 0) w && not (eqb w u))) where
    abbrev key : ℕ
    key = 64 * i + 16 * p + u

    abbrev tail : List ℕ
    tail = drop (suc j) chosen

    gone : (b c : Bool) → (b && false && c) ≡ (b && false)
    gone true c = refl
    gone false c = refl

    kept : (b c : Bool) → (b && true && c) ≡ (b && c)
    kept true c = refl
    kept false c = refl

    -- of its own slot
    own : (w : ℕ) → w < 16
        → (bit (get_or (set rest k x) k 0) w && not (is_in (64 * i + 16 * p + w) tail)) ≡ (bit (get_or rest k 0) w && not (is_in (64 * i + 16 * p + w) (key ∷ tail)))
    own w hw =
        ap (λ (n : ℕ). bit n w && not (is_in (64 * i + 16 * p + w) tail)) (get_or-set_same rest k x 0 (omega (arith, r.long)))
        ∙ ap (λ (c : Bool). c && not (is_in (64 * i + 16 * p + w) tail)) (less w hw)
        ∙ elim (ℕ_discrete w u) [
          | yes q ↦
              ap (λ (c : Bool). (bit (get_or rest k 0) w && not c) && not (is_in (64 * i + 16 * p + w) tail)) (eq-eqb w u q)
              ∙ gone (bit (get_or rest k 0) w) _
              ∙ sym (ap (λ (n : ℕ). bit (get_or rest k 0) w && not (is_in (64 * i + 16 * p + n) (key ∷ tail))) q
              ∙ ap (λ (c : Bool). bit (get_or rest k 0) w && not c) (first_in key tail))
          | no q ↦
              ap (λ (c : Bool). (bit (get_or rest k 0) w && not c) && not (is_in (64 * i + 16 * p + w) tail)) (ne_eqb w u q)
              ∙ kept (bit (get_or rest k 0) w) _
              ∙ sym (ap (λ (c : Bool). bit (get_or rest k 0) w && not c) (other_in (64 * i + 16 * p + w) key tail (λ z. q (omega arith))))
        ]

    step : (a q w : ℕ) → a < 16 → q < 4 → w < 16
        → (bit (get_or (set rest k x) (16 * q + a) 0) w && not (is_in (64 * a + 16 * q + w) tail))
        ≡ (bit (get_or rest (16 * q + a) 0) w && not (is_in (64 * a + 16 * q + w) (key ∷ tail)))
    step a q w ha hq hw = elim (ℕ_discrete (16 * q + a) k) [
      | yes z ↦
          let m : 64 * a + 16 * q + w ≡ 64 * i + 16 * p + w = omega arith in
          ap₂ (λ (n c : ℕ). bit (get_or (set rest k x) n 0) w && not (is_in c tail)) z m ∙ own w hw
          ∙ sym (ap₂ (λ (n c : ℕ). bit (get_or rest n 0) w && not (is_in c (key ∷ tail))) z m)
      | no z ↦
          ap (λ (n : ℕ). bit n w && not (is_in (64 * a + 16 * q + w) tail)) (get_or-set_other rest k (16 * q + a) x 0 z)
          ∙ sym (ap (λ (c : Bool). bit (get_or rest (16 * q + a) 0) w && not c) (other_in (64 * a + 16 * q + w) key tail (λ y. z (omega arith))))
    ]

    pub one_taken : TakenTo sets chosen (j + 1) (set rest k x)
    one_taken =
        let s : drop j chosen ≡ key ∷ drop (suc j) chosen = drop-cons chosen j 0 b ∙ ap (λ (z : ℕ). z ∷ drop (suc j) chosen) (sym e) in
        rw add-one (record {
          long = length-set rest k x ∙ r.long;
          same = λ a q w ha hq hw.
              step a q w ha hq hw ∙ ap (λ (l : List ℕ). bit (get_or rest (16 * q + a) 0) w && not (is_in (64 * a + 16 * q + w) l)) (sym s) ∙ r.same a q w ha hq hw;
        })

  pub all_taken : j ≡ length chosen → Without sets chosen rest
  unfolding Without is_in
  all_taken q i p u h l k =
      let e : drop j chosen ≡ [] = ap (λ (n : ℕ). drop n chosen) q ∙ drop-length chosen in
      sym (whole (bit (get_or rest (16 * p + i) 0) u))
      ∙ sym (ap (λ (l : List ℕ). bit (get_or rest (16 * p + i) 0) u && not (is_in (64 * i + 16 * p + u) l)) e)
      ∙ r.same i p u h l k
    where
      whole : (b : Bool) → (b && true) ≡ b
      whole true = refl
      whole false = refl

-- ---- the choice in memory
pub listed_length : (s : List ℕ) (at : ℕ) → length (listed s at) ≡ row_count s at
unfolding listed
listed_length s at = length_row (row_count s at) (row_key s at)

pub listed_at : (s : List ℕ) (at j : ℕ) → j < row_count s at → get_or (listed s at) j 0 ≡ row_key s at j
unfolding listed
listed_at s at j h = row_at (row_count s at) (row_key s at) j 0 h

pub key_small : (s : List ℕ) (at : ℕ) → AreVertices s at → (j : ℕ) → j < row_count s at → row_key s at j < 1024
unfolding AreVertices row_key
key_small s at v j h = let e = v j h in let x = e.0 in let y = e.1 in let z = e.2 in omega arith

pub slot_small : (s : List ℕ) (at : ℕ) → AreVertices s at → (j : ℕ) → j < row_count s at → row_slot s at j < 64
unfolding AreVertices row_slot
slot_small s at v j h = let e = v j h in let x = e.0 in let y = e.1 in omega arith

-- the first j keys are those of the row
abbrev pub KeptTo : List ℕ → ℕ → ℕ → List ℕ → Type 0
KeptTo s at j keys = (k : ℕ) → k < j → get_or keys k 0 ≡ row_key s at k

pub one_kept : (s : List ℕ) (at j : ℕ) (keys : List ℕ) (x : ℕ) → KeptTo s at j keys → j < length keys → x ≡ row_key s at j → KeptTo s at (j + 1) (set keys j x)
one_kept s at j keys x kept b e k h = elim (ℕ_discrete k j) [
  | yes q ↦ ap (λ (n : ℕ). get_or (set keys j x) n 0) q ∙ get_or-set_same keys j x 0 b ∙ e ∙ ap (row_key s at) (sym q)
  | no q ↦ get_or-set_other keys j k x 0 q ∙ kept k (omega arith)
]

pub all_kept : (s : List ℕ) (at count : ℕ) (keys : List ℕ) → AreVertices s at → count ≡ row_count s at → count ≤ 8 → KeptTo s at count keys
    → row (min count 8) (λ j. get_or keys j 0 % 1024) ≡ listed s at
all_kept s at count keys v e h kept =
    let n : min count 8 ≡ count = omega arith in
    ap (λ (k : ℕ). row k (λ j. get_or keys j 0 % 1024)) n
    ∙ row_same count 0 (λ j. get_or keys j 0 % 1024) (listed s at) (listed_length s at ∙ sym e) (λ k b.
    let x = key_small s at v k (omega arith) in
    let y = kept k b in
    let z : get_or keys k 0 % 1024 ≡ row_key s at k = omega arith in
    z ∙ sym (listed_at s at k (omega arith)))

-- ---- 46
or_false : (a b : Bool) → (a || b) ≡ false → (a ≡ false) × (b ≡ false)
or_false true b h = absurd (clash refl h)
or_false false b h = (refl, h)

or_true : (a b : Bool) → (a || b) ≡ true → (a ≡ true) ⊎ (b ≡ true)
or_true true b h = inl refl
or_true false b h = inr h

-- a set that is not empty has a member
some_member : (x : ℕ) → (x ≡ 0 → ⊥) → x < 2 ^ 16 → (u : ℕ) × (u < 16) × (bit x u ≡ true)
some_member x d h =
    let p : 0 < x = omega (arith, zero_or x d) in
    (count_trailing_zeros 16 x, lowest_lt 16 x p h, (lowest 16 x p h).here)
  where
    zero_or : (x : ℕ) → (x ≡ 0 → ⊥) → 0 < x
    zero_or zero d = absurd (d refl)
    zero_or (suc x) d = omega arith

module _ (t : Table) (st : State) (s : List ℕ) (at : ℕ) (inside : all_in (available_sets t st) s at ≡ true) (rest : List ℕ) (small : (k : ℕ) → k < 64 → get_or rest k 0 < 2 ^ 16)
    (without : Without (available_sets t st) (listed s at) rest) (most : ℕ) (e : most ≡ largest (row_count s at) (λ j. get_or (row 64 (left_at st)) (row_slot s at j) 0)) where
  -- the ticks left of slot k
  abbrev ticks : ℕ → ℕ
  ticks k = get_or (row 64 (left_at st)) k 0

  -- of an available vertex, whose job is live
  left_of : (i p u : ℕ) → i < 16 → p < 4 → u < 16 → available t st (64 * i + 16 * p + u) ≡ true → left_in st (64 * i + 16 * p + u) ≡ ticks (16 * p + i)
  unfolding left_in left_at
  left_of i p u h l k a =
      let task = name_task i p u l k in
      let age = name_age i p u l k in
      let lives : live st i p ≡ true = sym (ap₂ (live st) task age) ∙ (available_is t st (64 * i + 16 * p + u) a).lives in
      ap₂ (left st) task age
      ∙ sym (row_at 64 (left_at st) (16 * p + i) 0 (omega arith)
      ∙ ap₂ (λ (x y : ℕ). pick (live st x y) (left st x y) 0) (slot_task i p h) (slot_age i p h)
      ∙ ap (λ (c : Bool). pick c (left st i p) 0) lives)

  listed_left : (j : ℕ) → j < row_count s at → left_in st (row_key s at j) ≡ ticks (row_slot s at j)
  unfolding row_key row_slot triple_available
  listed_left j h =
      let a = all_at (row_count s at) (λ j. triple_available t st (row_task s at j) (row_age s at j) (row_vertex s at j)) (sym (in_all t st s at) ∙ inside) j h in
      let v = three_true (row_task s at j) (row_age s at j) (row_vertex s at j) _ a in
      left_of (row_task s at j) (row_age s at j) (row_vertex s at j) v.0 v.1 v.2 v.3

  -- the vertices that are left are available and not listed
  rest_at : (i p u : ℕ) → i < 16 → p < 4 → u < 16
      → bit (get_or rest (16 * p + i) 0) u ≡ (available t st (64 * i + 16 * p + u) && not (is_in (64 * i + 16 * p + u) (listed s at)))
  unfolding Without
  rest_at i p u h l k =
      without i p u h l k ∙ ap (λ (b : Bool). b && not (is_in (64 * i + 16 * p + u) (listed s at))) (set_at t st i p u h l k)

  -- no slot that is left has fewer ticks left than a listed one
  abbrev later : ℕ → Bool
  later k = eqb (get_or rest k 0) 0 || leb most (ticks k)

  sooner : (i p : ℕ) → i < 16 → p < 4 → later (16 * p + i) ≡ false → passes_over t st (listed s at) ≡ true
  unfolding availables
  sooner i p h l f =
      let o = or_false (eqb (get_or rest (16 * p + i) 0) 0) (leb most (ticks (16 * p + i))) f in
      let m = some_member (get_or rest (16 * p + i) 0) (eqb-false (get_or rest (16 * p + i) 0) 0 o.0) (small (16 * p + i) (omega arith)) in
      let u = m.0 in
      let hu = m.1 in
      let less = leb-false most (ticks (16 * p + i)) o.1 in
      let a = both_true (available t st (64 * i + 16 * p + u)) _ (sym (rest_at i p u h l hu) ∙ m.2) in
      ⊎_elim
      (λ none. absurd (omega arith))
      (λ some.
      let j = some.0 in
      let x = left_of i p u h l hu a.0 in
      let y = listed_left j some.1 in
      let z = some.2 in
      let n = listed_length s at in
      let k : j < length (listed s at) = let q = some.1 in omega arith in
      passes_over_lem t st (listed s at) (64 * i + 16 * p + u) (row_key s at j)
      (below_all 1024 (available t st) (64 * i + 16 * p + u) (omega arith) a.0)
      (not-true _ a.1)
      (ap (λ (c : ℕ). is_in c (listed s at)) (sym (listed_at s at j some.1)) ∙ at_in (listed s at) j k)
      (lt-ltb (left_in st (64 * i + 16 * p + u)) (left_in st (row_key s at j)) (omega arith)))
      (largest_some (row_count s at) (λ j. ticks (row_slot s at j)))

  -- an available vertex that is not listed is left
  left_in_lem : (i p u : ℕ) → i < 16 → p < 4 → u < 16 → available t st (64 * i + 16 * p + u) ≡ true → not (is_in (64 * i + 16 * p + u) (listed s at)) ≡ true
      → all 64 later ≡ true → most ≤ left_in st (64 * i + 16 * p + u)
  left_in_lem i p u h l k a n all-later =
      let c : bit (get_or rest (16 * p + i) 0) u ≡ true = rest_at i p u h l k ∙ and_true (available t st (64 * i + 16 * p + u)) _ a n in
      ⊎_elim
      (λ z. absurd (clash c (ap (λ (n : ℕ). bit n u) (eqb-true (get_or rest (16 * p + i) 0) 0 z) ∙ bit_zero u)))
      (λ z. let m = leb-true most (ticks (16 * p + i)) z in let f = left_of i p u h l k a in omega arith)
      (or_true (eqb (get_or rest (16 * p + i) 0) 0) (leb most (ticks (16 * p + i))) (all_at 64 later all-later (16 * p + i) (omega arith)))

  none_sooner : all 64 later ≡ true → passes_over t st (listed s at) ≡ true → ⊥
  unfolding passes_over availables listed
  none_sooner h o =
      let x = any_some (those_below 1024 (available t st)) _ o in
      let a = x.0 in
      let p = below_pass 1024 (available t st) a x.1 in
      let b = p.0 in
      let y = both_true (not (is_in a (listed s at))) _ x.2 in
      let z = any_some (listed s at) _ y.1 in
      let r = in_row (row_count s at) (row_key s at) z.0 z.1 in
      let l = ltb-true (left_in st a) (left_in st z.0) z.2 in
      let w = listed_left r.0 r.1 in
      let v = ap (left_in st) r.2 in
      let g = largest_most (row_count s at) (λ j. ticks (row_slot s at j)) r.0 r.1 in
      let n = name_of a in
      let f = left_in_lem (task_in a) (age_in a) (vertex_in a) (let q = age_below a in omega arith) (age_below a) (vertex_below a)
      (ap (available t st) n ∙ p.1) (ap (λ (c : ℕ). not (is_in c (listed s at))) n ∙ y.0) h in
      let m = ap (left_in st) n in
      omega arith

  -- AN EARLIER DEADLINE IS PASSED OVER just if a slot that is left has fewer ticks left than the most of those listed
  pub over_is : not (all 64 later) ≡ passes_over t st (listed s at)
  over_is = go (all 64 later) refl
    where
      go : (b : Bool) → all 64 later ≡ b → not b ≡ passes_over t st (listed s at)
      go true h = sym (off_when _ (none_sooner h))
      go false h =
          let r = all_not 64 later h in
          let k = r.0 in
          let b = r.1 in
          sym (sooner (k % 16) (k / 16) (omega arith) (omega arith) (ap later (slot_of k) ∙ r.2))
