-- The slot of a set that ranks first: by ticks left, then task, then age place. `before_by` is a strict order of the sixty-four slots, so the better of
-- the first of those passed and the next one is the first of them all.
use Rattle.std.proofs.Common.{◌≡◌, ℕ, ◌-◌, ◌^◌, ◌<◌, Bool, true, false, ◌&&◌, ◌||◌, ltb, ◌⊎◌, List, get_or, sym, refl, ap, ◌∙◌, inl, inr, ⊎_elim, arith, ltb-false, ltb-true, le-ltb, lt-ltb, eq-eqb, ne_eqb}
use mathlib.Core.Bool.{cond}
use mathlib.Core.Path.{subst⁻¹}
use native.Mathlib.Decide.{ℕ_discrete, dec_lt}
use lib.Bits.{bit_and}
use lib.Count.{count_trailing_zeros}
use Rattle.std.specs.declared.option.Option.TheVariants.{Some}
use Rattle.std.specs.declared.cmp.Ordering.TheVariants.{Less, Equal, Greater}
use Rattle.std.specs.Ordering.{partial_ordering_then, is_some_and, is_lt}
use Rattle.graph.specs.Words.{bit}
use Rattle.graph.proofs.Facts.{clash}
use Rattle.graph.proofs.Bits.{bit_zero}
use Rattle.machine.specs.Rows.{order_of, before_by, RanksFirst}
use Rattle.machine.proofs.Sweeping.{first_small, first_in, first_out, falls, others_same, still_in}

-- ---- as the code compares two pairs
pub pair_before : (l e l' e' : Bool)
    → is_some_and is_lt (partial_ordering_then (Some (cond l Less (cond e Equal Greater))) (Some (cond l' Less (cond e' Equal Greater)))) ≡ (l || (e && l'))
pair_before true e l' e' = refl
pair_before false true true e' = refl
pair_before false true false true = refl
pair_before false true false false = refl
pair_before false false l' e' = refl

module _ (ticks : List ℕ) where
  -- slot a ranks before slot b
  abbrev pub SlotBefore : ℕ → ℕ → Type 0
  SlotBefore a b = (get_or ticks a 0 < get_or ticks b 0) ⊎ ((get_or ticks a 0 ≡ get_or ticks b 0) × (order_of a < order_of b))

  module _ (a b : ℕ) where
    -- ---- `before_by` tests it
    pub by_fewer : get_or ticks a 0 < get_or ticks b 0 → before_by ticks a b ≡ true
    unfolding before_by
    by_fewer l = rw (lt-ltb (get_or ticks a 0) (get_or ticks b 0) l) refl

    pub by_more : get_or ticks b 0 < get_or ticks a 0 → before_by ticks a b ≡ false
    unfolding before_by
    by_more l = rw (le-ltb (get_or ticks a 0) (get_or ticks b 0) (omega arith), ne_eqb (get_or ticks a 0) (get_or ticks b 0) (λ e. omega arith)) refl

    pub by_order : get_or ticks a 0 ≡ get_or ticks b 0 → before_by ticks a b ≡ ltb (order_of a) (order_of b)
    unfolding before_by
    by_order e = rw (le-ltb (get_or ticks a 0) (get_or ticks b 0) (omega arith), eq-eqb (get_or ticks a 0) (get_or ticks b 0) e) refl

    pub slot_before : before_by ticks a b ≡ true → SlotBefore a b
    slot_before h = elim (ℕ_discrete (get_or ticks a 0) (get_or ticks b 0)) [
      | yes e ↦ inr (e, ltb-true (order_of a) (order_of b) (sym (by_order e) ∙ h))
      | no d ↦ elim (dec_lt (get_or ticks a 0) (get_or ticks b 0)) [
        | yes l ↦ inl l
        | no l ↦ absurd (clash h (by_more (omega arith)))
      ]
    ]

    pub before_slot : SlotBefore a b → before_by ticks a b ≡ true
    before_slot r = ⊎_elim by_fewer (λ k. by_order k.0 ∙ lt-ltb (order_of a) (order_of b) k.1) r

  -- ---- a strict order of the slots
  transitive : (a b c : ℕ) → SlotBefore a b → SlotBefore b c → SlotBefore a c
  transitive a b c p q = ⊎_elim
      (λ x. ⊎_elim (λ y. inl (omega arith)) (λ y. inl (omega (arith, y.0))) q)
      (λ x. ⊎_elim (λ y. inl (omega (arith, x.0))) (λ y. inr (x.0 ∙ y.0, omega (arith, x.1, y.1))) q)
      p

  -- one order, one slot
  same_slot : (a b : ℕ) → a < 64 → b < 64 → order_of a ≡ order_of b → a ≡ b
  same_slot a b h k e = omega arith

  other_way : (a b : ℕ) → a < 64 → b < 64 → (a ≡ b → ⊥) → before_by ticks a b ≡ false → SlotBefore b a
  other_way a b h k d n = elim (ℕ_discrete (get_or ticks a 0) (get_or ticks b 0)) [
    | yes e ↦
        let l = ltb-false (order_of a) (order_of b) (sym (by_order a b e) ∙ n) in
        elim (ℕ_discrete (order_of a) (order_of b)) [
          | yes q ↦ absurd (d (same_slot a b h k q))
          | no q ↦ inr (sym e, omega arith)
        ]
    | no q ↦ elim (dec_lt (get_or ticks a 0) (get_or ticks b 0)) [
      | yes l ↦ absurd (clash (by_fewer a b l) n)
      | no l ↦ inl (omega arith)
    ]
  ]

-- ---- the loop: `best` ranks first of the members of `among` that are not in `rest`
pub record Leads (ticks : List ℕ) (among rest best : ℕ) : Type 0 where
  pub narrow : rest < 2 ^ 64
  pub slot : best < 64
  pub member : bit among best ≡ true
  pub passed : bit rest best ≡ false
  pub part : (j : ℕ) → bit rest j ≡ true → bit among j ≡ true
  pub first : (j : ℕ) → j < 64 → bit among j ≡ true → bit rest j ≡ false → (j ≡ best → ⊥) → before_by ticks best j ≡ true

module _ (ticks : List ℕ) (among : ℕ) where
  pub leads_one : 0 < among → among < 2 ^ 64 → (best : ℕ) → best ≡ count_trailing_zeros 64 among → Leads ticks among (bit_and among (among - 1)) best
  leads_one p h best e = subst⁻¹ (Leads ticks among (bit_and among (among - 1))) e (record {
    narrow = omega (arith, falls among p h);
    slot = first_small among p h;
    member = first_in among p h;
    passed = first_out among p h;
    part = λ j i. (still_in among p h j i).0;
    first = λ j b i o d. absurd (clash (others_same among p h j d ∙ i) o);
  })

  module _ (rest best s : ℕ) (r : Leads ticks among rest best) (p : 0 < rest) (e : s ≡ count_trailing_zeros 64 rest) where
    abbrev later : ℕ
    later = bit_and rest (rest - 1)

    here : bit rest s ≡ true
    here = ap (bit rest) e ∙ first_in rest p r.narrow

    out : bit later s ≡ false
    out = ap (bit later) e ∙ first_out rest p r.narrow

    small : s < 64
    small = let z = first_small rest p r.narrow in omega arith

    differ : s ≡ best → ⊥
    differ q = clash here (ap (bit rest) q ∙ r.passed)

    -- not in the rest any more: passed before, or s
    before : (j : ℕ) → bit later j ≡ false → (j ≡ s → ⊥) → bit rest j ≡ false
    before j o d = sym (others_same rest p r.narrow j (λ q. d (q ∙ sym e))) ∙ o

    -- s ranks before the best so far
    pub leads_new : before_by ticks s best ≡ true → Leads ticks among later s
    leads_new h = record {
      narrow = omega (arith, falls rest p r.narrow, r.narrow);
      slot = small;
      member = r.part s here;
      passed = out;
      part = λ j i. r.part j (still_in rest p r.narrow j i).0;
      first = λ j b i o d. elim (ℕ_discrete j best) [
        | yes q ↦ ap (before_by ticks s) q ∙ h
        | no q ↦ before_slot ticks s j (transitive ticks s best j (slot_before ticks s best h) (slot_before ticks best j (r.first j b i (before j o d) q)))
      ];
    }

    -- it does not
    pub leads_still : before_by ticks s best ≡ false → Leads ticks among later best
    leads_still h = record {
      narrow = omega (arith, falls rest p r.narrow, r.narrow);
      slot = r.slot;
      member = r.member;
      passed = others_same rest p r.narrow best (λ q. differ (e ∙ sym q)) ∙ r.passed;
      part = λ j i. r.part j (still_in rest p r.narrow j i).0;
      first = λ j b i o d. elim (ℕ_discrete j s) [
        | yes q ↦ ap (before_by ticks best) q ∙ before_slot ticks best s (other_way ticks s best small r.slot differ h)
        | no q ↦ r.first j b i (before j o q) d
      ];
    }

  pub leads_all : (rest best : ℕ) → Leads ticks among rest best → rest ≡ 0 → RanksFirst among ticks best
  leads_all rest best r z = record {
    slot = r.slot;
    member = r.member;
    first = λ j b i d. r.first j b i (ap (λ (n : ℕ). bit n j) z ∙ bit_zero j) d;
  }
