-- Closing a gap: the slots of a set of tasks; the source of a slot, which is the slot whose job comes to stand there; and sixteen numbers that are moved from
-- one slot to another. The source is found by counting those that go on: the q-th of them is the one below which q go on.
use Rattle.std.proofs.Common.{◌≡◌, ℕ, zero, suc, ◌+◌, ◌-◌, ◌*◌, ◌/◌, ◌%◌, ◌^◌, ◌<◌, ◌≤◌, Bool, true, false, eqb, ltb, List, ◌∷◌, ◌++◌, length, get_or, take, drop, replicate, sym, refl, ap, ◌∙◌, add-zero, zero-add, arith, rules, le-ltb, lt-ltb, eq-eqb, ne_eqb}
use Rattle.std.proofs.lemmas.List.{places, get_or_append_left, get_or-append_right}
use native.Mathlib.Decide.{ℕ_discrete, dec_lt}
use lib.Bits.{block_half, block_odd}
use borrow.Rule.Slice.PartMut.{put_mid}
use Rattle.std.specs.List.{CopiedTo, SameBelow, SameFrom}
use Rattle.graph.specs.Words.{flag, pick, bit, sum, row_from, row, also_if, those, those_below, set_of}
use Rattle.graph.proofs.Facts.{clash, sum_first, sum_same, count_below}
use Rattle.graph.proofs.Bits.{bit_low, bit_up}
use Rattle.graph.proofs.Sets.{set_is}
use Rattle.machine.specs.Rows.{going_by, source_by, closed_by}
use Rattle.machine.proofs.Gathering.{bit_shr}
use Rattle.machine.proofs.Places.{below_at, below_next}
use Rattle.machine.proofs.Filling.{row_same, same_throughout}

-- ---- the slots of a set of tasks: the sixteen bits four times
bit_plus : (n x y j : ℕ) → j < n → bit (y * 2 ^ n + x) j ≡ bit x j
bit_plus zero x y j l = absurd (omega arith)
bit_plus (suc n) x y zero l = bit_low (y * 2 ^ suc n + x) ∙ ap (λ (m : ℕ). eqb m 1) (block_odd y n x) ∙ sym (bit_low x)
bit_plus (suc n) x y (suc j) l =
    bit_up (y * 2 ^ suc n + x) j ∙ ap (λ (m : ℕ). bit m j) (block_half y n x) ∙ bit_plus n (x / 2) y j (omega arith) ∙ sym (bit_up x j)

module _ (tasks all : ℕ) (sixteen : tasks < 65536) (e : all ≡ tasks * 281479271743489) where
  -- past k bits of it, what is left has the sixteen lowest
  four_times : (k y s : ℕ) → all / 2 ^ k ≡ y * 2 ^ 16 + tasks → k ≤ s → s - k < 16 → s % 16 ≡ s - k → bit all s ≡ bit tasks (s % 16)
  four_times k y s q l b m =
      let z : s ≡ k + (s - k) = omega arith in
      ap (bit all) z ∙ sym (bit_shr all k (s - k)) ∙ ap (λ (n : ℕ). bit n (s - k)) q ∙ bit_plus 16 tasks y (s - k) b ∙ ap (bit tasks) (sym m)

  pub slots_are : all ≡ set_of 64 (λ s. bit tasks (s % 16))
  slots_are = set_is 64 all _ (omega arith) (λ s b. elim (dec_lt s 16) [
    | yes a ↦ four_times 0 (tasks * 4295032833) s (omega arith) (omega arith) (omega arith) (omega arith)
    | no a ↦ elim (dec_lt s 32) [
      | yes c ↦ four_times 16 (tasks * 65537) s (omega arith) (omega arith) (omega arith) (omega arith)
      | no c ↦ elim (dec_lt s 48) [
        | yes d ↦ four_times 32 tasks s (omega arith) (omega arith) (omega arith) (omega arith)
        | no d ↦ four_times 48 0 s (omega arith) (omega arith) (omega arith) (omega arith)
      ]
    ]
  ])

-- ---- the source of a slot
-- of those that pass a test, the one before which q stand is the one below which q pass
nth_from : (k i d : ℕ) (f : ℕ → Bool) → d < k → f (i + d) ≡ true
    → (sum d (λ j. flag (f (i + j))) < length (those f (row_from k i (λ j. j)))) × (get_or (those f (row_from k i (λ j. j))) (sum d (λ j. flag (f (i + j)))) 0 ≡ i + d)
unfolding those row_from sum flag also_if
nth_from zero i d f l e = absurd (omega arith)
nth_from (suc k) i zero f l e = here (f i) (sym (ap f (add-zero i)) ∙ e)
  where
    here : (c : Bool) → c ≡ true → (0 < length (also_if c i (those f (row_from k (suc i) (λ j. j))))) × (get_or (also_if c i (those f (row_from k (suc i) (λ j. j)))) 0 0 ≡ i + 0)
    here true z = (omega arith, sym (add-zero i))
    here false z = absurd (clash z refl)
nth_from (suc k) i (suc d) f l e = go (f i) refl (nth_from k (suc i) d f (omega arith) (ap f up ∙ e))
  where
    up : suc i + d ≡ i + suc d
    up = omega arith

    shift : sum d (λ j. flag (f (suc i + j))) ≡ sum d (λ j. flag (f (i + suc j)))
    shift = sum_same d _ _ (λ j b. let e : suc i + j ≡ i + suc j = omega arith in ap (λ (x : ℕ). flag (f x)) e)

    first : sum (suc d) (λ j. flag (f (i + j))) ≡ flag (f (i + 0)) + sum d (λ j. flag (f (i + suc j)))
    first = sum_first d (λ j. flag (f (i + j)))

    head : (b : Bool) → f i ≡ b → flag (f (i + 0)) ≡ flag b
    head b e = ap flag (ap f (add-zero i) ∙ e)

    later : List ℕ
    later = those f (row_from k (suc i) (λ j. j))

    go : (b : Bool) → f i ≡ b → (sum d (λ j. flag (f (suc i + j))) < length later) × (get_or later (sum d (λ j. flag (f (suc i + j)))) 0 ≡ suc i + d)
        → (sum (suc d) (λ j. flag (f (i + j))) < length (also_if b i later)) × (get_or (also_if b i later) (sum (suc d) (λ j. flag (f (i + j)))) 0 ≡ i + suc d)
    go true q h =
        let t : sum (suc d) (λ j. flag (f (i + j))) ≡ suc (sum d (λ j. flag (f (suc i + j)))) = omega (arith, shift, first, head true q) in
        (omega (arith, h.0, t), ap (λ (x : ℕ). get_or (i ∷ later) x 0) t ∙ h.1 ∙ up)
    go false q h =
        let t : sum (suc d) (λ j. flag (f (i + j))) ≡ sum d (λ j. flag (f (suc i + j))) = omega (arith, shift, first, head false q) in
        (omega (arith, h.0, t), ap (λ (x : ℕ). get_or later x 0) t ∙ h.1 ∙ up)

pub nth_is : (n p : ℕ) (f : ℕ → Bool) → p < n → f p ≡ true → (sum p (λ j. flag (f j)) < length (those_below n f)) × (get_or (those_below n f) (sum p (λ j. flag (f j))) 0 ≡ p)
unfolding those_below row
nth_is n p f b e =
    let z : sum p (λ j. flag (f (0 + j))) ≡ sum p (λ j. flag (f j)) = sum_same p _ _ (λ j c. ap (λ (x : ℕ). flag (f x)) (zero-add j)) in
    let r = nth_from n 0 p f b (ap f (zero-add p) ∙ e) in
    (omega (arith, r.0, z), ap (λ (x : ℕ). get_or (those f (row_from n 0 (λ j. j))) x 0) (sym z) ∙ r.1 ∙ zero-add p)

-- the q-th is no lower than q
nth_least : (n q : ℕ) (f : ℕ → Bool) → q < length (those_below n f) → q ≤ get_or (those_below n f) q 0
nth_least n zero f b = omega arith
nth_least n (suc q) f b = let r = nth_least n q f (omega arith) in let m = below_next n f q b in omega arith

-- the places of a slot's task that go on
abbrev onward : ℕ → ℕ → List ℕ
onward going s = going_by going (s % 16)

module _ (going s : ℕ) where
  source_in : s / 16 < length (onward going s) → source_by going s ≡ 16 * get_or (onward going s) (s / 16) 0 + s % 16
  unfolding source_by
  source_in b = rw (lt-ltb (s / 16) (length (onward going s)) b) refl

  source_out : length (onward going s) ≤ s / 16 → source_by going s ≡ 64
  unfolding source_by
  source_out b = rw (le-ltb (s / 16) (length (onward going s)) b) refl

  -- as the code finds it: as many go on below place p as are wanted
  pub source_found : (p : ℕ) → p < 4 → bit going (16 * p + s % 16) ≡ true → sum p (λ j. flag (bit going (16 * j + s % 16))) ≡ s / 16 → 16 * p + s % 16 ≡ source_by going s
  unfolding going_by
  source_found p b e n =
      let r = nth_is 4 p (λ j. bit going (16 * j + s % 16)) b e in
      let q : get_or (those_below 4 (λ j. bit going (16 * j + s % 16))) (s / 16) 0 ≡ p = ap (λ (x : ℕ). get_or (those_below 4 (λ j. bit going (16 * j + s % 16))) x 0) (sym n) ∙ r.1 in
      ap (λ (x : ℕ). 16 * x + s % 16) (sym q) ∙ sym (source_in (omega (arith, r.0)))

  pub source_none : sum 4 (λ j. flag (bit going (16 * j + s % 16))) ≤ s / 16 → 64 ≡ source_by going s
  unfolding going_by
  source_none n = sym (source_out (omega (arith, count_below 4 (λ j. bit going (16 * j + s % 16)))))

  -- a source goes on; it is a slot of the same task, at or above the one that takes from it
  pub record Source (from : ℕ) : Type 0 where
    pub goes : bit going from ≡ true
    pub task : from % 16 ≡ s % 16
    pub above : s ≤ from

  pub source_is : source_by going s < 64 → Source (source_by going s)
  unfolding going_by
  source_is h = elim (dec_lt (s / 16) (length (onward going s))) [
    | yes b ↦
        let e = source_in b in
        let r = below_at 4 (λ j. bit going (16 * j + s % 16)) (s / 16) b in
        let m = nth_least 4 (s / 16) (λ j. bit going (16 * j + s % 16)) b in
        record { goes = ap (bit going) e ∙ r.1; task = omega arith; above = omega arith }
    | no b ↦ let e = source_out (omega arith) in absurd (omega arith)
  ]

  -- WHAT STANDS AT A SLOT AFTERWARDS, by its source
  pub by_source {ℓ} : {X : Type ℓ} (over : ℕ) (f : ℕ → X) (none : X)
      → closed_by over going s f none ≡ pick (bit over (s % 16)) (pick (ltb (source_by going s) 64) (f (source_by going s)) none) (f s)
  unfolding closed_by going_by
  by_source over f none = elim (dec_lt (s / 16) (length (onward going s))) [
    | yes b ↦
        let e = source_in b in
        let r = below_at 4 (λ j. bit going (16 * j + s % 16)) (s / 16) b in
        let l : source_by going s < 64 = omega (arith, r.0) in
        rw (lt-ltb (s / 16) (length (onward going s)) b, lt-ltb (source_by going s) 64 l, e) refl
    | no b ↦
        let e = source_out (omega arith) in
        rw (le-ltb (s / 16) (length (onward going s)) (omega arith), le-ltb (source_by going s) 64 (omega arith)) refl
  ]

-- ---- the sixteen numbers of a slot that are written, and all others as they were
module _ (to : ℕ) (before now : List ℕ) (size : length now ≡ 1024) (f : ℕ → ℕ) (put : (w : ℕ) → w < 16 → get_or now (16 * to + w) 0 ≡ f w)
    (low : (k : ℕ) → k < 16 * to → get_or now k 0 ≡ get_or before k 0) (high : (k : ℕ) → 16 * to + 16 ≤ k → get_or now k 0 ≡ get_or before k 0) where
  put_slot : now ≡ row 1024 (λ k. pick (eqb (k / 16) to) (f (k % 16)) (get_or before k 0))
  put_slot = sym (row_same 1024 0 _ now size (λ k b. elim (ℕ_discrete (k / 16) to) [
    | yes q ↦ rw (eq-eqb (k / 16) to q) (let z : 16 * to + k % 16 ≡ k = omega arith in sym (put (k % 16) (omega arith)) ∙ ap (λ (j : ℕ). get_or now j 0) z)
    | no q ↦ rw (ne_eqb (k / 16) to q) (elim (dec_lt k (16 * to)) [
      | yes l ↦ sym (low k l)
      | no l ↦ sym (high k (omega arith))
    ])
  ]))

-- from another slot
pub slot_moved : (to from n : ℕ) (before now : List ℕ) → length now ≡ 1024 → n ≡ 16
    → CopiedTo before now (16 * from) (16 * to) n × SameBelow before now (16 * to) × SameFrom before now (16 * to + n)
    → now ≡ row 1024 (λ k. pick (eqb (k / 16) to) (get_or before (16 * from + k % 16) 0) (get_or before k 0))
slot_moved to from n before now size e h = put_slot to before now size (λ w. get_or before (16 * from + w) 0) (λ w b.
    let m : 16 * from + (16 * to + w - 16 * to) ≡ 16 * from + w = omega arith in
    h.0 (16 * to + w) 0 (omega arith) (omega arith) ∙ ap (λ (j : ℕ). get_or before j 0) m) (λ k l. h.1 k 0 l) (λ k l. h.2 k 0 (omega arith))

-- by zeros
pub slot_cleared : (to n : ℕ) (before part : List ℕ) → to < 64 → length before ≡ 1024 → n ≡ 16 → part ≡ replicate 16 0
    → put_mid (16 * to) n before part ≡ row 1024 (λ k. pick (eqb (k / 16) to) 0 (get_or before k 0))
slot_cleared to n before part b long e z =
    let l : length part ≡ 16 = ap length z in
    let a : length (take (16 * to) before) ≡ 16 * to = search (rules, places) in
    put_slot to before (put_mid (16 * to) n before part) (search (rules, places)) (λ w. 0)
    (λ w c.
    let m : 16 * to + w - 16 * to ≡ w = omega arith in
    get_or-append_right (take (16 * to) before) (part ++ drop n (drop (16 * to) before)) (16 * to) (16 * to + w) 0 a (omega arith)
    ∙ ap (λ (j : ℕ). get_or (part ++ drop n (drop (16 * to) before)) j 0) m
    ∙ get_or_append_left part (drop n (drop (16 * to) before)) 0 w (omega arith)
    ∙ ap (λ (l : List ℕ). get_or l w 0) z ∙ same_throughout 16 w 0)
    (λ k c. search (rules, places))
    (λ k c. search (rules, places))
