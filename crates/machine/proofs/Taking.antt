-- Closing the gaps of the tasks in a set: a loop over their slots, from the lowest up, in which each takes over what stood at its source (proofs/Gaps.antt).
-- A source is of the same task, at or above the slot that takes from it: so it is still to come, and nothing that is still to be read was overwritten.
use Rattle.std.proofs.Common.{◌≡◌, ℕ, ◌+◌, ◌-◌, ◌*◌, ◌/◌, ◌%◌, ◌^◌, ◌<◌, ◌≤◌, Bool, true, false, not, ◌&&◌, ◌||◌, eqb, ltb, List, length, get_or, set, sym, refl, ap, ◌∙◌, one-mul, arith, length-set, get_or-set_other, get_or-set_same, le-ltb, lt-ltb, eq-eqb, ne_eqb}
use mathlib.Core.Path.{subst⁻¹}
use native.Mathlib.Decide.{ℕ_discrete, dec_lt}
use lib.Bits.{bit_and, bit_or, or_lt, and_le_l}
use lib.Pow.{pow-lt}
use lib.Count.{count_trailing_zeros}
use Rattle.graph.specs.Words.{pick, bit, row, set_of}
use Rattle.graph.proofs.Facts.{clash, length_row, row_at}
use Rattle.graph.proofs.Bits.{lowest, bit_or_lem, bit_and_lem, bit_zero, bit_one, bit_not}
use Rattle.graph.proofs.Sets.{set_small, bit_set, set_is}
use Rattle.machine.specs.Rows.{source_by, closed_by}
use Rattle.machine.proofs.Filling.{row_same}
use Rattle.machine.proofs.Sweeping.{first_small, first_in, falls, others_same, still_in}
use Rattle.machine.proofs.Gaps.{source_is, by_source}

-- ---- the slots of a set, from the lowest up: `rest` are those still to come, and all that were passed stand below them
pub record Passing (all rest : ℕ) : Type 0 where
  pub narrow : rest < 2 ^ 64
  pub part : (k : ℕ) → bit rest k ≡ true → bit all k ≡ true
  pub order : (j k : ℕ) → bit all j ≡ true → bit rest j ≡ false → bit rest k ≡ true → j < k

pub passing_none : (all : ℕ) → all < 2 ^ 64 → Passing all all
passing_none all h = record { narrow = h; part = λ k i. i; order = λ j k a b c. absurd (clash a b) }

module _ (all rest : ℕ) (r : Passing all rest) (p : 0 < rest) where
  abbrev now : ℕ
  now = count_trailing_zeros 64 rest

  pub passing_one : Passing all (bit_and rest (rest - 1))
  passing_one = record {
    narrow = omega (arith, falls rest p r.narrow, r.narrow);
    part = λ k i. r.part k (still_in rest p r.narrow k i).0;
    order = λ j k a b c. elim (ℕ_discrete j now) [
      | yes q ↦
          let z = still_in rest p r.narrow k c in
          elim (dec_lt k now) [
            | yes l ↦ absurd (clash z.0 ((lowest 64 rest p r.narrow).below k l))
            | no l ↦ let d = z.1 in elim (ℕ_discrete k now) [ yes m ↦ absurd (d m) | no m ↦ omega arith ]
          ]
      | no q ↦ r.order j k a (sym (others_same rest p r.narrow j q) ∙ b) (still_in rest p r.narrow k c).0
    ];
  }

  still_to_come : (k : ℕ) → bit all k ≡ true → now ≤ k → bit rest k ≡ true
  still_to_come k a l = go (bit rest k) refl
    where
      go : (c : Bool) → bit rest k ≡ c → bit rest k ≡ true
      go true e = e
      go false e = let z = r.order k now a e (first_in rest p r.narrow) in absurd (omega arith)

-- ---- what stands at each slot: at those that were passed what stood at their source, at all others what stood there
pub record Taken {ℓ} {X : Type ℓ} (all rest going : ℕ) (none : X) (before now : ℕ → X) : Type ℓ where
  pub done : (s : ℕ) → s < 64 → bit all s ≡ true → bit rest s ≡ false → now s ≡ pick (ltb (source_by going s) 64) (before (source_by going s)) none
  pub ahead : (s : ℕ) → s < 64 → bit rest s ≡ true → now s ≡ before s
  pub kept : (s : ℕ) → s < 64 → bit all s ≡ false → now s ≡ before s

module _ (over all going : ℕ) (slots : all ≡ set_of 64 (λ s. bit over (s % 16))) where
  all_at : (s : ℕ) → s < 64 → bit all s ≡ bit over (s % 16)
  all_at s b = ap (λ (x : ℕ). bit x s) slots ∙ bit_set 64 (λ s. bit over (s % 16)) s b

  pub all_small : all < 2 ^ 64
  all_small = omega (arith, slots, set_small (λ s. bit over (s % 16)) 64)

  module _ {ℓ} {X : Type ℓ} (none : X) (before : ℕ → X) where
    pub taken_none : Taken all all going none before before
    taken_none = record { done = λ s b i o. absurd (clash i o); ahead = λ s b i. refl; kept = λ s b o. refl }

    module _ (rest : ℕ) (was : ℕ → X) (r : Taken all rest going none before was) where
      pub taken_one : Passing all rest → (p : 0 < rest) (s from : ℕ) → s ≡ count_trailing_zeros 64 rest → from ≡ source_by going s → (now : ℕ → X)
          → now s ≡ pick (ltb from 64) (was from) none → ((k : ℕ) → k < 64 → (k ≡ s → ⊥) → now k ≡ was k) → Taken all (bit_and rest (rest - 1)) going none before now
      taken_one w p s from es ef now e others = record {
        done = λ k b i o. elim (ℕ_discrete k s) [
          | yes q ↦ ap now q ∙ e ∙ read (dec_lt from 64) ∙ ap (λ (j : ℕ). pick (ltb j 64) (before j) none) (ef ∙ ap (source_by going) (sym q))
          | no q ↦ others k b q ∙ r.done k b i (sym (others_same rest p w.narrow k (λ z. q (z ∙ sym es))) ∙ o)
        ];
        ahead = λ k b i. let z = still_in rest p w.narrow k i in others k b (λ q. z.1 (q ∙ es)) ∙ r.ahead k b z.0;
        kept = λ k b o. others k b (λ q. clash (ap (bit all) (q ∙ es) ∙ w.part (count_trailing_zeros 64 rest) (first_in rest p w.narrow)) o) ∙ r.kept k b o;
      }
        where
          -- what is read was not written yet
          read : Dec (from < 64) → pick (ltb from 64) (was from) none ≡ pick (ltb from 64) (before from) none
          read (yes l) =
              let z : source_by going s < 64 = omega arith in
              let a = source_is going s z in
              let same : from % 16 ≡ s % 16 = ap (λ (x : ℕ). x % 16) ef ∙ a.task in
              let b : s < 64 = omega (arith, first_small rest p w.narrow) in
              let m : count_trailing_zeros 64 rest ≤ from = omega (arith, a.above, es, ef) in
              let i : bit all from ≡ true =
              all_at from l ∙ ap (bit over) same ∙ sym (all_at s b) ∙ ap (bit all) es ∙ w.part (count_trailing_zeros 64 rest) (first_in rest p w.narrow) in
              ap (λ (x : X). pick (ltb from 64) x none) (r.ahead from l (still_to_come all rest w p from i m))
          read (no l) = rw (le-ltb from 64 (omega arith)) refl

      pub taken_all : rest ≡ 0 → (s : ℕ) → s < 64 → was s ≡ closed_by over going s before none
      taken_all z s b = go (bit all s) refl ∙ sym (by_source going s over before none)
        where
          go : (c : Bool) → bit all s ≡ c → was s ≡ pick (bit over (s % 16)) (pick (ltb (source_by going s) 64) (before (source_by going s)) none) (before s)
          go true e = r.done s b e (ap (λ (n : ℕ). bit n s) z ∙ bit_zero s) ∙ ap (λ (c : Bool). pick c (pick (ltb (source_by going s) 64) (before (source_by going s)) none) (before s)) (sym e ∙ all_at s b)
          go false e = r.kept s b e ∙ ap (λ (c : Bool). pick c (pick (ltb (source_by going s) 64) (before (source_by going s)) none) (before s)) (sym e ∙ all_at s b)

  -- ---- the set of slots with a live job: of those still to come none is in it yet
  pub record Lives (rest live : ℕ) : Type 0 where
    pub narrow : live < 2 ^ 64
    pub done : (s : ℕ) → s < 64 → bit all s ≡ true → bit rest s ≡ false → bit live s ≡ ltb (source_by going s) 64
    pub ahead : (s : ℕ) → s < 64 → bit rest s ≡ true → bit live s ≡ false
    pub kept : (s : ℕ) → s < 64 → bit all s ≡ false → bit live s ≡ bit going s

  without : (s : ℕ) → s < 64 → bit (bit_and going (18446744073709551615 - all)) s ≡ (bit going s && not (bit all s))
  without s b = bit_and_lem going (18446744073709551615 - all) s ∙ ap (λ (c : Bool). bit going s && c) (bit_not 64 all s all_small b)

  pub lives_none : going < 2 ^ 64 → Lives all (bit_and going (18446744073709551615 - all))
  lives_none h = record {
    narrow = omega (arith, and_le_l going (18446744073709551615 - all));
    done = λ s b i o. absurd (clash i o);
    ahead = λ s b i. without s b ∙ ap (λ (c : Bool). bit going s && not c) i ∙ off (bit going s);
    kept = λ s b o. without s b ∙ ap (λ (c : Bool). bit going s && not c) o ∙ on (bit going s);
  }
    where
      off : (c : Bool) → (c && false) ≡ false
      off true = refl
      off false = refl

      on : (c : Bool) → (c && true) ≡ c
      on true = refl
      on false = refl

  module _ (rest live : ℕ) (r : Lives rest live) where
    module _ (w : Passing all rest) (p : 0 < rest) (s from : ℕ) (es : s ≡ count_trailing_zeros 64 rest) (ef : from ≡ source_by going s) where
      -- any set that differs at the slot alone
      lives_at : (now : ℕ) → now < 2 ^ 64 → bit now s ≡ ltb from 64 → ((k : ℕ) → k < 64 → (k ≡ s → ⊥) → bit now k ≡ bit live k) → Lives (bit_and rest (rest - 1)) now
      lives_at now h e others = record {
        narrow = h;
        done = λ k b i o. elim (ℕ_discrete k s) [
          | yes q ↦ ap (bit now) q ∙ e ∙ ap (λ (j : ℕ). ltb j 64) (ef ∙ ap (source_by going) (sym q))
          | no q ↦ others k b q ∙ r.done k b i (sym (others_same rest p w.narrow k (λ z. q (z ∙ sym es))) ∙ o)
        ];
        ahead = λ k b i. let z = still_in rest p w.narrow k i in others k b (λ q. z.1 (q ∙ es)) ∙ r.ahead k b z.0;
        kept = λ k b o. others k b (λ q. clash (ap (bit all) (q ∙ es) ∙ w.part (count_trailing_zeros 64 rest) (first_in rest p w.narrow)) o) ∙ r.kept k b o;
      }

      pub lives_with : from < 64 → Lives (bit_and rest (rest - 1)) (bit_or live (2 ^ s))
      lives_with l =
          let b : s < 64 = omega (arith, first_small rest p w.narrow) in
          lives_at (bit_or live (2 ^ s)) (or_lt 64 live (2 ^ s) r.narrow (pow-lt b))
          (with_one s ∙ ap (λ (c : Bool). bit live s || c) (eq-eqb s s refl) ∙ yes_or (bit live s) ∙ sym (lt-ltb from 64 l))
          (λ k c d. with_one k ∙ ap (λ (c : Bool). bit live k || c) (ne_eqb k s d) ∙ no_or (bit live k))
        where
          with_one : (k : ℕ) → bit (bit_or live (2 ^ s)) k ≡ (bit live k || eqb k s)
          with_one k = bit_or_lem live (2 ^ s) k ∙ ap (λ (c : Bool). bit live k || c) (ap (λ (n : ℕ). bit n k) (sym (one-mul (2 ^ s))) ∙ bit_one s k)

          yes_or : (c : Bool) → (c || true) ≡ true
          yes_or true = refl
          yes_or false = refl

          no_or : (c : Bool) → (c || false) ≡ c
          no_or true = refl
          no_or false = refl

      pub lives_without : 64 ≤ from → Lives (bit_and rest (rest - 1)) live
      lives_without l =
          let b : s < 64 = omega (arith, first_small rest p w.narrow) in
          lives_at live r.narrow (r.ahead s b (ap (bit rest) es ∙ first_in rest p w.narrow) ∙ sym (le-ltb from 64 l)) (λ k c d. refl)

    pub lives_all : rest ≡ 0 → live ≡ set_of 64 (λ s. closed_by over going s (bit going) false)
    lives_all z = set_is 64 live _ r.narrow (λ s b. go s b (bit all s) refl ∙ sym (by_source going s over (bit going) false))
      where
        in_it : (s : ℕ) → Dec (source_by going s < 64) → ltb (source_by going s) 64 ≡ pick (ltb (source_by going s) 64) (bit going (source_by going s)) false
        in_it s (yes l) = rw (lt-ltb (source_by going s) 64 l, (source_is going s l).goes) refl
        in_it s (no l) = rw (le-ltb (source_by going s) 64 (omega arith)) refl

        by : ℕ → Bool → Bool
        by s c = pick c (pick (ltb (source_by going s) 64) (bit going (source_by going s)) false) (bit going s)

        go : (s : ℕ) → s < 64 → (c : Bool) → bit all s ≡ c → bit live s ≡ by s (bit over (s % 16))
        go s b true e = r.done s b e (ap (λ (n : ℕ). bit n s) z ∙ bit_zero s) ∙ in_it s (dec_lt (source_by going s) 64) ∙ ap (by s) (sym e ∙ all_at s b)
        go s b false e = r.kept s b e ∙ ap (by s) (sym e ∙ all_at s b)

-- ---- THE LOOP: the set of slots with a live job, their deadlines, what remains and the work
module _ (over going : ℕ) (deadlines₀ rest₀ work₀ : List ℕ) where
  pub record Closing (all rest live : ℕ) (deadlines left work : List ℕ) : Type 0 where
    pub slots : all ≡ set_of 64 (λ s. bit over (s % 16))
    pub passing : Passing all rest
    pub lives : Lives over all going slots rest live
    pub ends_size : length deadlines ≡ 64
    pub rest_size : length left ≡ 1024
    pub work_size : length work ≡ 64
    pub ends : Taken all rest going 0 (λ s. get_or deadlines₀ s 0) (λ s. get_or deadlines s 0)
    pub rests : (u : ℕ) → u < 16 → Taken all rest going 0 (λ s. get_or rest₀ (16 * s + u) 0) (λ s. get_or left (16 * s + u) 0)
    pub works : Taken all rest going 0 (λ s. get_or work₀ s 0) (λ s. get_or work s 0)

  module _ (all : ℕ) (slots : all ≡ set_of 64 (λ s. bit over (s % 16))) where
    pub closing_none : going < 2 ^ 64 → length deadlines₀ ≡ 64 → length rest₀ ≡ 1024 → length work₀ ≡ 64
        → Closing all all (bit_and going (18446744073709551615 - all)) deadlines₀ rest₀ work₀
    closing_none h d r w = record {
      slots = slots;
      passing = passing_none all (all_small over all going slots);
      lives = lives_none over all going slots h;
      ends_size = d;
      rest_size = r;
      work_size = w;
      ends = taken_none over all going slots 0 (λ s. get_or deadlines₀ s 0);
      rests = λ u b. taken_none over all going slots 0 (λ s. get_or rest₀ (16 * s + u) 0);
      works = taken_none over all going slots 0 (λ s. get_or work₀ s 0);
    }

  module _ (all rest live : ℕ) (deadlines left work : List ℕ) (r : Closing all rest live deadlines left work) where
    module _ (p : 0 < rest) (s from : ℕ) (es : s ≡ count_trailing_zeros 64 rest) (ef : from ≡ source_by going s) where
      slot : s < 64
      slot = omega (arith, first_small rest p r.passing.narrow)

      -- what each row and the set hold next
      closing_one : (now : ℕ) → Lives over all going r.slots (bit_and rest (rest - 1)) now
          → (x y : ℕ) → x ≡ pick (ltb from 64) (get_or deadlines from 0) 0 → y ≡ pick (ltb from 64) (get_or work from 0) 0
          → (deadlines' left' work' : List ℕ) → deadlines' ≡ set deadlines s x
          → left' ≡ row 1024 (λ k. pick (eqb (k / 16) s) (pick (ltb from 64) (get_or left (16 * from + k % 16) 0) 0) (get_or left k 0))
          → work' ≡ set work s y → Closing all (bit_and rest (rest - 1)) now deadlines' left' work'
      closing_one now lv x y ex ey deadlines' left' work' ed el ew = record {
        slots = r.slots;
        passing = passing_one all rest r.passing p;
        lives = lv;
        ends_size = ap length ed ∙ length-set deadlines s x ∙ r.ends_size;
        rest_size = ap length el ∙ length_row 1024 _;
        work_size = ap length ew ∙ length-set work s y ∙ r.work_size;
        ends = one (λ s. get_or deadlines₀ s 0) (λ s. get_or deadlines s 0) r.ends (λ k. get_or deadlines' k 0)
            (ap (λ (l : List ℕ). get_or l s 0) ed ∙ get_or-set_same deadlines s x 0 (omega (arith, slot, r.ends_size)) ∙ ex)
            (λ k b d. ap (λ (l : List ℕ). get_or l k 0) ed ∙ get_or-set_other deadlines s k x 0 d);
        rests = λ u b. one (λ s. get_or rest₀ (16 * s + u) 0) (λ s. get_or left (16 * s + u) 0) (r.rests u b) (λ k. get_or left' (16 * k + u) 0)
            (moved s u slot b ∙ here u b) (λ k c d. moved k u c b ∙ there k u b d);
        works = one (λ s. get_or work₀ s 0) (λ s. get_or work s 0) r.works (λ k. get_or work' k 0)
            (ap (λ (l : List ℕ). get_or l s 0) ew ∙ get_or-set_same work s y 0 (omega (arith, slot, r.work_size)) ∙ ey)
            (λ k b d. ap (λ (l : List ℕ). get_or l k 0) ew ∙ get_or-set_other work s k y 0 d);
      }
        where
          one : (before was : ℕ → ℕ) → Taken all rest going 0 before was → (next : ℕ → ℕ) → next s ≡ pick (ltb from 64) (was from) 0
              → ((k : ℕ) → k < 64 → (k ≡ s → ⊥) → next k ≡ was k) → Taken all (bit_and rest (rest - 1)) going 0 before next
          one before was t next e others = taken_one over all going r.slots 0 before rest was t r.passing p s from es ef next e others

          entry : ℕ → ℕ
          entry k = pick (eqb (k / 16) s) (pick (ltb from 64) (get_or left (16 * from + k % 16) 0) 0) (get_or left k 0)

          moved : (k u : ℕ) → k < 64 → u < 16 → get_or left' (16 * k + u) 0 ≡ entry (16 * k + u)
          moved k u b c = ap (λ (l : List ℕ). get_or l (16 * k + u) 0) el ∙ row_at 1024 _ (16 * k + u) 0 (omega arith)

          here : (u : ℕ) → u < 16 → entry (16 * s + u) ≡ pick (ltb from 64) (get_or left (16 * from + u) 0) 0
          here u b =
              let d : (16 * s + u) / 16 ≡ s = omega arith in
              let m : (16 * s + u) % 16 ≡ u = omega arith in
              ap (λ (c : Bool). pick c (pick (ltb from 64) (get_or left (16 * from + (16 * s + u) % 16) 0) 0) (get_or left (16 * s + u) 0)) (eq-eqb ((16 * s + u) / 16) s d)
              ∙ ap (λ (v : ℕ). pick (ltb from 64) (get_or left (16 * from + v) 0) 0) m

          there : (k u : ℕ) → u < 16 → (k ≡ s → ⊥) → entry (16 * k + u) ≡ get_or left (16 * k + u) 0
          there k u b d =
              let q : (16 * k + u) / 16 ≡ k = omega arith in
              ap (λ (c : Bool). pick c (pick (ltb from 64) (get_or left (16 * from + (16 * k + u) % 16) 0) 0) (get_or left (16 * k + u) 0)) (ne_eqb ((16 * k + u) / 16) s (λ z. d (sym q ∙ z)))

      module _ (now : ℕ) (deadlines' left' work' : List ℕ) where
        -- a job comes to stand at the slot
        pub closing_with : (l : from < 64) (m : ℕ) → m ≡ 2 ^ s → now ≡ bit_or live m → deadlines' ≡ set deadlines s (get_or deadlines from 0)
            → left' ≡ row 1024 (λ k. pick (eqb (k / 16) s) (get_or left (16 * from + k % 16) 0) (get_or left k 0))
            → work' ≡ set work s (get_or work from 0) → Closing all (bit_and rest (rest - 1)) now deadlines' left' work'
        closing_with l m em en ed el ew =
            let t = sym (lt-ltb from 64 l) in
            let y : (x : ℕ) → x ≡ pick (ltb from 64) x 0 = λ x. ap (λ (c : Bool). pick c x 0) t in
            closing_one now
            (subst⁻¹ (λ (n : ℕ). Lives over all going r.slots (bit_and rest (rest - 1)) n) (en ∙ ap (λ (n : ℕ). bit_or live n) em)
            (lives_with over all going r.slots rest live r.lives r.passing p s from es ef l))
            (get_or deadlines from 0) (get_or work from 0) (y (get_or deadlines from 0)) (y (get_or work from 0)) deadlines' left' work' ed
            (el ∙ ap (λ (c : Bool). row 1024 (λ k. pick (eqb (k / 16) s) (pick c (get_or left (16 * from + k % 16) 0) 0) (get_or left k 0))) t) ew

        -- or none does
        pub closing_without : (l : 64 ≤ from) → now ≡ live → deadlines' ≡ set deadlines s 0 → left' ≡ row 1024 (λ k. pick (eqb (k / 16) s) 0 (get_or left k 0))
            → work' ≡ set work s 0 → Closing all (bit_and rest (rest - 1)) now deadlines' left' work'
        closing_without l en ed el ew =
            let t = sym (le-ltb from 64 l) in
            let y : (x : ℕ) → 0 ≡ pick (ltb from 64) x 0 = λ x. ap (λ (c : Bool). pick c x 0) t in
            closing_one now
            (subst⁻¹ (λ (n : ℕ). Lives over all going r.slots (bit_and rest (rest - 1)) n) en
            (lives_without over all going r.slots rest live r.lives r.passing p s from es ef l))
            0 0 (y (get_or deadlines from 0)) (y (get_or work from 0)) deadlines' left' work' ed
            (el ∙ ap (λ (c : Bool). row 1024 (λ k. pick (eqb (k / 16) s) (pick c (get_or left (16 * from + k % 16) 0) 0) (get_or left k 0))) t) ew

    -- all slots are passed
    module _ (z : rest ≡ 0) where
      pub closing_live : live ≡ set_of 64 (λ s. closed_by over going s (bit going) false)
      closing_live = lives_all over all going r.slots rest live r.lives z

      pub closing_ends : deadlines ≡ row 64 (λ s. closed_by over going s (λ q. get_or deadlines₀ q 0) 0)
      closing_ends = sym (row_same 64 0 _ deadlines r.ends_size
          (λ s b. sym (taken_all over all going r.slots 0 (λ s. get_or deadlines₀ s 0) rest (λ s. get_or deadlines s 0) r.ends z s b)))

      pub closing_work : work ≡ row 64 (λ s. closed_by over going s (λ q. get_or work₀ q 0) 0)
      closing_work = sym (row_same 64 0 _ work r.work_size
          (λ s b. sym (taken_all over all going r.slots 0 (λ s. get_or work₀ s 0) rest (λ s. get_or work s 0) r.works z s b)))

      pub closing_rest : left ≡ row 1024 (λ k. closed_by over going (k / 16) (λ q. get_or rest₀ (16 * q + k % 16) 0) 0)
      closing_rest = sym (row_same 1024 0 _ left r.rest_size (λ k b.
          let e : 16 * (k / 16) + k % 16 ≡ k = omega arith in
          sym (taken_all over all going r.slots 0 (λ s. get_or rest₀ (16 * s + k % 16) 0) rest (λ s. get_or left (16 * s + k % 16) 0) (r.rests (k % 16) (omega arith)) z (k / 16) (omega arith))
          ∙ ap (λ (j : ℕ). get_or left j 0) e))
