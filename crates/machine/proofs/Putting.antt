-- Step 1 by rows: the slots that get a new job, as a set; a row of 1024 into which sixteen numbers are put, and then those of each slot of a set.
use Rattle.std.proofs.Common.{◌≡◌, ℕ, ◌+◌, ◌-◌, ◌*◌, ◌/◌, ◌%◌, ◌^◌, ◌<◌, ◌≤◌, Bool, true, false, eqb, List, ◌++◌, length, get_or, take, drop, sym, refl, ap, ◌∙◌, arith, rules, eq-eqb, ne_eqb}
use Rattle.std.proofs.lemmas.List.{places, get_or_append_left, get_or-append_right}
use borrow.Rule.Slice.PartMut.{put_mid}
use mathlib.Core.Path.{subst⁻¹}
use native.Mathlib.Decide.{ℕ_discrete, dec_lt}
use lib.Bits.{bit_and}
use lib.Count.{count_trailing_zeros}
use Rattle.std.specs.declared.option.Option.TheVariants.{Some}
use Rattle.graph.specs.declared.set.Members.{Members}
use Rattle.graph.specs.Members.{TakesLowest}
use Rattle.graph.specs.Words.{pick, bit, row, set_of}
use Rattle.graph.proofs.Facts.{clash, sum_none, length_row, row_at}
use Rattle.graph.proofs.Bits.{bit_zero}
use Rattle.machine.specs.Rows.{used_by, is_new_by}
use Rattle.machine.proofs.Filling.{row_same}
use Rattle.machine.proofs.Sweeping.{first_in, falls, others_same, still_in}

-- ---- the slots that get a new job
module _ (live named s : ℕ) where
  pub new_off : bit named (s % 16) ≡ false → false ≡ is_new_by live named s
  unfolding is_new_by
  new_off e = rw e refl

  pub new_on : bit named (s % 16) ≡ true → eqb (s / 16) (used_by live (s % 16)) ≡ is_new_by live named s
  unfolding is_new_by
  new_on e = rw e refl

pub none_new : (live named : ℕ) → named ≡ 0 → 0 ≡ set_of 64 (is_new_by live named)
unfolding set_of
none_new live named e = sym (sum_none 64 _ (λ s b. ap (λ (c : Bool). pick c (2 ^ s) 0) (sym (new_off live named s (ap (λ (n : ℕ). bit n (s % 16)) e ∙ bit_zero (s % 16))))))

-- ---- one slot's sixteen
pub record PutTo (costs before : List ℕ) (s u : ℕ) (now : List ℕ) : Type 0 where
  pub size : length now ≡ 1024
  pub put : (w : ℕ) → w < u → get_or now (16 * s + w) 0 ≡ get_or costs ((16 * s + w) % 256) 0
  pub low : (k : ℕ) → k < 16 * s → get_or now k 0 ≡ get_or before k 0
  pub high : (k : ℕ) → 16 * s + u ≤ k → get_or now k 0 ≡ get_or before k 0

module _ (costs before : List ℕ) (s : ℕ) where
  pub put_all : (u : ℕ) (now : List ℕ) → PutTo costs before s u now → u ≡ 16 → now ≡ row 1024 (λ k. pick (eqb (k / 16) s) (get_or costs (k % 256) 0) (get_or before k 0))
  put_all u now r e = sym (row_same 1024 0 _ now r.size (λ k b. elim (ℕ_discrete (k / 16) s) [
    | yes q ↦ rw (eq-eqb (k / 16) s q) (let z : k ≡ 16 * s + k % 16 = omega arith in
        ap (λ (j : ℕ). get_or costs (j % 256) 0) z ∙ sym (r.put (k % 16) (omega arith)) ∙ ap (λ (j : ℕ). get_or now j 0) (sym z))
    | no q ↦ rw (ne_eqb (k / 16) s q) (elim (dec_lt k (16 * s)) [
      | yes l ↦ sym (r.low k l)
      | no l ↦ sym (r.high k (omega arith))
    ])
  ]))

-- copied all at once
pub copied : (costs : List ℕ) (s n : ℕ) (before part : List ℕ) → s < 64 → length before ≡ 1024 → n ≡ 16 → length part ≡ 16
    → ((w : ℕ) → w < 16 → get_or part w 0 ≡ get_or costs ((16 * s + w) % 256) 0) → PutTo costs before s 16 (put_mid (16 * s) n before part)
copied costs s n before part b long e l p =
    let a : length (take (16 * s) before) ≡ 16 * s = search (rules, places) in
    record {
      size = search (rules, places);
      put = λ w c.
          let m : 16 * s + w - 16 * s ≡ w = omega arith in
          get_or-append_right (take (16 * s) before) (part ++ drop n (drop (16 * s) before)) (16 * s) (16 * s + w) 0 a (omega arith)
          ∙ ap (λ (j : ℕ). get_or (part ++ drop n (drop (16 * s) before)) j 0) m
          ∙ get_or_append_left part (drop n (drop (16 * s) before)) 0 w (omega arith)
          ∙ p w c;
      low = λ k c. search (rules, places);
      high = λ k c. search (rules, places);
    }

-- ---- those of each slot of a set, from the lowest up: `rest` are the slots still to come
pub record PutAt (costs before : List ℕ) (all rest : ℕ) (now : List ℕ) : Type 0 where
  pub narrow : rest < 2 ^ 64
  pub size : length now ≡ 1024
  pub part : (s : ℕ) → bit rest s ≡ true → bit all s ≡ true
  pub done : (k : ℕ) → k < 1024 → bit all (k / 16) ≡ true → bit rest (k / 16) ≡ false → get_or now k 0 ≡ get_or costs (k % 256) 0
  pub kept : (k : ℕ) → k < 1024 → bit all (k / 16) ≡ false → get_or now k 0 ≡ get_or before k 0

module _ (costs before : List ℕ) (all : ℕ) where
  pub at_none : all < 2 ^ 64 → length before ≡ 1024 → PutAt costs before all all before
  at_none h n = record { narrow = h; size = n; part = λ s i. i; done = λ k b i o. absurd (clash i o); kept = λ k b o. refl }

  module _ (rest : ℕ) (now : List ℕ) (r : PutAt costs before all rest now) where
    abbrev next : ℕ → List ℕ
    next s = row 1024 (λ k. pick (eqb (k / 16) s) (get_or costs (k % 256) 0) (get_or now k 0))

    at_first : (p : 0 < rest) → PutAt costs before all (bit_and rest (rest - 1)) (next (count_trailing_zeros 64 rest))
    at_first p =
        let h = r.narrow in
        let s = count_trailing_zeros 64 rest in
        record {
          narrow = omega (arith, falls rest p h);
          size = length_row 1024 _;
          part = λ j i. r.part j (still_in rest p h j i).0;
          done = λ k b i o. row_at 1024 _ k 0 b ∙ elim (ℕ_discrete (k / 16) s) [
            | yes q ↦ rw (eq-eqb (k / 16) s q) refl
            | no q ↦ rw (ne_eqb (k / 16) s q) (r.done k b i (sym (others_same rest p h (k / 16) q) ∙ o))
          ];
          kept = λ k b o. row_at 1024 _ k 0 b ∙ elim (ℕ_discrete (k / 16) s) [
            | yes q ↦ absurd (clash (ap (bit all) q ∙ r.part s (first_in rest p h)) o)
            | no q ↦ rw (ne_eqb (k / 16) s q) (r.kept k b o)
          ];
        }

    -- where the code has the slot by its own name
    pub at_one : (p : 0 < rest) (s : ℕ) → s ≡ count_trailing_zeros 64 rest → PutAt costs before all (bit_and rest (rest - 1)) (next s)
    at_one p s e = subst⁻¹ (λ (j : ℕ). PutAt costs before all (bit_and rest (rest - 1)) (next j)) e (at_first p)

    pub at_all : rest ≡ 0 → now ≡ row 1024 (λ k. pick (bit all (k / 16)) (get_or costs (k % 256) 0) (get_or before k 0))
    at_all z = sym (row_same 1024 0 _ now r.size (λ k b. go k b (bit all (k / 16)) refl))
      where
        go : (k : ℕ) → k < 1024 → (c : Bool) → bit all (k / 16) ≡ c → pick c (get_or costs (k % 256) 0) (get_or before k 0) ≡ get_or now k 0
        go k b true e = sym (r.done k b e (ap (λ (n : ℕ). bit n (k / 16)) z ∙ bit_zero (k / 16)))
        go k b false e = sym (r.kept k b e)

-- a step over the members of a set
pub at_next : (costs before : List ℕ) (all : ℕ) {old new : Members} {s : ℕ} → TakesLowest old (Some s) new → (now : List ℕ) → PutAt costs before all old.rest now
    → PutAt costs before all new.rest (row 1024 (λ k. pick (eqb (k / 16) s) (get_or costs (k % 256) 0) (get_or now k 0)))
at_next costs before all {old} {new} {s} t now r =
    subst⁻¹ (λ (n : ℕ). PutAt costs before all n (row 1024 (λ k. pick (eqb (k / 16) s) (get_or costs (k % 256) 0) (get_or now k 0)))) t.3
    (at_one costs before all old.rest now r t.0 s t.1)
