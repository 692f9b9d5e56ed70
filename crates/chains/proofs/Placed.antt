-- The chain as the code lists it: a vertex a turn, each at its place, until nothing is left to sum.
use mathlib.Core.Path.{◌≡◌, sym, ap, ◌∙◌}
use mathlib.Core.Logic.{⊎_elim}
use mathlib.Core.Bool.{Bool, true, false, ◌&&◌}
use mathlib.Core.List.{List, [], ◌∷◌, ◌++◌}
use Prim.Native.Nat.{ℕ, suc, ◌+◌, ◌-◌, ◌≤◌, ◌<◌}
use native.Mathlib.Omega.{arith}
use native.Mathlib.Numerals.{add-one}
use native.Mathlib.Decide.{dec_lt}
use lib.ListN.{length, get_or, set, drop, replicate, get_or-replicate, length-replicate, get_or-append}
use lib.Seq.{sets, length-sets, sets-eq, ext_get_or, get_or-append-add, get_or-drop}
use lib.Dec.{eqb}
use Rattle.chains.specs.declared.ChainFound.{ChainFound}
use Rattle.graph.specs.Words.{pick, bit, row_from, row, largest, lowest}
use Rattle.graph.specs.Graph.{edge, acyclic, longest_from, maximum, longest, longest_of}
use Rattle.chains.specs.Chains.{first_with, listed_after, listed_from, first_chain, chain_of, answered, longest_chain}
use Rattle.graph.proofs.Facts.{length_row, row_at, past_end, largest_most, largest_some}
use Rattle.graph.proofs.Members.{below_same}
use Rattle.graph.proofs.Rank.{rank}
use Rattle.graph.proofs.Long.{maximum_most, maximum_some}
use Rattle.chains.proofs.Sixteen.{from_many, full}
use Rattle.chains.proofs.Chains.{Sums, Rising, rising, sums_right, found, next_found, nothing_left_lem, one_after, from_first, first_length}

-- ---- the places: a chain written from the front on, the others 255
unused : (n j : ℕ) → ◌≡◌ {A = ℕ} (get_or (replicate n 255) j 255) 255
unused n j = elim (dec_lt j n) [
  | yes b ↦ get_or-replicate n j 255 255 b
  | no b ↦ past_end (replicate n 255) j 255 (omega (arith, length-replicate {A = ℕ} n 255))
]

pub placed_is : (c : List ℕ) → length c ≤ 16 → sets (replicate 16 255) 0 c ≡ row 16 (λ i. get_or c i 255)
placed_is c h =
    ext_get_or 255 (sets (replicate 16 255) 0 c) (row 16 (λ i. get_or c i 255))
    (length-sets (replicate 16 255) 0 c ∙ sym (length_row 16 (λ i. get_or c i 255)))
    (λ i b. at i ∙ sym (row_at 16 (λ i. get_or c i 255) i 255 (omega (arith, length-sets (replicate 16 255) 0 c))))
  where
    at : (i : ℕ) → get_or (sets (replicate 16 255) 0 c) i 255 ≡ get_or c i 255
    at i =
        ap (λ (l : List ℕ). get_or l i 255) (sets-eq c (replicate 16 255) 0 (omega arith))
        ∙ elim (dec_lt i (length c)) [
          | yes b ↦ get_or-append c (drop (0 + length c) (replicate 16 255)) 255 i b
          | no b ↦
              let e : i ≡ length c + (i - length c) = omega arith in
              ap (λ (k : ℕ). get_or (c ++ drop (0 + length c) (replicate 16 255)) k 255) e
              ∙ get_or-append-add c (drop (0 + length c) (replicate 16 255)) (i - length c) 255
              ∙ get_or-drop (0 + length c) (replicate 16 255) (i - length c) 255
              ∙ unused 16 (0 + length c + (i - length c))
              ∙ sym (past_end c i 255 (omega arith))
        ]

-- ---- what holds between two turns: what is still to be listed, from the set that comes next, gives the whole
module _ (succ times : List ℕ) where
  abbrev sums : List ℕ
  sums = longest_from 16 (edge succ) (λ u. get_or times u 0) 16

  abbrev whole : List ℕ
  whole = first_chain 16 (edge succ) (λ u. get_or times u 0)

  abbrev rest : ℕ → (ℕ → Bool) → ℕ → List ℕ
  rest count p left = listed_from 16 (edge succ) (λ u. get_or times u 0) sums (15 - count) p left

  pub record Listing (vertices : List ℕ) (count from left : ℕ) : Type 0 where
    -- one of the set has just what is left for its sum, and each lies deep enough
    pub some : (i : ℕ) × (i < 16) × (bit from i ≡ true) × (get_or sums i 0 ≡ left)
    pub deep : (i : ℕ) → i < 16 → bit from i ≡ true → count < rank 16 (edge succ) i
    pub places : sets vertices count (rest count (bit from) left) ≡ sets (replicate 16 255) 0 whole
    pub many : count + length (rest count (bit from) left) ≡ length whole

  module _ (passes : acyclic succ ≡ true) where
    right : Sums 16 (edge succ) (λ u. get_or times u 0) sums
    right = sums_right 16 succ (λ u. get_or times u 0) (omega arith) (omega arith) passes

    rises : Rising 16 (edge succ) (rank 16 (edge succ))
    rises = rising 16 succ (λ u. get_or times u 0) (omega arith) (omega arith) passes

    -- the largest of all sums
    pub largest_sum : (sum : ℕ) → sum ≡ largest 16 (λ w. pick (bit 65535 w) (get_or sums w 0) 0) → sum ≡ longest 16 (edge succ) (λ u. get_or times u 0)
    unfolding longest
    largest_sum sum e =
        let g : ℕ → ℕ = λ w. pick (bit 65535 w) (get_or sums w 0) 0 in
        let own : (w : ℕ) → w < 16 → g w ≡ get_or sums w 0 = λ w b. ap (λ (d : Bool). pick d (get_or sums w 0) 0) (full w b) in
        let n = from_many 16 (edge succ) (λ u. get_or times u 0) 15 in
        let m = maximum_some sums (omega arith) in
        let b : m.0 < 16 = omega (arith, m.1) in
        let a : largest 16 g ≤ maximum sums =
        ⊎_elim (λ z. omega arith) (λ r. omega (arith, r.2, own r.0 r.1, maximum_most sums r.0)) (largest_some 16 g) in
        omega (arith, m.2, own m.0 b, largest_most 16 g m.0 b)

    with_all : (x : ℕ) → first_with 16 sums (bit 65535) x ≡ first_with 16 sums (λ u. true) x
    unfolding first_with lowest
    with_all x =
        ap (λ (l : List ℕ). get_or l 0 255)
        (below_same 16 (λ u. bit 65535 u && eqb (get_or sums u 0) x) (λ u. true && eqb (get_or sums u 0) x)
        (λ k b. ap (λ (d : Bool). d && eqb (get_or sums k 0) x) (full k b)))

    pub listing_first : (sum : ℕ) → sum ≡ longest 16 (edge succ) (λ u. get_or times u 0) → Listing (replicate 16 255) 0 65535 sum
    unfolding first_chain longest
    listing_first sum e =
        let m = maximum_some sums (omega (arith, from_many 16 (edge succ) (λ u. get_or times u 0) 15)) in
        let b : m.0 < 16 = omega (arith, m.1, from_many 16 (edge succ) (λ u. get_or times u 0) 15) in
        let w : rest 0 (bit 65535) sum ≡ whole =
        from_first 16 (edge succ) (λ u. get_or times u 0) sums 15 (bit 65535) sum
        ∙ ap (λ (u : ℕ). u ∷ listed_after 16 (edge succ) (λ u. get_or times u 0) sums 15 u (sum - get_or times u 0)) (with_all sum)
        ∙ sym (from_first 16 (edge succ) (λ u. get_or times u 0) sums 15 (λ u. true) sum)
        ∙ ap (listed_from 16 (edge succ) (λ u. get_or times u 0) sums 15 (λ u. true)) e in
        record {
          some = (m.0, b, full m.0 b, sym m.2 ∙ sym e);
          deep = λ i c h. rises.least i c;
          places = ap (sets (replicate 16 255) 0) w;
          many = omega (arith, ap length w);
        }

    module _ (vertices : List ℕ) (count from left : ℕ) (l : Listing vertices count from left) (u : ℕ) (known : List ℕ) (k : known ≡ sums)
        (w : u ≡ first_with 16 known (bit from) left) where
      e : u ≡ first_with 16 sums (bit from) left
      e = w ∙ ap (λ (x : List ℕ). first_with 16 x (bit from) left) k

      -- the vertex of this turn
      pub turn : (u < 16) × (count < 16) × (get_or times u 0 ≤ left) × (bit from u ≡ true) × (get_or sums u 0 ≡ left)
      turn =
          let s = l.some in
          let f = found 16 (edge succ) (λ x. get_or times x 0) sums right (bit from) left s.0 s.1 s.2 s.3 in
          let b : u < 16 = omega (arith, e, f.0) in
          let h : bit from u ≡ true = ap (bit from) e ∙ f.1 in
          let q : get_or sums u 0 ≡ left = ap (λ (x : ℕ). get_or sums x 0) e ∙ f.2 in
          (b, omega (arith, l.deep u b h, rises.most u), omega (arith, right u b), h, q)

      after : ℕ → ℕ → List ℕ
      after k y = listed_after 16 (edge succ) (λ x. get_or times x 0) sums k u y

      module _ (time : ℕ) (t : time ≡ get_or times u 0) where
        onward : rest count (bit from) left ≡ u ∷ after (15 - count) (left - time)
        unfolding after
        onward =
            from_first 16 (edge succ) (λ x. get_or times x 0) sums (15 - count) (bit from) left
            ∙ ap (λ (x : ℕ). x ∷ listed_after 16 (edge succ) (λ y. get_or times y 0) sums (15 - count) x (left - get_or times x 0)) (sym e)
            ∙ ap (λ (y : ℕ). u ∷ listed_after 16 (edge succ) (λ y. get_or times y 0) sums (15 - count) u (left - y)) (sym t)

        pub listing_done : left - time ≡ 0 → (count + 1 ≡ length whole) × (set vertices count u ≡ row 16 (λ i. get_or whole i 255))
        unfolding after
        listing_done z =
            let o : rest count (bit from) left ≡ u ∷ [] =
            onward ∙ ap (◌∷◌ u) (ap (after (15 - count)) z ∙ nothing_left_lem 16 (edge succ) (λ x. get_or times x 0) sums (15 - count) u) in (
              omega (arith, l.many, ap length o),
              sym (ap (sets vertices count) o)
                  ∙ l.places
                  ∙ placed_is whole (first_length 16 succ (λ x. get_or times x 0) (omega arith) (omega arith) passes),
            )

        pub listing_next : (left - time ≡ 0 → ⊥) → Listing (set vertices count u) (count + 1) (get_or succ u 0) (left - time)
        unfolding after edge
        listing_next d =
            let b = turn in
            let x : ℕ = left - time - 1 in
            let q : left - time ≡ suc x = omega arith in
            let w = next_found 16 (edge succ) (λ y. get_or times y 0) sums right u x b.0 (omega (arith, b.2, b.4, t)) in
            let c : ℕ = first_with 16 sums (edge succ u) (suc x) in
            let up = rises.up u c b.0 w.0 w.1 in
            let n : 15 - count ≡ suc (15 - (count + 1)) = omega (arith, rises.most c, l.deep u b.0 b.3) in
            let o : after (15 - count) (left - time) ≡ rest (count + 1) (bit (get_or succ u 0)) (left - time) =
            ap (λ (m : ℕ). after m (left - time)) n
            ∙ ap (after (suc (15 - (count + 1)))) q
            ∙ one_after 16 (edge succ) (λ y. get_or times y 0) sums (15 - (count + 1)) u x
            ∙ sym (ap (rest (count + 1) (edge succ u)) q) in
            let all = onward ∙ ap (◌∷◌ u) o in
            record {
              some = (c, w.0, w.1, w.2 ∙ sym q);
              deep = λ i h g. omega (arith, rises.up u i b.0 h g, l.deep u b.0 b.3);
              places =
                  ap (λ (n : ℕ). sets (set vertices count u) n (rest (count + 1) (bit (get_or succ u 0)) (left - time))) (add-one count)
                  ∙ sym (ap (sets vertices count) all)
                  ∙ l.places;
              many = omega (arith, l.many, ap length all);
            }

    pub listed_answer : (sum count : ℕ) (vertices : List ℕ) → sum ≡ longest 16 (edge succ) (λ u. get_or times u 0) → count ≡ length whole
        → vertices ≡ row 16 (λ i. get_or whole i 255) → ◌≡◌ {A = ChainFound} (record { sum = sum; count = count; vertices = vertices }) (longest_chain succ times)
    unfolding longest_chain answered longest_of chain_of
    listed_answer sum count vertices s n v =
        ap (λ (x : ℕ). record { sum = x; count = count; vertices = vertices }) s
        ∙ ap (λ (x : ℕ). record { sum = longest 16 (edge succ) (λ u. get_or times u 0); count = x; vertices = vertices }) n
        ∙ ap (λ (x : List ℕ). record { sum = longest 16 (edge succ) (λ u. get_or times u 0); count = length whole; vertices = x }) v
        ∙ ap (λ (b : Bool). answered (pick b (longest 16 (edge succ) (λ u. get_or times u 0)) 0) (pick b whole [])) (sym passes)

-- the vertex of a turn, and that there is one
module _ {succ times vertices known : List ℕ} {count from left : ℕ} (passes : acyclic succ ≡ true) (l : Listing succ times vertices count from left)
    (k : known ≡ sums succ times) where
  pub its_turn : {u : ℕ} → u ≡ first_with 16 known (bit from) left → (u < 16) × (count < 16) × (get_or times u 0 ≤ left)
  its_turn {u} w = let t = turn succ times passes vertices count from left l u known k w in (t.0, t.1, t.2)

  pub some_turn : 255 ≡ first_with 16 known (bit from) left → ⊥
  some_turn w = let t = its_turn w in omega (arith, t.0)

-- where there is a cycle
pub cycle_answer : (succ times : List ℕ) → acyclic succ ≡ false
    → ◌≡◌ {A = ChainFound} (record { sum = 0; count = 0; vertices = replicate 16 255 }) (longest_chain succ times)
unfolding longest_chain answered longest_of chain_of row row_from
cycle_answer succ times e = ap (λ (b : Bool). answered (pick b (longest 16 (edge succ) (λ u. get_or times u 0)) 0) (pick b (first_chain 16 (edge succ) (λ u. get_or times u 0)) [])) (sym e)
