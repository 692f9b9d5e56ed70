-- What `first_chain` means: it is a chain with the largest sum, and no chain with that sum has a smaller list.
use mathlib.Core.Path.{◌≡◌, refl, sym, ap, ◌∙◌}
use mathlib.Core.Logic.{⊎_elim}
use mathlib.Core.Bool.{Bool, true, false, ◌&&◌}
use mathlib.Core.List.{List, [], ◌∷◌}
use Prim.Native.Nat.{ℕ, zero, suc, ◌+◌, ◌-◌, ◌≤◌, ◌<◌}
use native.Mathlib.Omega.{arith}
use native.Mathlib.Decide.{ℕ_discrete}
use lib.ListN.{length, get_or}
use lib.Dec.{eqb}
use borrow.Author.Tests.{eqb-true, eq-eqb}
use Rattle.graph.specs.Words.{pick, largest, lowest, is_in, Distinct}
use Rattle.graph.specs.Graph.{edge, acyclic, Chain, alone, joined, sum_along, longest_from, maximum, longest}
use Rattle.chains.specs.Chains.{list_less, LongestByName, first_with, listed_after, listed_from, first_chain}
use Rattle.graph.proofs.Facts.{clash, both_true, and_true, off_when, largest_most, largest_some, other_in}
use Rattle.graph.proofs.Rank.{rank, rank_up, rank_most, rank_least}
use Rattle.graph.proofs.Long.{maximum_most, maximum_some, chain_head, at_more, from_length}
use Rattle.graph.proofs.Narrow.{largest_same}
use Rattle.chains.proofs.Least.{lowest_found, less_higher, less_same, less_none, neither_less, distinct_short}
use Rattle.chains.proofs.Sixteen.{from_many}

pub none_in_none : (x : ℕ) → is_in x [] ≡ true → ⊥
unfolding is_in
none_in_none x i = clash i refl

pub none_chain : {v : ℕ} {E : ℕ → ℕ → Bool} → Chain v E [] → ⊥
none_chain = elim [ ]

-- ---- the sums: each is its vertex' own and the largest of its successors'
abbrev pub Sums : ℕ → (ℕ → ℕ → Bool) → (ℕ → ℕ) → List ℕ → Type 0
Sums v E f sums = (u : ℕ) → u < v → get_or sums u 0 ≡ f u + largest v (λ w. pick (E u w) (get_or sums w 0) 0)

-- each edge leads up, from 1 on and to 16 at most
pub record Rising (v : ℕ) (E : ℕ → ℕ → Bool) (rise : ℕ → ℕ) : Type 0 where
  pub up : (u w : ℕ) → u < v → w < v → E u w ≡ true → rise u < rise w
  pub most : (u : ℕ) → rise u ≤ 16
  pub least : (u : ℕ) → u < v → 1 ≤ rise u

module _ (v : ℕ) (E : ℕ → ℕ → Bool) (f : ℕ → ℕ) where
  pub at_next : (k u : ℕ) → u < v → get_or (longest_from v E f (suc k)) u 0 ≡ f u + largest v (λ w. pick (E u w) (get_or (longest_from v E f k) w 0) 0)
  unfolding longest_from
  at_next k u h = at_more v E f (longest_from v E f k) u h

  module _ (rise : ℕ → ℕ) (r : Rising v E rise) where
    -- longer chains than there are give no more
    no_longer : (k u : ℕ) → u < v → 17 ≤ rise u + k → get_or (longest_from v E f (suc k)) u 0 ≡ get_or (longest_from v E f k) u 0
    no_longer zero u b h = absurd (omega (arith, r.most u))
    no_longer (suc k) u b h =
        at_next (suc k) u b
        ∙ ap (λ (x : ℕ). f u + x) (largest_same v _ _ (λ w c. go w c (E u w) refl (λ n. no_longer k w c n)))
        ∙ sym (at_next k u b)
      where
        go : (w : ℕ) → w < v → (d : Bool) → E u w ≡ d
            → (17 ≤ rise w + k → get_or (longest_from v E f (suc k)) w 0 ≡ get_or (longest_from v E f k) w 0)
            → pick d (get_or (longest_from v E f (suc k)) w 0) 0 ≡ pick d (get_or (longest_from v E f k) w 0) 0
        go w c true e i = i (omega (arith, r.up u w b c e))
        go w c false e i = refl

    pub from_sums : Sums v E f (longest_from v E f 16)
    from_sums u b = sym (no_longer 16 u b (omega (arith, r.least u b))) ∙ at_next 16 u b

  -- ---- the list, a vertex at a time
  module _ (sums : List ℕ) where
    abbrev listed : ℕ → ℕ → ℕ → List ℕ
    listed k u left = listed_after v E f sums k u left

    pub nothing_left_lem : (k u : ℕ) → listed k u 0 ≡ []
    unfolding listed_after
    nothing_left_lem zero u = refl
    nothing_left_lem (suc k) u = refl

    no_more : (u left : ℕ) → listed 0 u left ≡ []
    unfolding listed_after
    no_more u left = refl

    pub one_after : (k u left : ℕ)
        → listed (suc k) u (suc left) ≡ listed_from v E f sums k (E u) (suc left)
    unfolding listed_after listed_from
    one_after k u left = refl

    pub from_first : (k : ℕ) (p : ℕ → Bool) (left : ℕ)
        → listed_from v E f sums k p left ≡ first_with v sums p left ∷ listed k (first_with v sums p left) (left - f (first_with v sums p left))
    unfolding listed_from
    from_first k p left = refl

    -- ---- which chains have a vertex' sum
    module _ (s : Sums v E f sums) where
      sum_head : (u : ℕ) (c : List ℕ) → sum_along f (u ∷ c) ≡ f u + sum_along f c
      unfolding sum_along
      sum_head u c = refl

      sum_none : sum_along f [] ≡ 0
      unfolding sum_along
      sum_none = refl

      -- a successor has no more than what u leaves
      onward_most : (u w : ℕ) → u < v → w < v → E u w ≡ true → f u + get_or sums w 0 ≤ get_or sums u 0
      onward_most u w a b e =
          let g : ℕ → ℕ = λ x. pick (E u x) (get_or sums x 0) 0 in
          let q : g w ≡ get_or sums w 0 = ap (λ (d : Bool). pick d (get_or sums w 0) 0) e in
          omega (arith, s u a, largest_most v g w b)

      pub chain_most : (u : ℕ) (c : List ℕ) → Chain v E (u ∷ c) → sum_along f (u ∷ c) ≤ get_or sums u 0
      chain_most u [] p = omega (arith, sum_head u [], sum_none, s u (chain_head v E p))
      chain_most u (w ∷ c) (joined b e p) = omega (arith, sum_head u (w ∷ c), chain_most w c p, onward_most u w b (chain_head v E p) e)

      -- the vertex that is found, where there is one
      abbrev passing : (ℕ → Bool) → ℕ → ℕ → Bool
      passing p left u = p u && eqb (get_or sums u 0) left

      pub found : (p : ℕ → Bool) (left i : ℕ) → i < v → p i ≡ true → get_or sums i 0 ≡ left
          → (first_with v sums p left < v) × (p (first_with v sums p left) ≡ true) × (get_or sums (first_with v sums p left) 0 ≡ left) × (first_with v sums p left ≤ i)
      unfolding first_with
      found p left i b h e =
          let r = lowest_found (passing p left) 255 v i b (and_true _ _ h (eq-eqb _ _ e)) in
          let q = both_true (p (lowest 255 v (passing p left))) (eqb (get_or sums (lowest 255 v (passing p left)) 0) left) r.1 in
          (r.0, q.0, eqb-true _ _ q.1, r.2)

      -- ---- after u, where `left` is still to be summed
      pub next_found : (u left : ℕ) → u < v → get_or sums u 0 ≡ f u + suc left
          → (first_with v sums (E u) (suc left) < v) × (E u (first_with v sums (E u) (suc left)) ≡ true)
          × (get_or sums (first_with v sums (E u) (suc left)) 0 ≡ suc left)
      next_found u left b h =
          ⊎_elim (λ z. absurd (omega (arith, s u b)))
          (λ i. go i.0 i.1 (E u i.0) refl i.2)
          (largest_some v (λ w. pick (E u w) (get_or sums w 0) 0))
        where
          go : (i : ℕ) → i < v → (d : Bool) → E u i ≡ d
              → largest v (λ w. pick (E u w) (get_or sums w 0) 0) ≡ pick d (get_or sums i 0) 0
              → (first_with v sums (E u) (suc left) < v) × (E u (first_with v sums (E u) (suc left)) ≡ true)
              × (get_or sums (first_with v sums (E u) (suc left)) 0 ≡ suc left)
          go i c true e q = let r = found (E u) (suc left) i c e (omega (arith, s u b)) in (r.0, r.1, r.2)
          go i c false e q = absurd (omega (arith, s u b))

      -- no chain from u with that sum goes on by a smaller list
      after_first : (k u left : ℕ) (c : List ℕ) → Chain v E (u ∷ c) → get_or sums u 0 ≡ f u + left → sum_along f c ≡ left → list_less c (listed k u left) ≡ false
      after_first zero u left c p h e = ap (list_less c) (no_more u left) ∙ less_none c
      after_first (suc k) u zero c p h e = ap (list_less c) (nothing_left_lem (suc k) u) ∙ less_none c
      after_first (suc k) u (suc left) [] p h e = absurd (omega (arith, sum_none))
      after_first (suc k) u (suc left) (w ∷ c) (joined b d p) h e =
          let m = chain_head v E p in
          let q : get_or sums w 0 ≡ suc left = omega (arith, onward_most u w b m d, chain_most w c p) in
          let r = found (E u) (suc left) w m d q in
          ap (list_less (w ∷ c)) (one_after k u left ∙ from_first k (E u) (suc left))
          ∙ go (first_with v sums (E u) (suc left)) r.3 (λ x. after_first k w x c p)
        where
          go : (t : ℕ) → t ≤ w → ((x : ℕ) → get_or sums w 0 ≡ f w + x → sum_along f c ≡ x → list_less c (listed k w x) ≡ false)
              → list_less (w ∷ c) (t ∷ listed k t (suc left - f t)) ≡ false
          go t l i = elim (ℕ_discrete t w) [
            | yes q ↦
                let x = sum_head w c in
                ap (λ (y : ℕ). list_less (w ∷ c) (y ∷ listed k y (suc left - f y))) q
                ∙ less_same w c (listed k w (suc left - f w))
                ∙ i (suc left - f w) (omega (arith, onward_most u w b (chain_head v E p) d, chain_most w c p)) (omega arith)
            | no q ↦ less_higher w t c (listed k t (suc left - f t)) (omega arith)
          ]

      module _ (rise : ℕ → ℕ) (r : Rising v E rise) where
        pub after_chain : (k u left : ℕ) → u < v → get_or sums u 0 ≡ f u + left → 16 ≤ rise u + k
            → Chain v E (u ∷ listed k u left) × (sum_along f (listed k u left) ≡ left)
        after_chain zero u zero b h n = rw (nothing_left_lem zero u) (alone b, sum_none)
        after_chain zero u (suc left) b h n =
            let q = next_found u left b h in
            absurd (omega (arith, r.most (first_with v sums (E u) (suc left)), r.up u (first_with v sums (E u) (suc left)) b q.0 q.1))
        after_chain (suc k) u zero b h n = rw (nothing_left_lem (suc k) u) (alone b, sum_none)
        after_chain (suc k) u (suc left) b h n =
            let t : ℕ = first_with v sums (E u) (suc left) in
            let q = next_found u left b h in
            let own = s t q.0 in
            let i = after_chain k t (suc left - f t) q.0 (omega arith) (omega (arith, r.up u t b q.0 q.1)) in
            rw (one_after k u left ∙ from_first k (E u) (suc left)) (joined b q.1 i.0, omega (arith, sum_head t (listed k t (suc left - f t)), i.1))

      -- ---- the whole list, from the lowest of those that have the largest sum
      module _ (best : ℕ) (most : (u : ℕ) → u < v → get_or sums u 0 ≤ best) where
        pub from_chain : (rise : ℕ → ℕ) → Rising v E rise → (i : ℕ) → i < v → get_or sums i 0 ≡ best
            → Chain v E (listed_from v E f sums 15 (λ u. true) best) × (sum_along f (listed_from v E f sums 15 (λ u. true) best) ≡ best)
        from_chain rise r i b e =
            let t : ℕ = first_with v sums (λ u. true) best in
            let q = found (λ u. true) best i b refl e in
            let own = s t q.0 in
            let a = after_chain rise r 15 t (best - f t) q.0 (omega (arith, q.2)) (omega (arith, r.least t q.0)) in
            rw (from_first 15 (λ u. true) best) (a.0, omega (arith, sum_head t (listed 15 t (best - f t)), a.1, q.2))

        pub from_least : (c : List ℕ) → Chain v E c → sum_along f c ≡ best → list_less c (listed_from v E f sums 15 (λ u. true) best) ≡ false
        from_least [] p e = absurd (none_chain p)
        from_least (w ∷ c) p e =
            let m = chain_head v E p in
            let q : get_or sums w 0 ≡ best = omega (arith, chain_most w c p, most w m) in
            let r = found (λ u. true) best w m refl q in
            ap (list_less (w ∷ c)) (from_first 15 (λ u. true) best) ∙ go (first_with v sums (λ u. true) best) r.3 q
          where
            go : (t : ℕ) → t ≤ w → get_or sums w 0 ≡ best → list_less (w ∷ c) (t ∷ listed 15 t (best - f t)) ≡ false
            go t l q = elim (ℕ_discrete t w) [
              | yes d ↦
                  let x = sum_head w c in
                  ap (λ (y : ℕ). list_less (w ∷ c) (y ∷ listed 15 y (best - f y))) d
                  ∙ less_same w c (listed 15 w (best - f w))
                  ∙ after_first 15 w (best - f w) c p (omega arith) (omega arith)
              | no d ↦ less_higher w t c (listed 15 t (best - f t)) (omega arith)
            ]

  -- ---- a chain that rises has no vertex twice
  module _ (rise : ℕ → ℕ) (r : Rising v E rise) where
    above : (u : ℕ) (c : List ℕ) → Chain v E (u ∷ c) → (x : ℕ) → is_in x c ≡ true → rise u < rise x
    above u [] p x i = absurd (none_in_none x i)
    above u (w ∷ c) (joined b e p) x i = elim (ℕ_discrete x w) [
      | yes q ↦ rw q (r.up u w b (chain_head v E p) e)
      | no q ↦ omega (arith, r.up u w b (chain_head v E p) e, above w c p x (sym (other_in x w c q) ∙ i))
    ]

    pub chain_distinct : (c : List ℕ) → Chain v E c → Distinct c
    unfolding Distinct is_in
    chain_distinct [] p = tt
    chain_distinct (u ∷ []) p = (refl, tt)
    chain_distinct (u ∷ w ∷ c) (joined b e p) =
        (off_when _ (λ i. let z = above u (w ∷ c) (joined b e p) u i in omega arith), chain_distinct (w ∷ c) p)

  pub chain_below : (c : List ℕ) → Chain v E c → (x : ℕ) → is_in x c ≡ true → x < v
  chain_below [] p x i = absurd (none_chain p)
  chain_below (u ∷ []) p x i = elim (ℕ_discrete x u) [
    | yes q ↦ rw q (chain_head v E p)
    | no q ↦ absurd (none_in_none x (sym (other_in x u [] q) ∙ i))
  ]
  chain_below (u ∷ w ∷ c) (joined b e p) x i = elim (ℕ_discrete x u) [
    | yes q ↦ rw q b
    | no q ↦ chain_below (w ∷ c) p x (sym (other_in x u (w ∷ c) q) ∙ i)
  ]

-- WHAT `first_chain` MEANS, of a task of 1 to 16 vertices with successors of sixteen bits: the cycle test passes
module _ (v : ℕ) (succ : List ℕ) (f : ℕ → ℕ) (v1 : 1 ≤ v) (v16 : v ≤ 16) (passes : acyclic succ ≡ true) where
  pub rising : Rising v (edge succ) (rank 16 (edge succ))
  unfolding acyclic
  rising = record {
    up = λ u w a b e. rank_up 16 (edge succ) passes u w (omega arith) e;
    most = rank_most 16 (edge succ);
    least = λ u h. rank_least 16 (edge succ) u (omega arith);
  }

  pub sums_right : Sums v (edge succ) f (longest_from v (edge succ) f 16)
  sums_right = from_sums v (edge succ) f (rank 16 (edge succ)) rising

  -- it is a chain with the largest sum, and of those the one whose list is first
  pub first_chain_lem : LongestByName v (edge succ) f (first_chain v (edge succ) f)
  unfolding first_chain longest
  first_chain_lem =
      let sums : List ℕ = longest_from v (edge succ) f 16 in
      let m = maximum_some sums (omega (arith, from_many v (edge succ) f 15)) in
      let most : (u : ℕ) → u < v → get_or sums u 0 ≤ maximum sums = λ u h. maximum_most sums u in
      let c = from_chain v (edge succ) f sums sums_right (maximum sums) most (rank 16 (edge succ)) rising m.0 (omega (arith, m.1, from_length v (edge succ) f 16)) (sym m.2) in
      record { chain = c.0; sum = c.1; first = from_least v (edge succ) f sums sums_right (maximum sums) most }

  -- and no other list is that
  pub first_only : (c : List ℕ) → LongestByName v (edge succ) f c → c ≡ first_chain v (edge succ) f
  first_only c l =
      let k = first_chain_lem in
      neither_less c (first_chain v (edge succ) f) (k.first c l.chain l.sum) (l.first (first_chain v (edge succ) f) k.chain k.sum)

  -- no vertex stands in it twice, so it has v at most
  pub first_distinct : Distinct (first_chain v (edge succ) f)
  first_distinct = chain_distinct v (edge succ) f (rank 16 (edge succ)) rising (first_chain v (edge succ) f) first_chain_lem.chain

  pub first_length : length (first_chain v (edge succ) f) ≤ v
  first_length = distinct_short v (first_chain v (edge succ) f) first_distinct (chain_below v (edge succ) f (first_chain v (edge succ) f) first_chain_lem.chain)
