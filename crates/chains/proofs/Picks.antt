-- Laws of the loops over a set that list the longest chain: the largest of its sums, the lowest with a given sum, one that leads to none of it.
use mathlib.Core.Path.{◌≡◌, refl, sym, ap, ◌∙◌}
use mathlib.Core.Logic.{⊎_elim}
use mathlib.Core.Bool.{Bool, true, false, ◌&&◌}
use mathlib.Core.List.{List, [], ◌∷◌}
use Prim.Native.Nat.{ℕ, ◌-◌, ◌^◌, ◌≤◌, ◌<◌, max}
use native.Mathlib.Omega.{arith}
use native.Mathlib.Decide.{ℕ_discrete, dec_lt}
use lib.ListN.{get_or}
use lib.Dec.{eqb}
use lib.Bits.{bit_and, and_le_r}
use borrow.Author.Tests.{eq-eqb, ne_eqb}
use Rattle.graph.specs.Words.{pick, bit, row, largest, also_if, those, those_below, lowest, members, is_in}
use Rattle.graph.specs.Graph.{edge, acyclic}
use Rattle.chains.specs.Chains.{first_with}
use Rattle.graph.proofs.Facts.{clash, off_when, largest_most, largest_some, first_in, other_in, tail_in}
use Rattle.graph.proofs.Bits as B
use Rattle.graph.proofs.Members.{those_those, members_zero, in_members, in_held}
use Rattle.graph.proofs.Rank.{rank, rank_up, rank_least}
use Rattle.chains.proofs.Chains.{none_in_none}

-- ---- the largest of the sums of a list of vertices
unfoldable pub most_of : List ℕ → List ℕ → ℕ
most_of sums [] = 0
most_of sums (w ∷ ws) = max (get_or sums w 0) (most_of sums ws)

module _ (sums : List ℕ) where
  pub most_end : (best rest : ℕ) → rest ≡ 0 → best ≡ max best (most_of sums (members rest))
  unfolding most_of
  most_end best rest e = let z = ap (most_of sums) (ap members e ∙ members_zero) in omega arith

  pub most_more : (best rest less w m : ℕ) → members rest ≡ w ∷ members less
      → m ≡ max best (get_or sums w 0) → max m (most_of sums (members less)) ≡ max best (most_of sums (members rest))
  unfolding most_of
  most_more best rest less w m q h =
      let z : most_of sums (members rest) ≡ max (get_or sums w 0) (most_of sums (members less)) = ap (most_of sums) q in
      omega arith

  most_in : (l : List ℕ) (w : ℕ) → is_in w l ≡ true → get_or sums w 0 ≤ most_of sums l
  unfolding most_of
  most_in [] w i = absurd (none_in_none w i)
  most_in (x ∷ l) w i = elim (ℕ_discrete w x) [
    | yes e ↦ rw e (omega arith)
    | no d ↦ omega (arith, most_in l w (sym (other_in w x l d) ∙ i))
  ]

  most_within : (l : List ℕ) (n : ℕ) → ((w : ℕ) → is_in w l ≡ true → get_or sums w 0 ≤ n) → most_of sums l ≤ n
  unfolding most_of
  most_within [] n h = omega arith
  most_within (x ∷ l) n h = omega (arith, h x (first_in x l), most_within l n (λ w i. h w (tail_in w x l i)))

  pub most_is : (set : ℕ) → most_of sums (members set) ≡ largest 16 (λ w. pick (bit set w) (get_or sums w 0) 0)
  most_is set =
      let g : ℕ → ℕ = λ w. pick (bit set w) (get_or sums w 0) 0 in
      let a : most_of sums (members set) ≤ largest 16 g = most_within (members set) (largest 16 g) (λ w i.
      let b = in_held set w i in
      let q : g w ≡ get_or sums w 0 = ap (λ (d : Bool). pick d (get_or sums w 0) 0) b.1 in
      omega (arith, largest_most 16 g w b.0)) in
      let b : largest 16 g ≤ most_of sums (members set) =
      ⊎_elim (λ z. omega arith) (λ r. go r.0 r.1 (bit set r.0) refl r.2) (largest_some 16 g) in
      omega arith
    where
      go : (i : ℕ) → i < 16 → (d : Bool) → bit set i ≡ d → largest 16 (λ w. pick (bit set w) (get_or sums w 0) 0) ≡ pick d (get_or sums i 0) 0
          → largest 16 (λ w. pick (bit set w) (get_or sums w 0) 0) ≤ most_of sums (members set)
      go i b true e q = omega (arith, most_in (members set) i (in_members set i b ∙ e))
      go i b false e q = omega arith

-- ---- the first of a list of vertices that has just what is left for its sum
unfoldable pub head_with : List ℕ → ℕ → List ℕ → ℕ
head_with sums left ws = get_or (those (λ w. eqb (get_or sums w 0) left) ws) 0 255

module _ (sums : List ℕ) (left : ℕ) where
  pub with_is : (set : ℕ) → head_with sums left (members set) ≡ first_with 16 sums (bit set) left
  unfolding head_with first_with lowest members those_below
  with_is set = ap (λ (l : List ℕ). get_or l 0 255) (those_those (λ w. eqb (get_or sums w 0) left) (bit set) (row 16 (λ i. i)))

  pub with_end : (rest : ℕ) → rest ≡ 0 → 255 ≡ head_with sums left (members rest)
  unfolding head_with those
  with_end rest e = sym (ap (head_with sums left) (ap members e ∙ members_zero))

  module _ (rest less w : ℕ) (split : members rest ≡ w ∷ members less) where
    pub with_here : get_or sums w 0 ≡ left → w ≡ head_with sums left (members rest)
    unfolding head_with those also_if
    with_here h =
        sym (ap (head_with sums left) split
        ∙ ap (λ (b : Bool). get_or (also_if b w (those (λ x. eqb (get_or sums x 0) left) (members less))) 0 255) (eq-eqb _ _ h))

    pub with_more : (get_or sums w 0 ≡ left → ⊥) → head_with sums left (members less) ≡ head_with sums left (members rest)
    unfolding head_with those also_if
    with_more h =
        sym (ap (head_with sums left) split
        ∙ ap (λ (b : Bool). get_or (also_if b w (those (λ x. eqb (get_or sums x 0) left) (members less))) 0 255) (ne_eqb _ _ h))

-- ---- one of a set that leads to none of it
abbrev pub Free : List ℕ → ℕ → ℕ → Type 0
Free succ left x = (bit left x ≡ true) × (bit_and (get_or succ x 0) left ≡ 0)

pub free_leads : (succ : List ℕ) (left x : ℕ) → Free succ left x → (w : ℕ) → edge succ x w ≡ true → bit left w ≡ false
unfolding edge
free_leads succ left x h w e =
    off_when _ (λ i. clash (B.bit_and_lem (get_or succ x 0) left w ∙ rw (e, i) refl) (ap (λ (n : ℕ). bit n w) h.1 ∙ B.bit_zero w))

-- none from u on
abbrev pub NoneFrom : List ℕ → ℕ → ℕ → Type 0
NoneFrom succ left u = (x : ℕ) → u ≤ x → x < 16 → Free succ left x → ⊥

pub none_lower : (succ : List ℕ) (left u : ℕ) → 0 < u → NoneFrom succ left u → (Free succ left (u - 1) → ⊥) → NoneFrom succ left (u - 1)
none_lower succ left u p h n x a b f = elim (ℕ_discrete x (u - 1)) [
  | yes e ↦ n (ap (bit left) (sym e) ∙ f.0, ap (λ (y : ℕ). bit_and (get_or succ y 0) left) (sym e) ∙ f.1)
  | no d ↦ h x (omega arith) b f
]

module _ (succ : List ℕ) (left : ℕ) (some : 0 < left) (small : left < 2 ^ 16) (passes : acyclic succ ≡ true) where
  abbrev ranked : ℕ → ℕ
  ranked u = pick (bit left u) (rank 16 (edge succ) u) 0

  ranked_is : (u : ℕ) → bit left u ≡ true → ranked u ≡ rank 16 (edge succ) u
  ranked_is u e = ap (λ (b : Bool). pick b (rank 16 (edge succ) u) 0) e

  ranked_some : 1 ≤ largest 16 ranked
  ranked_some =
      let l = B.lowest 16 left some small in
      let b = B.lowest_lt 16 left some small in
      omega (arith, largest_most 16 ranked _ b, ranked_is _ l.here, rank_least 16 (edge succ) _ b)

  -- the one of the highest rank
  pub some_free : (x : ℕ) × (x < 16) × Free succ left x
  unfolding acyclic edge
  some_free = ⊎_elim (λ z. absurd (omega (arith, ranked_some))) (λ r. go r.0 r.1 (bit left r.0) refl r.2) (largest_some 16 ranked)
    where
      none : (x : ℕ) → bit left x ≡ true → largest 16 ranked ≡ rank 16 (edge succ) x → (j : ℕ) → j < 16 → (a b : Bool)
          → bit (get_or succ x 0) j ≡ a → bit left j ≡ b → a && b ≡ false
      none x i q j h true true d e = absurd (omega (arith, q, rank_up 16 (edge succ) passes x j h d, largest_most 16 ranked j h, ranked_is j e))
      none x i q j h true false d e = refl
      none x i q j h false b d e = refl

      go : (x : ℕ) → x < 16 → (d : Bool) → bit left x ≡ d → largest 16 ranked ≡ pick d (rank 16 (edge succ) x) 0 → (x : ℕ) × (x < 16) × Free succ left x
      go x b false e q = absurd (omega (arith, ranked_some))
      go x b true e q =
          let z : bit_and (get_or succ x 0) left ≡ 0 =
          B.bit_ext 16 (bit_and (get_or succ x 0) left) 0 (omega (arith, and_le_r (get_or succ x 0) left)) (omega arith)
          (λ j h. B.bit_and_lem (get_or succ x 0) left j ∙ none x e q j h (bit (get_or succ x 0) j) (bit left j) refl refl ∙ sym (B.bit_zero j)) in
          (x, b, (e, z))

-- only the empty set has none
pub none_free : (succ : List ℕ) (left : ℕ) → left < 2 ^ 16 → acyclic succ ≡ true → NoneFrom succ left 0 → left ≡ 0
none_free succ left small passes n = elim (dec_lt 0 left) [
  | yes p ↦ let f = some_free succ left p small passes in absurd (n f.0 (omega arith) f.1 f.2)
  | no p ↦ omega arith
]
