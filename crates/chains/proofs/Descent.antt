-- The descent from u: it visits u, and then each successor of u in turn. What holds between two of them is `Going`. Why it ends with the tail
-- of u: u leads to no vertex that is still being visited, or a path would lead from u back to it; so each successor has its tail in the row
-- once it has been visited, and the largest of their times and tails is the tail of u.
use mathlib.Core.Path.{◌≡◌, refl, sym, ap, subst, ◌∙◌}
use mathlib.Core.Logic.{◌⊎◌, inl, inr, ⊎_elim}
use mathlib.Core.Bool.{Bool, true, false}
use mathlib.Core.List.{List, ◌∷◌}
use Prim.Native.Nat.{ℕ, ◌+◌, ◌^◌, ◌<◌, max}
use native.Mathlib.Omega.{arith}
use native.Mathlib.Decide.{ℕ_discrete}
use lib.ListN.{length, get_or, set, replicate}
use lib.Seq.{get_or-set_same, get_or-set_other, ext_get_or}
use Rattle.graph.specs.Words.{pick, bit, row_from, row, members, is_in}
use Rattle.graph.specs.Graph.{edge, Path, one, more, NoCycle, acyclic, longest_from}
use Rattle.chains.specs.Tails.{tail, tails_of}
use Rattle.chains.specs.Descent.{Sound, Within, Known, Visited}
use Rattle.graph.proofs.Facts.{clash, length_row, row_at, first_in, tail_in}
use Rattle.graph.proofs.Members.{in_held}
use Rattle.graph.proofs.Rank.{acyclic_is}
use Rattle.chains.proofs.Sixteen.{full, without, without_here, without_still, without_new}
use Rattle.chains.proofs.Tails.{sum_tail, tail_small}
use Rattle.chains.proofs.Picks.{most_of, most_end, most_more, most_is}

-- what holds between two successors: those of `rest` are still to be visited
pub record Going (succ times : List ℕ) (u left : ℕ) (before after : List ℕ) (unseen best rest : ℕ) : Type 0 where
  pub here : bit unseen u ≡ false
  pub still : (k : ℕ) → bit left k ≡ false → bit unseen k ≡ false
  pub new : (k : ℕ) → bit unseen k ≡ false → (bit left k ≡ false) ⊎ Within succ u k
  pub known : (k : ℕ) → k < 16 → bit unseen k ≡ false → Path (edge succ) u k → get_or after k 0 ≡ tail 16 (edge succ) (λ w. get_or times w 0) k
  pub kept : (k : ℕ) → bit left k ≡ false → get_or after k 0 ≡ get_or before k 0
  -- the largest so far, and of those that are left, is the tail of u
  pub most : max best (most_of (longest_from 16 (edge succ) (λ w. get_or times w 0) 16) (members rest)) ≡ tail 16 (edge succ) (λ w. get_or times w 0) u
  pub part : (w : ℕ) → is_in w (members rest) ≡ true → edge succ u w ≡ true

onward : (succ : List ℕ) (u w k : ℕ) → edge succ u w ≡ true → Within succ w k → Path (edge succ) u k
unfolding Within
onward succ u w k e h = ⊎_elim (λ q. one (ap (edge succ u) q ∙ e)) (λ p. more e p) h

-- one that was visited before
pub visited_same : (succ times : List ℕ) (u left : ℕ) (tails : List ℕ) → bit left u ≡ false → Known succ times u left tails → Visited succ times u left tails left tails
visited_same succ times u left tails out h = record { here = out; still = λ k s. s; new = λ k i. inl i; known = h; kept = λ k s. refl }

module _ (succ times : List ℕ) (sound : Sound succ times) where
  apart : NoCycle (edge succ)
  apart = (acyclic_is succ sound.bits).0 sound.passes

  abbrev f : ℕ → ℕ
  f u = get_or times u 0

  abbrev sums : List ℕ
  sums = longest_from 16 (edge succ) f 16

  module _ (u left : ℕ) (before : List ℕ) (b : u < 16) where
    pub going_first : left < 2 ^ 16 → Known succ times u left before → Going succ times u left before before (without left u) 0 (get_or succ u 0)
    unfolding Known Within edge tail
    going_first small h = record {
      here = without_here left u b;
      still = without_still left u b;
      new = λ k i. ⊎_elim (λ s. inl s) (λ e. inr (inl e)) (without_new left u b small k i);
      known = λ k c i p. ⊎_elim (λ s. h k c s (inr p)) (λ e. absurd (apart u (subst (λ (x : ℕ). Path (edge succ) u x) e p))) (without_new left u b small k i);
      kept = λ k s. refl;
      most = (let z : max 0 (most_of sums (members (get_or succ u 0))) ≡ most_of sums (members (get_or succ u 0)) = omega arith in z) ∙ most_is sums (get_or succ u 0);
      part = λ w i. (in_held (get_or succ u 0) w i).1;
    }

    module _ (after : List ℕ) (unseen best rest : ℕ) (g : Going succ times u left before after unseen best rest)
        (w less : ℕ) (c : w < 16) (first : members rest ≡ w ∷ members less) where
      leads : edge succ u w ≡ true
      leads = g.part w (ap (is_in w) first ∙ first_in w (members less))

      -- what the descent from a successor asks
      pub going_known : Known succ times w unseen after
      unfolding Known
      going_known k d i h = g.known k d i (onward succ u w k leads h)

      -- and what is so after it
      module _ (unseen₁ : ℕ) (after₁ : List ℕ) (v : Visited succ times w unseen after unseen₁ after₁) (time : ℕ) (t : time ≡ get_or times w 0) where
        own : get_or after₁ w 0 ≡ tail 16 (edge succ) f w
        unfolding Known Within
        own = v.known w c v.here (inl refl)

        -- which does not wrap
        pub going_small : time + get_or after₁ w 0 < 2 ^ 37
        going_small = omega (arith, own, sound.brief w, tail_small 16 (edge succ) f 4294967295 (λ x d. omega (arith, sound.brief x)) w)

        pub going_more : (best₁ : ℕ) → best₁ ≡ max best (time + get_or after₁ w 0) → Going succ times u left before after₁ unseen₁ best₁ less
        unfolding Known Within
        going_more best₁ m = record {
          here = v.still u g.here;
          still = λ k s. v.still k (g.still k s);
          new = λ k i. ⊎_elim (λ s. g.new k s) (λ h. inr (inr (onward succ u w k leads h))) (v.new k i);
          known = λ k d i p. ⊎_elim (λ s. v.kept k s ∙ g.known k d s p) (λ h. v.known k d i h) (v.new k i);
          kept = λ k s. v.kept k (g.still k s) ∙ g.kept k s;
          most = most_more sums best rest less w best₁ first (omega (arith, own, sum_tail 16 succ f (omega arith) sound.passes w c)) ∙ g.most;
          part = λ k i. g.part k (ap (is_in k) first ∙ tail_in k w (members less) i);
        }

    pub going_last : (after : List ℕ) (unseen best rest : ℕ) → Going succ times u left before after unseen best rest → rest ≡ 0 → length after ≡ 16 → bit left u ≡ true
        → Visited succ times u left before unseen (set after u best)
    unfolding Known Within
    going_last after unseen best rest g z n out =
        let own : best ≡ tail 16 (edge succ) f u = most_end sums best rest z ∙ g.most in
        record {
          here = g.here;
          still = g.still;
          new = g.new;
          known = λ k c i h. elim (ℕ_discrete k u) [
            | yes e ↦ ap (λ (j : ℕ). get_or (set after u best) j 0) e ∙ get_or-set_same after u best 0 (omega arith) ∙ own ∙ ap (tail 16 (edge succ) f) (sym e)
            | no d ↦ get_or-set_other after u k best 0 d ∙ g.known k c i (⊎_elim (λ e. absurd (d e)) (λ p. p) h)
          ];
          kept = λ k s. get_or-set_other after u k best 0 (λ e. clash out (ap (bit left) (sym e) ∙ s)) ∙ g.kept k s;
        }

-- ---- all starts
-- each that was visited has its tail in the row
unfoldable pub Settled : List ℕ → List ℕ → ℕ → List ℕ → Type 0
Settled succ times left tails = (k : ℕ) → k < 16 → bit left k ≡ false → get_or tails k 0 ≡ tail 16 (edge succ) (λ w. get_or times w 0) k

-- a descent started from each below u
abbrev pub Started : ℕ → ℕ → Type 0
Started left u = (k : ℕ) → k < u → bit left k ≡ false

pub started_next : {succ times before after : List ℕ} {u left now : ℕ} → Visited succ times u left before now after → Started left u → Started now (u + 1)
started_next {u = u} v s k b = elim (ℕ_discrete k u) [
  | yes e ↦ rw e v.here
  | no d ↦ v.still k (s k (omega arith))
]

pub none_settled : (succ times tails : List ℕ) → Settled succ times 65535 tails
unfolding Settled
none_settled succ times tails k c i = absurd (clash (full k c) i)

module _ (succ times : List ℕ) (left : ℕ) (tails : List ℕ) (s : Settled succ times left tails) where
  pub settled_known : (u : ℕ) → Known succ times u left tails
  unfolding Settled Known
  settled_known u k c i h = s k c i

  pub settled_more : (u now : ℕ) (after : List ℕ) → Visited succ times u left tails now after → Settled succ times now after
  unfolding Settled Known
  settled_more u now after v k c i = ⊎_elim (λ o. v.kept k o ∙ s k c o) (λ h. v.known k c i h) (v.new k i)

  pub all_settled : acyclic succ ≡ true → Started left 16 → length tails ≡ 16 → tails ≡ tails_of succ times
  unfolding Settled tails_of
  all_settled passes a n =
      ext_get_or 0 tails (row 16 (λ u. pick (acyclic succ) (tail 16 (edge succ) (λ w. get_or times w 0) u) 0))
      (n ∙ sym (length_row 16 _))
      (λ i b.
      let c : i < 16 = omega arith in
      s i c (a i c)
      ∙ sym (row_at 16 _ i 0 c ∙ ap (λ (d : Bool). pick d (tail 16 (edge succ) (λ w. get_or times w 0) i) 0) passes))

-- where there is a cycle
pub cycle_tails : (succ times : List ℕ) → acyclic succ ≡ false → replicate 16 0 ≡ tails_of succ times
unfolding tails_of row row_from
cycle_tails succ times e = ap (λ (b : Bool). row 16 (λ u. pick b (tail 16 (edge succ) (λ w. get_or times w 0) u) 0)) (sym e)
