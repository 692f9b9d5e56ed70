-- The chain that is listed of sixteen vertices is that of the first v, where the others have no edge and no time: none of them is ever listed.
use mathlib.Core.Path.{◌≡◌, refl, sym, ◌∙◌}
use mathlib.Core.Bool.{Bool, true}
use mathlib.Core.List.{List, [], ◌∷◌}
use Prim.Native.Nat.{ℕ, ◌≤◌, ◌<◌}
use native.Mathlib.Omega.{arith}
use native.Mathlib.Decide.{dec_lt}
use lib.ListN.{get_or}
use Rattle.graph.specs.Words.{bit, row_from, row, largest, also_if, those, those_below, lowest, any_of, is_none}
use Rattle.graph.specs.Graph.{edge, led_to, sweep, sweeps, acyclic_among, acyclic, Chain, alone, joined, sum_along, one_more, longest_from, maximum, longest}
use Rattle.chains.specs.Chains.{LongestByName, first_with, listed_after, listed_from, first_chain, chain_of}
use Rattle.graph.proofs.Facts.{clash}
use Rattle.graph.proofs.Long.{chain_head, longest_bounds}
use Rattle.graph.proofs.Narrow.{longest_same, longest_narrow}
use Rattle.chains.proofs.Least.{less_lower}
use Rattle.chains.proofs.Chains.{none_chain, first_chain_lem, first_only}

-- ---- times that are the same
module _ (v : ℕ) (E : ℕ → ℕ → Bool) (f g : ℕ → ℕ) (same : (u : ℕ) → u < v → f u ≡ g u) where
  sum_same : (c : List ℕ) → Chain v E c → sum_along f c ≡ sum_along g c
  unfolding sum_along
  sum_same [] p = absurd (none_chain p)
  sum_same (u ∷ []) p = omega (arith, same u (chain_head v E p))
  sum_same (u ∷ w ∷ c) (joined b e p) = omega (arith, same u b, sum_same (w ∷ c) p)

  pub named_same : (c : List ℕ) → LongestByName v E f c → LongestByName v E g c
  named_same c l = record {
    chain = l.chain;
    sum = sym (sum_same c l.chain) ∙ l.sum ∙ longest_same v E f g same;
    first = λ d p e. l.first d p (sum_same d p ∙ e ∙ sym (longest_same v E f g same));
  }

-- ---- no edge and no time from v on
module _ (v : ℕ) (succ : List ℕ) (f : ℕ → ℕ) (v1 : 1 ≤ v) (v16 : v ≤ 16) (passes : acyclic succ ≡ true)
    (ends : (u w : ℕ) → edge succ u w ≡ true → (u < v) × (w < v)) (unused : (u : ℕ) → v ≤ u → u < 16 → f u ≡ 0) where
  wider : (c : List ℕ) → Chain v (edge succ) c → Chain 16 (edge succ) c
  wider [] p = absurd (none_chain p)
  wider (u ∷ []) p = alone {u = u} (let b = chain_head v (edge succ) p in omega arith)
  wider (u ∷ w ∷ c) (joined b e p) = joined {u = u} (omega arith) e (wider (w ∷ c) p)

  narrower : (u w : ℕ) (c : List ℕ) → Chain 16 (edge succ) (u ∷ w ∷ c) → Chain v (edge succ) (u ∷ w ∷ c)
  narrower u w [] (joined b e p) = let t = ends u w e in joined t.0 e (alone t.1)
  narrower u w (x ∷ c) (joined b e p) = joined (ends u w e).0 e (narrower w x c p)

  sum_one : (u : ℕ) → sum_along f (u ∷ []) ≡ f u
  unfolding sum_along
  sum_one u = omega arith

  -- one past the others, alone, has nothing for its sum, and then vertex 0 comes first
  within : (c : List ℕ) → LongestByName 16 (edge succ) f c → Chain v (edge succ) c
  within [] l = absurd (none_chain l.chain)
  within (u ∷ w ∷ c) l = narrower u w c l.chain
  within (u ∷ []) l = elim (dec_lt u v) [
    | yes b ↦ alone b
    | no b ↦
        let z : longest 16 (edge succ) f ≡ 0 =
        omega (arith, l.sum, sum_one u, unused u (omega arith) (chain_head 16 (edge succ) l.chain)) in
        let a : Chain 16 (edge succ) (0 ∷ []) = alone {u = 0} (omega arith) in
        let m = longest_bounds 16 succ f (omega arith) passes (0 ∷ []) a in
        let s : sum_along f (0 ∷ []) ≡ longest 16 (edge succ) f = omega arith in
        absurd (clash (less_lower 0 u [] [] (omega arith)) (l.first (0 ∷ []) a s))
  ]

  pub named_narrow : (c : List ℕ) → LongestByName 16 (edge succ) f c → LongestByName v (edge succ) f c
  named_narrow c l =
      let e = longest_narrow v (edge succ) f v16 ends unused in
      record { chain = within c l; sum = l.sum ∙ e; first = λ d p q. l.first d (wider d p) (q ∙ sym e) }

-- WHAT `chain_of` MEANS, of a task of v vertices that passes the cycle test: its times are f, and the others have none
module _ (v : ℕ) (succ times : List ℕ) (f : ℕ → ℕ) (v1 : 1 ≤ v) (v16 : v ≤ 16) (passes : acyclic succ ≡ true)
    (ends : (u w : ℕ) → edge succ u w ≡ true → (u < v) × (w < v)) (same : (u : ℕ) → u < 16 → get_or times u 0 ≡ f u)
    (unused : (u : ℕ) → v ≤ u → u < 16 → f u ≡ 0) where
  pub chain_of_named : LongestByName v (edge succ) f (chain_of succ times)
  unfolding chain_of
  chain_of_named =
      rw passes
      (named_narrow v succ f v1 v16 passes ends unused (first_chain 16 (edge succ) (λ u. get_or times u 0))
      (named_same 16 (edge succ) (λ u. get_or times u 0) f same (first_chain 16 (edge succ) (λ u. get_or times u 0))
      (first_chain_lem 16 succ (λ u. get_or times u 0) (omega arith) (omega arith) passes)))

  pub chain_of_is : chain_of succ times ≡ first_chain v (edge succ) f
  chain_of_is = first_only v succ f v1 v16 passes (chain_of succ times) chain_of_named

-- EXAMPLES, with times of 0 (document 02, M-103): such a vertex is listed first or in between where its number is lower, and never last.
abbrev chains : List (List ℕ)
chains =
    chain_of (2 ∷ 0 ∷ []) (0 ∷ 3 ∷ [])
    ∷ chain_of (2 ∷ 0 ∷ []) (3 ∷ 0 ∷ [])
    ∷ chain_of (2 ∷ 0 ∷ []) (0 ∷ 0 ∷ [])
    ∷ chain_of (6 ∷ 4 ∷ 0 ∷ []) (2 ∷ 0 ∷ 1 ∷ [])
    ∷ chain_of (0 ∷ 4 ∷ 0 ∷ []) (3 ∷ 1 ∷ 2 ∷ [])
    ∷ chain_of (2 ∷ 1 ∷ []) (1 ∷ 1 ∷ [])
    ∷ []

examples : chains ≡ (0 ∷ 1 ∷ []) ∷ (0 ∷ []) ∷ (0 ∷ []) ∷ (0 ∷ 1 ∷ 2 ∷ []) ∷ (0 ∷ []) ∷ [] ∷ []
unfolding chain_of acyclic acyclic_among sweeps sweep led_to those any_of also_if is_none row row_from edge bit first_chain listed_from listed_after first_with lowest those_below longest_from one_more largest maximum longest
examples = refl
