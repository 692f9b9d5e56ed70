-- The starts along the elimination order: each is the sum of a chain, and no edge from a vertex that is out leads to an earlier start.
use mathlib.Core.Path.{◌≡◌, refl, sym, subst, ◌∙◌}
use mathlib.Core.Logic.{◌⊎◌, inl, inr, ⊎_elim}
use mathlib.Core.Bool.{Bool, true, false}
use mathlib.Core.List.{List, [], ◌∷◌}
use Prim.Native.Nat.{ℕ, ◌+◌, ◌≤◌, ◌<◌, max}
use native.Mathlib.Omega.{arith}
use native.Mathlib.Decide.{ℕ_discrete, dec_le}
use lib.ListN.{length, get_or}
use Rattle.graph.specs.Words.{is_in}
use Rattle.graph.specs.Graph.{edge, acyclic, Chain, alone, joined, sum_along, longest}
use Rattle.graph.specs.Order.{passed, passed_all, best_all}
use Rattle.graph.proofs.Facts.{clash, off_when, first_in, other_in, tail_in}
use Rattle.graph.proofs.Long.{chain_head, longest_bounds, longest_reached}
use Rattle.graph.proofs.Order.{passed_length, passed_other, passed_on}

-- a chain that ends at u has the sum s
pub data Reaches (E : ℕ → ℕ → Bool) (f : ℕ → ℕ) : ℕ → ℕ → Type 0 where
  here : {u : ℕ} → u < 16 → Reaches E f u (f u)
  onward : {u w s : ℕ} → Reaches E f u s → E u w ≡ true → w < 16 → Reaches E f w (s + f w)

sum_head : (f : ℕ → ℕ) (u : ℕ) (c : List ℕ) → sum_along f (u ∷ c) ≡ f u + sum_along f c
unfolding sum_along
sum_head f u c = refl

module _ {E : ℕ → ℕ → Bool} {f : ℕ → ℕ} where
  below : {u s : ℕ} → Reaches E f u s → u < 16
  below (here h) = h
  below (onward r e h) = h

  -- with a chain that goes on from there it makes one chain
  whole : {u s : ℕ} → Reaches E f u s → (c : List ℕ) → Chain 16 E (u ∷ c) → (d : List ℕ) × Chain 16 E d × (sum_along f d ≡ s + sum_along f c)
  whole {u} (here h) c p = (u ∷ c, p, sum_head f u c)
  whole (onward {u = u} {w = w} r e h) c p =
      let d = whole r (w ∷ c) (joined (below r) e p) in
      (d.0, d.1, omega (arith, d.2, sum_head f w c))

  pub a_chain : {u s : ℕ} → Reaches E f u s → (d : List ℕ) × Chain 16 E d × (sum_along f d ≡ s)
  unfolding sum_along
  a_chain {u} r = let d = whole r [] (alone (below r)) in (d.0, d.1, omega (arith, d.2))

-- what holds of the starts, and of the largest end, once the vertices of which Out holds are taken out
pub record Going (succ times : List ℕ) (Out : ℕ → Type 0) (starts : List ℕ) (best : ℕ) : Type 0 where
  pub size : length starts ≡ 16
  pub reached : (u : ℕ) → u < 16 → Reaches (edge succ) (λ x. get_or times x 0) u (get_or starts u 0 + get_or times u 0)
  pub handed : (u w : ℕ) → u < 16 → w < 16 → Out u → edge succ u w ≡ true → get_or starts u 0 + get_or times u 0 ≤ get_or starts w 0
  pub covers : (u : ℕ) → u < 16 → Out u → get_or starts u 0 + get_or times u 0 ≤ best
  pub met : (best ≡ 0) ⊎ ((u : ℕ) × Reaches (edge succ) (λ x. get_or times x 0) u best)

module _ (succ times : List ℕ) where
  pub fewer_out : {Out Less : ℕ → Type 0} (starts : List ℕ) (best : ℕ) → ((x : ℕ) → x < 16 → Less x → Out x) → Going succ times Out starts best
      → Going succ times Less starts best
  fewer_out starts best h g = record {
    size = g.size;
    reached = g.reached;
    handed = λ u w a b o e. g.handed u w a b (h u a o) e;
    covers = λ u a o. g.covers u a (h u a o);
    met = g.met;
  }

  -- one vertex taken out, whose successors are neither out nor itself
  module _ (Out : ℕ → Type 0) (starts : List ℕ) (best : ℕ) (g : Going succ times Out starts best) (u : ℕ) (b : u < 16)
      (later : (x : ℕ) → edge succ u x ≡ true → (Out x ⊎ (x ≡ u)) → ⊥) where
    same : (x : ℕ) → x < 16 → Out x ⊎ (x ≡ u) → get_or (passed succ times starts u) x 0 ≡ get_or starts x 0
    same x h o = passed_other succ times starts g.size u x h (off_when _ (λ e. later x e o))

    grown : (x : ℕ) → x < 16 → get_or starts x 0 ≤ get_or (passed succ times starts u) x 0
    grown x h = go (edge succ u x) refl
      where
        go : (d : Bool) → edge succ u x ≡ d → get_or starts x 0 ≤ get_or (passed succ times starts u) x 0
        go true e = omega (arith, passed_on succ times starts g.size u x h e)
        go false e = omega (arith, passed_other succ times starts g.size u x h e)

    reach : (x : ℕ) → x < 16 → Reaches (edge succ) (λ y. get_or times y 0) x (get_or (passed succ times starts u) x 0 + get_or times x 0)
    reach x h = go (edge succ u x) refl
      where
        go : (d : Bool) → edge succ u x ≡ d → Reaches (edge succ) (λ y. get_or times y 0) x (get_or (passed succ times starts u) x 0 + get_or times x 0)
        go false e = rw (passed_other succ times starts g.size u x h e) (g.reached x h)
        go true e =
            elim (dec_le (get_or starts u 0 + get_or times u 0) (get_or starts x 0)) [
              | yes l ↦
                  let q : get_or (passed succ times starts u) x 0 ≡ get_or starts x 0 = omega (arith, passed_on succ times starts g.size u x h e) in
                  rw q (g.reached x h)
              | no l ↦
                  let q : get_or (passed succ times starts u) x 0 ≡ get_or starts u 0 + get_or times u 0 =
                  omega (arith, passed_on succ times starts g.size u x h e) in
                  rw q (onward (g.reached u b) e h)
            ]

    hand : (x w : ℕ) → x < 16 → w < 16 → Out x ⊎ (x ≡ u) → edge succ x w ≡ true
        → get_or (passed succ times starts u) x 0 + get_or times x 0 ≤ get_or (passed succ times starts u) w 0
    hand x w a h o e =
        let s = same x a o in
        ⊎_elim (λ p. omega (arith, g.handed x w a h p e, grown w h))
        (λ p. let q : edge succ u w ≡ true = rw p at e in rw p (omega (arith, rw p at s, passed_on succ times starts g.size u w h q))) o

    cover : (x : ℕ) → x < 16 → Out x ⊎ (x ≡ u) → get_or (passed succ times starts u) x 0 + get_or times x 0 ≤ max best (get_or starts u 0 + get_or times u 0)
    cover x h o =
        let s = same x h o in
        ⊎_elim (λ p. omega (arith, g.covers x h p)) (λ p. rw p (omega (arith, rw p at s))) o

    meet : (max best (get_or starts u 0 + get_or times u 0) ≡ 0)
        ⊎ ((x : ℕ) × Reaches (edge succ) (λ y. get_or times y 0) x (max best (get_or starts u 0 + get_or times u 0)))
    meet =
        elim (dec_le best (get_or starts u 0 + get_or times u 0)) [
          | yes l ↦
              let q : max best (get_or starts u 0 + get_or times u 0) ≡ get_or starts u 0 + get_or times u 0 = omega arith in
              inr (u, rw q (g.reached u b))
          | no l ↦ let q : max best (get_or starts u 0 + get_or times u 0) ≡ best = omega arith in rw q g.met
        ]

    pub one_out : Going succ times (λ x. Out x ⊎ (x ≡ u)) (passed succ times starts u) (max best (get_or starts u 0 + get_or times u 0))
    one_out = record { size = passed_length succ times starts g.size u; reached = reach; handed = hand; covers = cover; met = meet }

  -- a list of vertices taken out, whose successors are neither out nor in the list
  pub all_out : (Out : ℕ → Type 0) (starts : List ℕ) (best : ℕ) → Going succ times Out starts best → (us : List ℕ)
      → ((u : ℕ) → is_in u us ≡ true → u < 16)
      → ((u x : ℕ) → is_in u us ≡ true → edge succ u x ≡ true → (Out x ⊎ (is_in x us ≡ true)) → ⊥)
      → Going succ times (λ x. Out x ⊎ (is_in x us ≡ true)) (passed_all succ times starts us) (best_all succ times starts best us)
  unfolding passed_all best_all is_in
  all_out Out starts best g [] b later = fewer_out starts best (λ x h o. ⊎_elim (λ p. p) (λ p. absurd (clash p refl)) o) g
  all_out Out starts best g (u ∷ us) b later =
      let most : ℕ = max best (get_or starts u 0 + get_or times u 0) in
      fewer_out (passed_all succ times (passed succ times starts u) us) (best_all succ times (passed succ times starts u) most us) (λ x h. split x)
      (all_out (λ x. Out x ⊎ (x ≡ u)) (passed succ times starts u) most (one_out Out starts best g u (b u (first_in u us)) first) us
      (λ x i. b x (tail_in x u us i)) rest)
    where
      split : (x : ℕ) → Out x ⊎ (is_in x (u ∷ us) ≡ true) → (Out x ⊎ (x ≡ u)) ⊎ (is_in x us ≡ true)
      split x o =
          ⊎_elim (λ p. inl (inl p))
          (λ p. elim (ℕ_discrete x u) [ yes e ↦ inl (inr e) | no d ↦ inr (sym (other_in x u us d) ∙ p) ]) o

      first : (x : ℕ) → edge succ u x ≡ true → (Out x ⊎ (x ≡ u)) → ⊥
      first x e o = ⊎_elim (λ p. later u x (first_in u us) e (inl p)) (λ p. later u x (first_in u us) e (inr (subst (λ (z : ℕ). is_in z (u ∷ us) ≡ true) (sym p) (first_in u us)))) o

      rest : (v x : ℕ) → is_in v us ≡ true → edge succ v x ≡ true → ((Out x ⊎ (x ≡ u)) ⊎ (is_in x us ≡ true)) → ⊥
      rest v x i e o =
          let k = tail_in v u us i in
          ⊎_elim (λ p. ⊎_elim (λ q. later v x k e (inl q)) (λ q. later v x k e (inr (subst (λ (z : ℕ). is_in z (u ∷ us) ≡ true) (sym q) (first_in u us)))) p)
          (λ p. later v x k e (inr (tail_in x u us p))) o

-- ---- once all are out
module _ (succ times starts : List ℕ) (best : ℕ) (g : Going succ times (λ x. Unit {0}) starts best) where
  -- no chain has more than the largest end
  within : (u : ℕ) (c : List ℕ) → Chain 16 (edge succ) (u ∷ c) → get_or starts u 0 + sum_along (λ x. get_or times x 0) (u ∷ c) ≤ best
  unfolding sum_along
  within u [] p = omega (arith, g.covers u (chain_head 16 (edge succ) p) tt)
  within u (w ∷ c) (joined h e p) = omega (arith, within w c p, g.handed u w h (chain_head 16 (edge succ) p) tt e)

  pub best_is : acyclic succ ≡ true → best ≡ longest 16 (edge succ) (λ x. get_or times x 0)
  best_is a =
      let up : longest 16 (edge succ) (λ x. get_or times x 0) ≤ best = upper (longest_reached 16 succ (λ x. get_or times x 0) (omega arith) a (omega arith)) in
      let down : best ≤ longest 16 (edge succ) (λ x. get_or times x 0) = ⊎_elim (λ z. omega arith) (λ s. lower s) g.met in
      omega arith
    where
      upper : (c : List ℕ) × Chain 16 (edge succ) c × (sum_along (λ x. get_or times x 0) c ≡ longest 16 (edge succ) (λ x. get_or times x 0))
          → longest 16 (edge succ) (λ x. get_or times x 0) ≤ best
      upper ([], p, s) = absurd (none p)
        where
          none : Chain 16 (edge succ) [] → ⊥
          none = elim [ ]
      upper (u ∷ c, p, s) = omega (arith, within u c p)

      lower : (u : ℕ) × Reaches (edge succ) (λ x. get_or times x 0) u best → best ≤ longest 16 (edge succ) (λ x. get_or times x 0)
      lower (u, r) =
          let d = a_chain r in
          omega (arith, d.2, longest_bounds 16 succ (λ x. get_or times x 0) (omega arith) a d.0 d.1)
