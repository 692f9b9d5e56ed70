-- WHAT `done` MEANS: document 02's rule holds of it and of nothing else; and how it goes with what remains.
use mathlib.Core.Path.{◌≡◌, refl, sym, ap, ◌∙◌}
use mathlib.Core.Bool.{Bool, true, false, ◌&&◌, ◌||◌, not}
use mathlib.Core.List.{List}
use Prim.Native.Nat.{ℕ, zero, suc, ◌≤◌, ◌<◌}
use native.Mathlib.Omega.{arith}
use lib.Dec.{eqb}
use borrow.Author.Tests.{eqb-true, eq-eqb}
use Rattle.graph.specs.Words.{all}
use Rattle.graph.specs.Graph.{edge, Path, one, more, acyclic_among, acyclic, done_within, done}
use Rattle.graph.proofs.Facts.{clash, both_true, and_true, all_at, all_of, all_same}
use Rattle.graph.proofs.Rank.{rank, rank_up, rank_most}

-- "nothing of it remains and all its direct predecessors are done", where d says which are done
abbrev pub done_by : ℕ → (ℕ → ℕ → Bool) → (ℕ → ℕ) → (ℕ → Bool) → ℕ → Bool
done_by v E rest d u = eqb (rest u) 0 && all v (λ w. not (E w u) || d w)

pub if_so : (a b : Bool) → (a ≡ true → b ≡ true) → not a || b ≡ true
if_so true b h = h refl
if_so false b h = refl

pub so_if : (a b : Bool) → not a || b ≡ true → a ≡ true → b ≡ true
so_if true b h e = h
so_if false b h e = absurd (clash e refl)

on_true : (a b : Bool) → b ≡ true → a ≡ (a && b)
on_true true b e = sym e
on_true false b e = refl

module _ (v : ℕ) (E : ℕ → ℕ → Bool) (rest : ℕ → ℕ) where
  pub by_rule : (d : ℕ → Bool) (u : ℕ) → rest u ≡ 0 → ((w : ℕ) → w < v → E w u ≡ true → d w ≡ true) → done_by v E rest d u ≡ true
  by_rule d u z h = and_true _ _ (eq-eqb (rest u) 0 z) (all_of v _ (λ w b. if_so (E w u) (d w) (h w b)))

  pub rule_says : (d : ℕ → Bool) (u : ℕ) → done_by v E rest d u ≡ true → (rest u ≡ 0) × ((w : ℕ) → w < v → E w u ≡ true → d w ≡ true)
  rule_says d u h =
      let a = both_true (eqb (rest u) 0) (all v (λ w. not (E w u) || d w)) h in
      (eqb-true (rest u) 0 a.0, λ w b e. so_if (E w u) (d w) (all_at v _ a.1 w b) e)

  -- it asks of the direct predecessors alone
  pub rule_same : (d d' : ℕ → Bool) (u : ℕ) → ((w : ℕ) → w < v → E w u ≡ true → d w ≡ d' w) → done_by v E rest d u ≡ done_by v E rest d' u
  rule_same d d' u h = ap (λ (b : Bool). eqb (rest u) 0 && b) (all_same v _ _ (λ w b. go w (E w u) (h w b)))
    where
      go : (w : ℕ) (c : Bool) → (c ≡ true → d w ≡ d' w) → (not c || d w) ≡ (not c || d' w)
      go w true k = k refl
      go w false k = refl

  pub one_back : (k u : ℕ) → done_within (suc k) v E rest u ≡ done_by v E rest (done_within k v E rest) u
  unfolding done_within
  one_back k u = refl

  -- ---- any graph
  pub within_zero : (k u : ℕ) → done_within k v E rest u ≡ true → rest u ≡ 0
  unfolding done_within
  within_zero zero u h = eqb-true (rest u) 0 h
  within_zero (suc k) u h = (rule_says (done_within k v E rest) u h).0

  pub done_zero : (u : ℕ) → done v E rest u ≡ true → rest u ≡ 0
  unfolding done
  done_zero u h = within_zero 16 u h

  all_within : ((u : ℕ) → u < v → rest u ≡ 0) → (k u : ℕ) → u < v → done_within k v E rest u ≡ true
  unfolding done_within
  all_within z zero u b = eq-eqb (rest u) 0 (z u b)
  all_within z (suc k) u b = by_rule (done_within k v E rest) u (z u b) (λ w c e. all_within z k w c)

  -- ALL ARE DONE EXACTLY IF NOTHING REMAINS OF ANY
  pub all_done_lem : all v (done v E rest) ≡ all v (λ u. eqb (rest u) 0)
  unfolding done
  all_done_lem = go (all v (done v E rest)) refl (all v (λ u. eqb (rest u) 0)) refl
    where
      go : (a : Bool) → all v (done v E rest) ≡ a → (b : Bool) → all v (λ u. eqb (rest u) 0) ≡ b → a ≡ b
      go true p true q = refl
      go true p false q = absurd (clash (all_of v _ (λ u b. eq-eqb (rest u) 0 (done_zero u (all_at v _ p u b)))) q)
      go false p true q = absurd (clash (all_of v _ (λ u b. all_within (λ u b. eqb-true (rest u) 0 (all_at v _ q u b)) 16 u b)) p)
      go false p false q = refl

-- what is done stays done as what remains falls
module _ (v : ℕ) (E : ℕ → ℕ → Bool) (rest less : ℕ → ℕ) (falls : (x : ℕ) → x < v → rest x ≡ 0 → less x ≡ 0) where
  within_keeps : (k u : ℕ) → u < v → done_within k v E rest u ≡ true → done_within k v E less u ≡ true
  unfolding done_within
  within_keeps zero u b h = eq-eqb (less u) 0 (falls u b (eqb-true (rest u) 0 h))
  within_keeps (suc k) u b h =
      let r = rule_says v E rest (done_within k v E rest) u h in
      by_rule v E less (done_within k v E less) u (falls u b r.0) (λ w c e. within_keeps k w c (r.1 w c e))

  pub done_keeps : (u : ℕ) → u < v → done v E rest u ≡ true → done v E less u ≡ true
  unfolding done
  done_keeps u b h = within_keeps 16 u b h

-- it asks whether something remains, not how much
pub done_same : (v : ℕ) (E : ℕ → ℕ → Bool) (f g : ℕ → ℕ) → ((x : ℕ) → x < v → f x ≡ 0 → g x ≡ 0) → ((x : ℕ) → x < v → g x ≡ 0 → f x ≡ 0)
    → (u : ℕ) → u < v → done v E f u ≡ done v E g u
done_same v E f g to back u b = go (done v E f u) refl (done v E g u) refl
  where
    go : (c : Bool) → done v E f u ≡ c → (d : Bool) → done v E g u ≡ d → c ≡ d
    go true p true q = refl
    go true p false q = absurd (clash (done_keeps v E f g to u b p) q)
    go false p true q = absurd (clash (done_keeps v E g f back u b q) p)
    go false p false q = refl

-- ---- with no cycle
module _ (v : ℕ) (succ : List ℕ) (v16 : v ≤ 16) (passes : acyclic succ ≡ true) (rest : ℕ → ℕ) where
  among : acyclic_among 16 (edge succ) ≡ true
  unfolding acyclic
  among = passes

  abbrev place : ℕ → ℕ
  place u = rank 16 (edge succ) u

  up : (w u : ℕ) → u < v → edge succ w u ≡ true → place w < place u
  up w u b e = rank_up 16 (edge succ) among w u (omega arith) e

  -- as far back as a vertex has others before it
  settles : (k u : ℕ) → u < v → place u ≤ k → done_within k v (edge succ) rest u ≡ done_within (suc k) v (edge succ) rest u
  unfolding done_within
  settles zero u b h = on_true _ _ (all_of v _ (λ w c. if_so (edge succ w u) _ (λ e. absurd (omega (arith, up w u b e)))))
  settles (suc k) u b h =
      rule_same v (edge succ) rest (done_within k v (edge succ) rest) (done_within (suc k) v (edge succ) rest) u
      (λ w c e. settles k w c (omega (arith, up w u b e)))

  -- "a vertex is done when nothing of it remains and all its direct predecessors are done"
  pub done_means : (u : ℕ) → u < v → done v (edge succ) rest u ≡ (eqb (rest u) 0 && all v (λ w. not (edge succ w u) || done v (edge succ) rest w))
  unfolding done
  done_means u b = settles 16 u b (rank_most 16 (edge succ) u) ∙ one_back v (edge succ) rest 16 u

  -- and nothing else is: any test that keeps the rule is this
  only_by : (d : ℕ → Bool) → ((u : ℕ) → u < v → d u ≡ done_by v (edge succ) rest d u) → (r u : ℕ) → place u < r → u < v → d u ≡ done v (edge succ) rest u
  only_by d rule zero u h b = absurd (omega arith)
  only_by d rule (suc r) u h b =
      rule u b
      ∙ rule_same v (edge succ) rest d (done v (edge succ) rest) u (λ w c e. only_by d rule r w (omega (arith, up w u b e)) c)
      ∙ sym (done_means u b)

  pub done_only : (d : ℕ → Bool) → ((u : ℕ) → u < v → d u ≡ (eqb (rest u) 0 && all v (λ w. not (edge succ w u) || d w)))
      → (u : ℕ) → u < v → d u ≡ done v (edge succ) rest u
  done_only d rule u b = only_by d rule (suc (place u)) u (omega arith) b

  pub is_done : (u : ℕ) → u < v → rest u ≡ 0 → ((w : ℕ) → w < v → edge succ w u ≡ true → done v (edge succ) rest w ≡ true) → done v (edge succ) rest u ≡ true
  is_done u b z h = done_means u b ∙ by_rule v (edge succ) rest (done v (edge succ) rest) u z h

  pub done_direct : (u : ℕ) → u < v → done v (edge succ) rest u ≡ true → (w : ℕ) → w < v → edge succ w u ≡ true → done v (edge succ) rest w ≡ true
  done_direct u b h = (rule_says v (edge succ) rest (done v (edge succ) rest) u (sym (done_means u b) ∙ h)).1

  -- BEFORE A VERTEX THAT IS DONE nothing remains, however long the way
  module _ (ends : (u w : ℕ) → edge succ u w ≡ true → (u < v) × (w < v)) where
    pub before_is_done : {w u : ℕ} → Path (edge succ) w u → done v (edge succ) rest u ≡ true → done v (edge succ) rest w ≡ true
    before_is_done {w} {u} (one e) h = let b = ends w u e in done_direct u b.1 h w b.0 e
    before_is_done {w} (more {x = x} e p) h = let b = ends w x e in done_direct x b.1 (before_is_done p h) w b.0 e

    pub before_done : {w u : ℕ} → Path (edge succ) w u → done v (edge succ) rest u ≡ true → rest w ≡ 0
    before_done {w} p h = done_zero v (edge succ) rest w (before_is_done p h)
