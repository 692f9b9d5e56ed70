-- The rank of the vertices (document 02, M-109): "by ticks left, task, age place, vertex". It is a strict order, and `before` tests it: a vertex goes by
-- 64 times task, 16 times age place and vertex together, so the order of these numbers is by task, then age place, then vertex.
use Rattle.std.proofs.Common.{◌≡◌, ℕ, ◌<◌, Bool, true, false, ◌&&◌, ◌||◌, eqb, ltb, ◌⊎◌, sym, refl, ◌∙◌, inl, inr, ⊎_elim, arith, ltb-false, ltb-true, lt-ltb, eq-eqb, eqb-true}
use native.Mathlib.Decide.{ℕ_discrete, dec_lt}
use Rattle.graph.proofs.Facts.{clash, both_true, and_true, off_when}
use Rattle.machine.specs.declared.State.{State}
use Rattle.machine.specs.Steps.{task_in, age_in, vertex_in, left_in, before}
use Rattle.machine.proofs.Index.{name_of, age_below, vertex_below}

-- "task, age place, vertex"
abbrev pub ByTask : ℕ → ℕ → Type 0
ByTask a b = (task_in a < task_in b) ⊎ ((task_in a ≡ task_in b) × ((age_in a < age_in b) ⊎ ((age_in a ≡ age_in b) × (vertex_in a < vertex_in b))))

-- "rank by ticks left, task, age place, vertex": a ranks before b
abbrev pub RanksBefore : State → ℕ → ℕ → Type 0
RanksBefore st a b = (left_in st a < left_in st b) ⊎ ((left_in st a ≡ left_in st b) × ByTask a b)

-- by task, then age place, then vertex, is by number
pub by_task : (a b : ℕ) → a < b → ByTask a b
by_task a b l =
    let ea = name_of a in
    let eb = name_of b in
    let va = vertex_below a in
    let vb = vertex_below b in
    let ga = age_below a in
    let gb = age_below b in
    elim (dec_lt (task_in a) (task_in b)) [
      | yes k ↦ inl k
      | no k ↦ inr (omega arith, elim (dec_lt (age_in a) (age_in b)) [ yes h ↦ inl h | no h ↦ inr (omega arith, omega arith) ])
    ]

pub by_number : (a b : ℕ) → ByTask a b → a < b
by_number a b r =
    let ea = name_of a in
    let eb = name_of b in
    let va = vertex_below a in
    let vb = vertex_below b in
    let ga = age_below a in
    let gb = age_below b in
    ⊎_elim (λ k. omega arith) (λ k. let e = k.0 in ⊎_elim (λ h. omega arith) (λ h. omega (arith, h.0, h.1)) k.1) r

module _ (st : State) where
  -- ---- `before` tests it
  pub before_is : (a b : ℕ) → before st a b ≡ true → RanksBefore st a b
  unfolding before
  before_is a b h = go (ltb (left_in st a) (left_in st b)) refl h
    where
      go : (c : Bool) → ltb (left_in st a) (left_in st b) ≡ c → c || (eqb (left_in st a) (left_in st b) && ltb a b) ≡ true → RanksBefore st a b
      go true e h = inl (ltb-true (left_in st a) (left_in st b) e)
      go false e h =
          let q = both_true (eqb (left_in st a) (left_in st b)) (ltb a b) h in
          inr (eqb-true (left_in st a) (left_in st b) q.0, by_task a b (ltb-true a b q.1))

  pub is_before : (a b : ℕ) → RanksBefore st a b → before st a b ≡ true
  unfolding before
  is_before a b r = go (ltb (left_in st a) (left_in st b)) refl r
    where
      go : (c : Bool) → ltb (left_in st a) (left_in st b) ≡ c → RanksBefore st a b → c || (eqb (left_in st a) (left_in st b) && ltb a b) ≡ true
      go true e r = refl
      go false e r = ⊎_elim
          (λ k. absurd (clash (lt-ltb (left_in st a) (left_in st b) k) e))
          (λ k. and_true _ _ (eq-eqb (left_in st a) (left_in st b) k.0) (lt-ltb a b (by_number a b k.1)))
          r

  -- ---- a strict order of all vertices
  pub never_both : (a b : ℕ) → RanksBefore st a b → RanksBefore st b a → ⊥
  never_both a b p q = ⊎_elim
      (λ x. ⊎_elim (λ y. omega arith) (λ y. omega (arith, y.0)) q)
      (λ x. ⊎_elim (λ y. omega (arith, x.0)) (λ y. omega (arith, by_number a b x.1, by_number b a y.1)) q)
      p

  pub transitive : (a b c : ℕ) → RanksBefore st a b → RanksBefore st b c → RanksBefore st a c
  transitive a b c p q = ⊎_elim
      (λ x. ⊎_elim (λ y. inl (omega arith)) (λ y. inl (omega (arith, y.0))) q)
      (λ x. ⊎_elim
      (λ y. inl (omega (arith, x.0)))
      (λ y. inr (x.0 ∙ y.0, by_task a c (omega (arith, by_number a b x.1, by_number b c y.1))))
      q)
      p

  pub other_way : (a b : ℕ) → before st a b ≡ false → (a ≡ b → ⊥) → RanksBefore st b a
  unfolding before
  other_way a b h d = go (ltb (left_in st a) (left_in st b)) refl h (ℕ_discrete (left_in st a) (left_in st b))
    where
      go : (c : Bool) → ltb (left_in st a) (left_in st b) ≡ c → c || (eqb (left_in st a) (left_in st b) && ltb a b) ≡ false → Dec (left_in st a ≡ left_in st b)
          → RanksBefore st b a
      go true e h q = absurd (clash refl h)
      go false e h (no q) = let k = ltb-false (left_in st a) (left_in st b) e in inl (omega arith)
      go false e h (yes q) =
          let k : ltb a b ≡ false = off_when (ltb a b) (λ w. clash (and_true _ _ (eq-eqb (left_in st a) (left_in st b) q) w) h) in
          let n = ltb-false a b k in
          inr (sym q, by_task b a (omega arith))
