-- The own choice is the first m of the one ranking of the available vertices: by ticks left, task, age place, vertex. Inserting keeps rank order, and two
-- lists in rank order with the same members are the same.
use Rattle.std.proofs.Common.{◌≡◌, ℕ, ◌<◌, Bool, true, false, List, [], ◌∷◌, take, sym, refl, ap, ◌∙◌, subst, arith}
use native.Mathlib.Decide.{ℕ_discrete}
use Rattle.graph.specs.Words.{pick, is_in, Distinct}
use Rattle.graph.proofs.Facts.{clash, off_when, first_in, other_in, tail_in, below_pass, below_all}
use Rattle.table.specs.declared.Table.{Table}
use Rattle.machine.specs.declared.State.{State}
use Rattle.machine.specs.Steps.{available, availables, left_in, before, insert, ranked, own_choice, Legal}
use Rattle.machine.proofs.Rank.{RanksBefore, before_is, never_both, transitive, other_way}
use Rattle.machine.proofs.Own.{no_in, each_once, insert_in, ranked_in, own_legal}

-- each ranks before all that stand after it
unfoldable pub InRankOrder : State → List ℕ → Type 0
InRankOrder st [] = Unit {0}
InRankOrder st (a ∷ l) = ((x : ℕ) → is_in x l ≡ true → RanksBefore st a x) × InRankOrder st l

-- A RANKING of the available vertices: they are all in it, nothing else is, and it is in rank order
pub record Ranking (t : Table) (st : State) (l : List ℕ) : Type 0 where
  pub only : (k : ℕ) → is_in k l ≡ true → (k < 1024) × (available t st k ≡ true)
  pub all : (k : ℕ) → k < 1024 → available t st k ≡ true → is_in k l ≡ true
  pub ascends : InRankOrder st l

module _ (st : State) where
  -- ---- inserting keeps rank order
  insert_order : (a : ℕ) (l : List ℕ) → is_in a l ≡ false → InRankOrder st l → InRankOrder st (insert st a l)
  unfolding insert InRankOrder
  insert_order a [] n r = ((λ x h. absurd (no_in x h)), tt)
  insert_order a (b ∷ l) n r = go (before st a b) refl (insert_order a l (off_when _ (λ e. clash (tail_in a b l e) n)) r.1)
    where
      differ : a ≡ b → ⊥
      differ e = clash (ap (λ (z : ℕ). is_in z (b ∷ l)) e ∙ first_in b l) n

      after_a : before st a b ≡ true → (x : ℕ) → is_in x (b ∷ l) ≡ true → RanksBefore st a x
      after_a e x h = elim (ℕ_discrete x b) [
        | yes q ↦ rw q (before_is st a b e)
        | no q ↦ transitive st a b x (before_is st a b e) (r.0 x (sym (other_in x b l q) ∙ h))
      ]

      after_b : before st a b ≡ false → (x : ℕ) → is_in x (insert st a l) ≡ true → RanksBefore st b x
      after_b e x h = elim (ℕ_discrete x a) [
        | yes q ↦ rw q (other_way st a b e differ)
        | no q ↦ r.0 x (sym (other_in x a l q) ∙ sym (insert_in st x a l) ∙ h)
      ]

      go : (c : Bool) → before st a b ≡ c → InRankOrder st (insert st a l) → InRankOrder st (pick c (a ∷ b ∷ l) (b ∷ insert st a l))
      go true e h = (after_a e, r)
      go false e h = (after_b e, h)

  ranked_order : (l : List ℕ) → Distinct l → InRankOrder st (ranked st l)
  unfolding ranked InRankOrder Distinct
  ranked_order [] d = tt
  ranked_order (a ∷ l) d = insert_order a (ranked st l) (ranked_in st a l ∙ d.0) (ranked_order l d.1)

  -- ---- two lists in rank order with the same members are the same
  abbrev Within : List ℕ → List ℕ → Type 0
  Within l m = (x : ℕ) → is_in x l ≡ true → is_in x m ≡ true

  same_list : (l m : List ℕ) → InRankOrder st l → InRankOrder st m → Within l m → Within m l → l ≡ m
  unfolding InRankOrder
  same_list [] [] p q f g = refl
  same_list [] (b ∷ m) p q f g = absurd (no_in b (g b (first_in b m)))
  same_list (a ∷ l) [] p q f g = absurd (no_in a (f a (first_in a l)))
  same_list (a ∷ l) (b ∷ m) p q f g = both (same_list l m p.1 q.1 (rest a l b m heads p f) (rest b m a l (sym heads) q g))
    where
      heads : a ≡ b
      heads = elim (ℕ_discrete a b) [
        | yes e ↦ e
        | no d ↦ absurd (never_both st a b
            (p.0 b (sym (other_in b a l (λ e. d (sym e))) ∙ g b (first_in b m)))
            (q.0 a (sym (other_in a b m d) ∙ f a (first_in a l))))
      ]

      rest : (c : ℕ) (u : List ℕ) (d : ℕ) (v : List ℕ) → c ≡ d → ((x : ℕ) → is_in x u ≡ true → RanksBefore st c x) × InRankOrder st u → Within (c ∷ u) (d ∷ v) → Within u v
      rest c u d v e r w x h =
          let other : x ≡ d → ⊥ = λ z. let k : RanksBefore st c c = subst (λ (y : ℕ). RanksBefore st c y) (z ∙ sym e) (r.0 x h) in never_both st c c k k in
          sym (other_in x d v other) ∙ w x (tail_in x c u h)

      both : l ≡ m → a ∷ l ≡ b ∷ m
      both e = rw (heads, e) refl

module _ (t : Table) (st : State) where
  -- THE RANKING THAT IS COMPUTED is one
  pub the_ranking : Ranking t st (ranked st (availables t st))
  unfolding availables
  the_ranking = record {
    only = λ k h. below_pass 1024 (available t st) k (sym (ranked_in st k (availables t st)) ∙ h);
    all = λ k b h. ranked_in st k (availables t st) ∙ below_all 1024 (available t st) k b h;
    ascends = ranked_order st (availables t st) (each_once t st);
  }

  -- THERE IS NO OTHER
  pub one_ranking : (l m : List ℕ) → Ranking t st l → Ranking t st m → l ≡ m
  one_ranking l m p q = same_list st l m p.ascends q.ascends
      (λ x h. let k = p.only x h in q.all x k.0 k.1)
      (λ x h. let k = q.only x h in p.all x k.0 k.1)

  -- THE OWN CHOICE is its first m, or all if fewer
  pub own_choice_lem : (l : List ℕ) → Ranking t st l → own_choice t st ≡ take t.m l
  unfolding own_choice
  own_choice_lem l r = ap (take t.m) (one_ranking (ranked st (availables t st)) l the_ranking r)

  -- ANY LEGAL CHOICE differs from it only among equal ticks left
  pub legal_ties : (chosen : List ℕ) → Legal t st chosen → (a b : ℕ) → is_in a (own_choice t st) ≡ true → is_in a chosen ≡ false
      → is_in b chosen ≡ true → is_in b (own_choice t st) ≡ false → left_in st a ≡ left_in st b
  legal_ties chosen l a b h₁ h₂ h₃ h₄ =
      let own = own_legal t st in
      let p = l.first a b (own.only a h₁) h₂ h₃ in
      let q = own.first b a (l.only b h₃) h₄ h₁ in
      omega arith
