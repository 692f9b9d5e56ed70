-- THE WALK over signed numbers z 0, z 1, .. below n, as a verdict makes it over margins: it stops at the first negative one; where none is
-- negative it has the smallest, and the first that has it. True by one step: a number is compared with 0 and with the smallest so far. `top`,
-- with which it starts, none is above.
use mathlib.Core.Path.{◌≡◌, refl, sym, ap, ◌∙◌}
use mathlib.Core.Logic.{◌⊎◌, inl, inr, ⊎_elim}
use mathlib.Core.Bool.{Bool, true, false}
use Prim.Native.Nat.{ℕ, suc, ◌+◌, ◌-◌, ◌≤◌, ◌<◌}
use native.Mathlib.Omega.{arith}
use native.Mathlib.Decide.{ℕ_discrete}
use lib.IntN.{ℤ, pos, negsuc}
use lib.Signed.{mag, lt_z, le_z, ◌≤ℤ◌, ◌<ℤ◌, clash_ℤ}
use borrow.Author.Tests.{le-leb, ne_eqb}
use Rattle.graph.specs.Words.{all}
use Rattle.graph.proofs.Facts.{clash, all_of, all_at, all_not, off_when, lowest_is, lowest_or_none}
use Rattle.verdict.specs.declared.Decided.{Decided}
use Rattle.verdict.specs.Judging.{judged_some, none_judged, judged_by}
use Rattle.verdict.proofs.Orders.{le_yes, lt_yes, not_lt, lt_le, le_refl, le_trans, le_antisym, smallest, Lowest, search_low, lowest_or_is}

-- of one number or more it is what the search over them comes to
pub judged_is : (n number : ℕ) (z : ℕ → ℤ) → 1 ≤ n → judged_by n number z ≡ judged_some n number z
unfolding judged_by
judged_is n number z some = rw (ne_eqb n 0 (λ e. omega (arith, e, some)))

-- ---- what is looked for: the first negative number
pub record FirstNegative (z : ℕ → ℤ) (n k : ℕ) : Type 0 where
  pub below : k < n
  pub negative : z k <ℤ pos 0
  pub none_lower : (j : ℕ) → j < k → pos 0 ≤ℤ z j

-- or, where none is negative, the first that is the smallest
pub record FirstSmallest (z : ℕ → ℤ) (n k : ℕ) : Type 0 where
  pub below : k < n
  pub passes : (i : ℕ) → i < n → pos 0 ≤ℤ z i
  pub smallest : (i : ℕ) → i < n → z k ≤ℤ z i
  pub none_lower : (j : ℕ) → j < k → z k <ℤ z j

-- ---- the tests by which a definition looks for them
unfoldable pub negative : (ℕ → ℤ) → ℕ → Bool
negative z k = lt_z (z k) (pos 0)

unfoldable pub least : (ℕ → ℤ) → ℕ → ℕ → Bool
least z n k = all n (λ i. le_z (z k) (z i))

module _ (z : ℕ → ℤ) (n : ℕ) where
  passing : (k : ℕ) → negative z k ≡ false → pos 0 ≤ℤ z k
  unfolding negative
  passing k h = le_yes (pos 0) (z k) (not_lt (z k) (pos 0) h)

  pub first_negative : (y : ℕ) → Lowest n (negative z) y → FirstNegative z n y
  unfolding negative
  first_negative y h = record { below = h.0; negative = lt_yes (z y) (pos 0) h.1; none_lower = λ j b. passing j (h.2 j b) }

  -- of one number or more, one is the smallest
  pub some_least : 1 ≤ n → (y : ℕ) × Lowest n (least z n) y
  unfolding least
  some_least l = ⊎_elim (λ r. r) (λ h. absurd (none h)) (search_low n (least z n))
    where
      none : ((j : ℕ) → j < n → least z n j ≡ false) → ⊥
      none h =
          let e : suc (n - 1) ≡ n = omega arith in
          let r = smallest (n - 1) z in
          clash (all_of n (λ i. le_z (z r.0) (z i)) (λ i b. r.2 i (omega arith))) (h r.0 (omega (arith, r.1)))

  pub first_smallest : ((k : ℕ) → k < n → negative z k ≡ false) → (y : ℕ) → Lowest n (least z n) y → FirstSmallest z n y
  unfolding least
  first_smallest h y l = record {
    below = l.0;
    passes = λ k b. passing k (h k b);
    smallest = λ i b. le_yes (z y) (z i) (within i b);
    none_lower = λ j b. lt_yes (z y) (z j) (lower j b);
  }
    where
      within : (i : ℕ) → i < n → le_z (z y) (z i) ≡ true
      within i b = all_at n (λ i. le_z (z y) (z i)) l.1 i b

      lower : (j : ℕ) → j < y → lt_z (z y) (z j) ≡ true
      lower j b = let r = all_not n (λ i. le_z (z j) (z i)) (l.2 j b) in go r.0 r.1 r.2 (lt_z (z y) (z j)) refl
        where
          go : (i : ℕ) → i < n → le_z (z j) (z i) ≡ false → (c : Bool) → lt_z (z y) (z j) ≡ c → c ≡ true
          go i b q true e = refl
          go i b q false e = absurd (clash (le_trans (z j) (z y) (z i) (not_lt (z y) (z j) e) (within i b)) q)

-- ---- after the first k numbers: none is negative; `best` is the smallest and `first` the first that has it, or there was no number yet
pub record SoFar (z : ℕ → ℤ) (top : ℤ) (k first : ℕ) (best : ℤ) : Type 0 where
  pub passes : (j : ℕ) → j < k → lt_z (z j) (pos 0) ≡ false
  pub smallest : (j : ℕ) → j < k → le_z best (z j) ≡ true
  pub which : ((k ≡ 0) × (first ≡ 0) × (best ≡ top)) ⊎ ((first < k) × (best ≡ z first) × ((j : ℕ) → j < first → lt_z best (z j) ≡ true))

pub none_yet : (z : ℕ → ℤ) (top : ℤ) → SoFar z top 0 0 top
none_yet z top = record { passes = λ j l. absurd (omega arith); smallest = λ j l. absurd (omega arith); which = inl (refl, refl, refl) }

lt_not_le : (a b : ℤ) → lt_z a b ≡ true → le_z b a ≡ true → ⊥
lt_not_le a b h k = clash_ℤ (lt_yes a b h) (le_yes b a k)

lt_le_trans : (a b c : ℤ) → lt_z a b ≡ true → le_z b c ≡ true → lt_z a c ≡ true
lt_le_trans a b c h k = go (lt_z a c) refl
  where
    go : (x : Bool) → lt_z a c ≡ x → x ≡ true
    go true e = refl
    go false e = absurd (lt_not_le a b h (le_trans b c a k (not_lt a c e)))

-- no number of 64 bits with a sign is above the one that the walk starts with
pub at_top : (y : ℤ) → mag y < 9223372036854775808 → le_z y (pos 9223372036854775807) ≡ true
at_top (pos n) h = le-leb n 9223372036854775807 (omega arith)
at_top (negsuc n) h = refl

module _ (z : ℕ → ℤ) (top : ℤ) (n k first : ℕ) (best : ℤ) (b : k < n) (s : SoFar z top k first best) (y : ℤ) (its : y ≡ z k) where
  -- one number more, y
  passed : lt_z y (pos 0) ≡ false → (j : ℕ) → j < k + 1 → lt_z (z j) (pos 0) ≡ false
  passed p j l = elim (ℕ_discrete j k) [
    | yes e ↦ rw e (sym (ap (λ (x : ℤ). lt_z x (pos 0)) its) ∙ p)
    | no e ↦ s.passes j (omega arith)
  ]

  -- no smaller than the smallest so far, or smaller; the first number of all may be as large as `top`
  pub kept : le_z y top ≡ true → lt_z y (pos 0) ≡ false → lt_z y best ≡ false → SoFar z top (k + 1) first best
  kept t p q = record {
    passes = passed p;
    smallest = λ j l. elim (ℕ_discrete j k) [ yes e ↦ rw (e, ← its) (not_lt y best q) | no e ↦ s.smallest j (omega arith) ];
    which = inr (⊎_elim
        (λ w.
        let same : k ≡ first = w.0 ∙ sym w.1 in (
          omega (arith, w.0, w.1),
          le_antisym best y (not_lt y best q) (ap (le_z y) w.2 ∙ t) ∙ its ∙ ap z same,
          λ j l. absurd (omega (arith, w.1)),
        ))
        (λ w. (omega (arith, w.0), w.1, w.2))
        s.which);
  }

  pub taken : lt_z y (pos 0) ≡ false → lt_z y best ≡ true → SoFar z top (k + 1) k y
  taken p q = record {
    passes = passed p;
    smallest = λ j l. elim (ℕ_discrete j k) [
      | yes e ↦ rw (e, ← its) (le_refl y)
      | no e ↦ le_trans y best (z j) (lt_le y best q) (s.smallest j (omega arith))
    ];
    which = inr (omega arith, its, λ j l. lt_le_trans y best (z j) q (s.smallest j l));
  }

  -- the end at the first negative number
  pub met_negative : (number : ℕ) → lt_z y (pos 0) ≡ true → (record { number = number; task = k; margin = y }) ≡ judged_by n number z
  unfolding judged_some negative
  met_negative number p =
      let named : ℕ → ℕ → Decided = λ x j. record { number = x; task = j; margin = z j } in
      ap (λ (x : ℤ). record { number = number; task = k; margin = x }) its
      ∙ sym (lowest_or_is n (negative z) (named number) _ k (b, sym (ap (λ (x : ℤ). lt_z x (pos 0)) its) ∙ p, s.passes))
      ∙ sym (judged_is n number z (omega arith))

-- the other end: none is negative, and `first` is the first of the smallest
pub all_walked : (z : ℕ → ℤ) (top : ℤ) (n : ℕ) → 1 ≤ n → (first : ℕ) (best : ℤ) → SoFar z top n first best
    → ((k : ℕ) → k < n → negative z k ≡ false) × (best ≡ z first) × Lowest n (least z n) first
unfolding negative least
all_walked z top n some first best s = ⊎_elim
    (λ w. absurd (omega (arith, w.0)))
    (λ w. (s.passes, w.1, (w.0, smallest w.1, λ j l. lower w.0 w.1 j (w.2 j l))))
    s.which
  where
    smallest : best ≡ z first → least z n first ≡ true
    smallest e = all_of n (λ i. le_z (z first) (z i)) (λ i l. sym (ap (λ (y : ℤ). le_z y (z i)) e) ∙ s.smallest i l)

    lower : first < n → best ≡ z first → (j : ℕ) → lt_z best (z j) ≡ true → least z n j ≡ false
    lower b e j l = off_when (least z n j) (λ h. lt_not_le best (z j) l (ap (le_z (z j)) e ∙ all_at n (λ i. le_z (z j) (z i)) h first b))

some_passed : (z : ℕ → ℤ) (top : ℤ) (n number : ℕ) → 1 ≤ n → (first : ℕ) (best : ℤ) → SoFar z top n first best
    → (record { number = 0; task = first; margin = best }) ≡ judged_some n number z
unfolding judged_some negative least
some_passed z top n number some first best s =
    let r = all_walked z top n some first best s in
    let named : ℕ → ℕ → Decided = λ x j. record { number = x; task = j; margin = z j } in
    ap (λ (x : ℤ). record { number = 0; task = first; margin = x }) r.1
    ∙ sym (lowest_or_none n (negative z) (named number) _ r.0 ∙ ap (named 0) (lowest_is 255 n (least z n) first r.2.0 r.2.1 r.2.2))

pub all_passed : (z : ℕ → ℤ) (n number first : ℕ) (best : ℤ) → SoFar z (pos 9223372036854775807) n first best
    → (record { number = 0; task = first; margin = best }) ≡ judged_by n number z
unfolding judged_by none_judged
all_passed z n number first best s = ⊎_elim
    (λ w. rw (w.0, w.1, w.2) refl)
    (λ w. let some : 1 ≤ n = omega (arith, w.0) in some_passed z _ n number some first best s ∙ sym (judged_is n number z some))
    s.which
