-- WHAT THE SHARP VERDICT'S NUMBERS SAY of a file: reading's numbers 1 to 8, 22, 23 and 0, each with its task and sharp margin; nothing else. 22 is
-- looked for over all tasks before any 23. True by the definition's three searches; the walk over margins is the old verdict's.
use mathlib.Core.Path.{◌≡◌, refl, sym, ap, subst, ◌∙◌}
use mathlib.Core.Logic.{◌⊎◌, inl, inr, ⊎_elim}
use mathlib.Core.Bool.{Bool, false}
use mathlib.Core.List.{List}
use Prim.Native.Nat.{ℕ, ◌≤◌, ◌<◌}
use native.Mathlib.Omega.{arith}
use lib.Dec.{ltb}
use lib.IntN.{pos}
use lib.Signed.{◌≤ℤ◌, ◌<ℤ◌}
use borrow.Author.Tests.{ltb-true, ltb-false}
use Rattle.graph.specs.Words.{row_from, row}
use Rattle.graph.proofs.Facts.{lowest_is, lowest_or_none}
use Rattle.table.specs.declared.Table.{Table}
use Rattle.table.specs.declared.Outcome.TheVariants.{Read}
use Rattle.table.specs.Memory.{D}
use Rattle.table.specs.Reading.{read}
use Rattle.table.specs.Good.{GoodTable}
use Rattle.table.proofs.Sound.{read_good}
use Rattle.verdict.specs.declared.Verdict.{Verdict}
use Rattle.verdict.specs.Verdicts.{len, in_places, unread}
use Rattle.verdict.proofs.Orders.{Lowest, search_low, lowest_or_is}
use Rattle.verdict.proofs.Walk.{negative, least, first_negative, some_least, first_smallest}
use Rattle.verdict.proofs.Says.{Unreadable, by_outcome}
use Rattle.sharp.specs.Sharp.{sharp_margin, sharp_naming, sharp_on, sharp_read, sharp}

-- no chain is longer than its deadline
abbrev pub Soon : Table → Type 0
Soon t = (k : ℕ) → k < t.n → len t k ≤ D t k

-- 22: the lowest task whose len exceeds its D, and its sharp margin, negative or not
pub record TooLong (t : Table) (v : Verdict) : Type 0 where
  pub place : v.place ≡ 0
  pub below : v.task < t.n
  pub its_margin : v.margin ≡ sharp_margin t v.task
  pub longer : D t v.task < len t v.task
  pub none_lower : (j : ℕ) → j < v.task → len t j ≤ D t j

-- 23: no len exceeds its D; the lowest task with a negative sharp margin, and that margin
pub record SharpRefuses (t : Table) (v : Verdict) : Type 0 where
  pub place : v.place ≡ 0
  pub below : v.task < t.n
  pub soon : Soon t
  pub its_margin : v.margin ≡ sharp_margin t v.task
  pub negative : v.margin <ℤ pos 0
  pub none_lower : (j : ℕ) → j < v.task → pos 0 ≤ℤ sharp_margin t j

-- 0: no len exceeds its D and no sharp margin is negative; the smallest sharp margin, and the lowest task that has it
pub record SharpAccepts (t : Table) (v : Verdict) : Type 0 where
  pub place : v.place ≡ 0
  pub below : v.task < t.n
  pub soon : Soon t
  pub its_margin : v.margin ≡ sharp_margin t v.task
  pub passes : (k : ℕ) → k < t.n → pos 0 ≤ℤ sharp_margin t k
  pub smallest : (i : ℕ) → i < t.n → v.margin ≤ℤ sharp_margin t i
  pub none_lower : (j : ℕ) → j < v.task → v.margin <ℤ sharp_margin t j

-- one of the three
abbrev pub TableSays : Table → Verdict → Type 0
TableSays t v = ((v.number ≡ 22) × TooLong t v) ⊎ (((v.number ≡ 23) × SharpRefuses t v) ⊎ ((v.number ≡ 0) × SharpAccepts t v))

-- "some len exceeds its D"
unfoldable pub late : Table → ℕ → Bool
late t k = ltb (D t k) (len t k)

in_time : (t : Table) (k : ℕ) → late t k ≡ false → len t k ≤ D t k
unfolding late
in_time t k e = ltb-false (D t k) (len t k) e

module _ (t : Table) (good : GoodTable t) where
  -- ---- 22
  pub some_late : (y : ℕ) → Lowest t.n (late t) y → sharp_on t ≡ sharp_naming 22 t y
  unfolding sharp_on late
  some_late y h = lowest_or_is t.n (late t) (sharp_naming 22 t) _ y h

  too_long : (y : ℕ) → Lowest t.n (late t) y → TooLong t (sharp_naming 22 t y)
  unfolding sharp_naming late
  too_long y h = record {
    place = refl;
    below = h.0;
    its_margin = refl;
    longer = ltb-true (D t y) (len t y) h.1;
    none_lower = λ j b. in_time t j (h.2 j b);
  }

  module _ (none : (k : ℕ) → k < t.n → late t k ≡ false) where
    soon : Soon t
    soon k b = in_time t k (none k b)

    -- ---- 23
    pub some_negative : (y : ℕ) → Lowest t.n (negative (sharp_margin t)) y → sharp_on t ≡ sharp_naming 23 t y
    unfolding sharp_on late negative
    some_negative y h =
        lowest_or_none t.n (late t) (sharp_naming 22 t) _ none
        ∙ lowest_or_is t.n (negative (sharp_margin t)) (sharp_naming 23 t) _ y h

    refuses : (y : ℕ) → Lowest t.n (negative (sharp_margin t)) y → SharpRefuses t (sharp_naming 23 t y)
    unfolding sharp_naming
    refuses y h =
        let r = first_negative (sharp_margin t) t.n y h in
        record { place = refl; below = r.below; soon = soon; its_margin = refl; negative = r.negative; none_lower = r.none_lower }

    -- ---- 0
    pub none_negative : ((k : ℕ) → k < t.n → negative (sharp_margin t) k ≡ false) → (y : ℕ) → Lowest t.n (least (sharp_margin t) t.n) y
        → sharp_on t ≡ sharp_naming 0 t y
    unfolding sharp_on late negative least
    none_negative h y l =
        lowest_or_none t.n (late t) (sharp_naming 22 t) _ none
        ∙ lowest_or_none t.n (negative (sharp_margin t)) (sharp_naming 23 t) _ h
        ∙ ap (sharp_naming 0 t) (lowest_is 255 t.n (least (sharp_margin t) t.n) y l.0 l.1 l.2)

    accepts : ((k : ℕ) → k < t.n → negative (sharp_margin t) k ≡ false) → (y : ℕ) → Lowest t.n (least (sharp_margin t) t.n) y
        → SharpAccepts t (sharp_naming 0 t y)
    unfolding sharp_naming
    accepts h y l =
        let r = first_smallest (sharp_margin t) t.n h y l in
        record { place = refl; below = r.below; soon = soon; its_margin = refl; passes = r.passes; smallest = r.smallest; none_lower = r.none_lower }

  -- a good table gets 22, 23 or 0, and is the answer that names its task
  pub sharp_says_all : TableSays t (sharp_on t) × (sharp_on t ≡ sharp_naming (sharp_on t).number t (sharp_on t).task)
  unfolding sharp_naming
  sharp_says_all = ⊎_elim
      (λ r. by 22 r.0 (some_late r.0 r.1) (inl (refl, too_long r.0 r.1)))
      (λ none. ⊎_elim
      (λ r. by 23 r.0 (some_negative none r.0 r.1) (inr (inl (refl, refuses none r.0 r.1))))
      (λ h. let s = some_least (sharp_margin t) t.n good.n_low in
      by 0 s.0 (none_negative none h s.0 s.1) (inr (inr (refl, accepts none h s.0 s.1))))
      (search_low t.n (negative (sharp_margin t))))
      (search_low t.n (late t))
    where
      by : (x y : ℕ) → sharp_on t ≡ sharp_naming x t y → TableSays t (sharp_naming x t y)
          → TableSays t (sharp_on t) × (sharp_on t ≡ sharp_naming (sharp_on t).number t (sharp_on t).task)
      by x y e r = subst (λ (v : Verdict). TableSays t v × (v ≡ sharp_naming v.number t v.task)) (sym e) (r, refl)

  pub sharp_table_says : TableSays t (sharp_on t)
  sharp_table_says = sharp_says_all.0

  pub sharp_names : sharp_on t ≡ sharp_naming (sharp_on t).number t (sharp_on t).task
  sharp_names = sharp_says_all.1

  pub sharp_named_below : (sharp_on t).task < t.n
  sharp_named_below = ⊎_elim (λ q. q.1.below) (⊎_elim (λ q. q.1.below) (λ q. q.1.below)) sharp_table_says

-- ---- every file
pub data SharpSays (s : List ℕ) (v : Verdict) : Type 0 where
  unreadable : Unreadable (read s).outcome v → SharpSays s v
  judged : (read s).outcome ≡ Read → TableSays (read s).table v → SharpSays s v

pub sharp_says : (s : List ℕ) → SharpSays s (sharp s)
unfolding sharp sharp_read unread in_places row row_from
sharp_says s = ⊎_elim
    (λ r. subst (SharpSays s) (sym r.1) (judged r.0 (sharp_table_says (read s).table (read_good s r.0))))
    (λ r. subst (SharpSays s) (sym r.2) (unreadable (record { low = r.0; high = r.1; its_number = refl; its_place = refl; no_task_past = refl; no_margin = refl; no_chain = refl; no_vertex = refl })))
    (by_outcome (read s).outcome (λ _. sharp_on (read s).table))

-- of a file that is read it is the sharp verdict on its table
pub sharp_got : (s : List ℕ) → (read s).outcome ≡ Read → sharp s ≡ sharp_on (read s).table
unfolding sharp sharp_read
sharp_got s e = rw e

-- what 22, 23 and 0 say
module _ (s : List ℕ) where
  pub says_22 : (sharp s).number ≡ 22 → ((read s).outcome ≡ Read) × TooLong (read s).table (sharp s)
  says_22 = go (sharp s) (sharp_says s)
    where
      go : (v : Verdict) → SharpSays s v → v.number ≡ 22 → ((read s).outcome ≡ Read) × TooLong (read s).table v
      go v (unreadable u) h = absurd (omega arith)
      go v (judged e r) h = ⊎_elim (λ q. (e, q.1)) (⊎_elim (λ q. absurd (omega (arith, q.0))) (λ q. absurd (omega (arith, q.0)))) r

  pub says_23 : (sharp s).number ≡ 23 → ((read s).outcome ≡ Read) × SharpRefuses (read s).table (sharp s)
  says_23 = go (sharp s) (sharp_says s)
    where
      go : (v : Verdict) → SharpSays s v → v.number ≡ 23 → ((read s).outcome ≡ Read) × SharpRefuses (read s).table v
      go v (unreadable u) h = absurd (omega arith)
      go v (judged e r) h = ⊎_elim (λ q. absurd (omega (arith, q.0))) (⊎_elim (λ q. (e, q.1)) (λ q. absurd (omega (arith, q.0)))) r

  pub says_0 : (sharp s).number ≡ 0 → ((read s).outcome ≡ Read) × SharpAccepts (read s).table (sharp s)
  says_0 = go (sharp s) (sharp_says s)
    where
      go : (v : Verdict) → SharpSays s v → v.number ≡ 0 → ((read s).outcome ≡ Read) × SharpAccepts (read s).table v
      go v (unreadable u) h = absurd (omega arith)
      go v (judged e r) h = ⊎_elim (λ q. absurd (omega (arith, q.0))) (⊎_elim (λ q. absurd (omega (arith, q.0))) (λ q. (e, q.1))) r
