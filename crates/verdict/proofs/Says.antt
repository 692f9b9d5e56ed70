-- WHAT THE VERDICT'S NUMBERS SAY of a file: reading's numbers 1 to 8, 20 and 0, each with its task and margin; nothing else.
use mathlib.Core.Path.{◌≡◌, refl, sym, ap, subst, ◌∙◌}
use mathlib.Core.Logic.{◌⊎◌, inl, inr, ⊎_elim}
use mathlib.Core.Bool.{false}
use mathlib.Core.List.{List}
use Prim.Native.Nat.{ℕ, ◌≤◌, ◌<◌}
use native.Mathlib.Omega.{arith}
use lib.ListN.{replicate}
use lib.IntN.{pos}
use lib.Signed.{◌≤ℤ◌, ◌<ℤ◌}
use Rattle.graph.specs.Words.{row_from, row}
use Rattle.graph.proofs.Facts.{lowest_is, lowest_or_none}
use Rattle.table.specs.declared.Table.{Table}
use Rattle.table.specs.declared.Outcome.{Outcome}
use Rattle.table.specs.declared.Outcome.TheVariants.{Read, Short, Mark, Range, Ticks, Order, Edge, Cycle, Extra}
use Rattle.table.specs.Numbers.{number, place}
use Rattle.table.specs.Reading.{when_read, read}
use Rattle.table.specs.Good.{GoodTable}
use Rattle.table.proofs.Sound.{read_good}
use Rattle.verdict.specs.declared.Verdict.{Verdict}
use Rattle.verdict.specs.Verdicts.{margin, naming, verdict_on, in_places, unread, verdict_read, verdict}
use Rattle.verdict.proofs.Orders.{Lowest, search_low, lowest_or_is}
use Rattle.verdict.proofs.Walk.{negative, least, first_negative, some_least, first_smallest}

-- "a file that reading refuses gets that number and place, task 255 and margin 0"; it "has no chain"
pub record Unreadable (o : Outcome) (v : Verdict) : Type 0 where
  pub low : 1 ≤ v.number
  pub high : v.number ≤ 8
  pub its_number : v.number ≡ number o
  pub its_place : v.place ≡ place o
  pub no_task_past : v.task ≡ 255
  pub no_margin : v.margin ≡ pos 0
  pub no_chain : v.count ≡ 0
  pub no_vertex : v.chain ≡ replicate 16 255

-- 20: the lowest task with a negative margin, and its margin
pub record Refuses (t : Table) (v : Verdict) : Type 0 where
  pub place : v.place ≡ 0
  pub below : v.task < t.n
  pub its_margin : v.margin ≡ margin t v.task
  pub negative : v.margin <ℤ pos 0
  pub none_lower : (j : ℕ) → j < v.task → pos 0 ≤ℤ margin t j

-- 0: no margin is negative; the smallest margin, and the lowest task that has it
pub record Accepts (t : Table) (v : Verdict) : Type 0 where
  pub place : v.place ≡ 0
  pub below : v.task < t.n
  pub its_margin : v.margin ≡ margin t v.task
  pub passes : (k : ℕ) → k < t.n → pos 0 ≤ℤ margin t k
  pub smallest : (i : ℕ) → i < t.n → v.margin ≤ℤ margin t i
  pub none_lower : (j : ℕ) → j < v.task → v.margin <ℤ margin t j

module _ (t : Table) (good : GoodTable t) where
  -- ---- 20
  pub some_negative : (y : ℕ) → Lowest t.n (negative (margin t)) y → verdict_on t ≡ naming 20 t y
  unfolding verdict_on negative
  some_negative y h = lowest_or_is t.n (negative (margin t)) (naming 20 t) _ y h

  refuses : (y : ℕ) → Lowest t.n (negative (margin t)) y → Refuses t (naming 20 t y)
  unfolding naming
  refuses y h =
      let r = first_negative (margin t) t.n y h in
      record { place = refl; below = r.below; its_margin = refl; negative = r.negative; none_lower = r.none_lower }

  -- ---- 0
  some_smallest : (y : ℕ) × Lowest t.n (least (margin t) t.n) y
  some_smallest = some_least (margin t) t.n good.n_low

  pub none_negative : ((k : ℕ) → k < t.n → negative (margin t) k ≡ false) → (y : ℕ) → Lowest t.n (least (margin t) t.n) y
      → verdict_on t ≡ naming 0 t y
  unfolding verdict_on negative least
  none_negative h y l =
      lowest_or_none t.n (negative (margin t)) (naming 20 t) _ h
      ∙ ap (naming 0 t) (lowest_is 255 t.n (least (margin t) t.n) y l.0 l.1 l.2)

  accepts : ((k : ℕ) → k < t.n → negative (margin t) k ≡ false) → (y : ℕ) → Lowest t.n (least (margin t) t.n) y → Accepts t (naming 0 t y)
  unfolding naming
  accepts h y l =
      let r = first_smallest (margin t) t.n h y l in
      record { place = refl; below = r.below; its_margin = refl; passes = r.passes; smallest = r.smallest; none_lower = r.none_lower }

  -- a good table gets 20 or 0
  pub table_says : (((verdict_on t).number ≡ 20) × Refuses t (verdict_on t)) ⊎ (((verdict_on t).number ≡ 0) × Accepts t (verdict_on t))
  unfolding naming
  table_says = ⊎_elim
      (λ r. let e = some_negative r.0 r.1 in
      inl (ap (λ (v : Verdict). v.number) e, subst (λ (v : Verdict). Refuses t v) (sym e) (refuses r.0 r.1)))
      (λ h. let e = none_negative h some_smallest.0 some_smallest.1 in
      inr (ap (λ (v : Verdict). v.number) e, subst (λ (v : Verdict). Accepts t v) (sym e) (accepts h some_smallest.0 some_smallest.1)))
      (search_low t.n (negative (margin t)))

  -- it names a task of the table, and is the answer that names it
  pub named_below : (verdict_on t).task < t.n
  named_below = ⊎_elim (λ q. q.1.below) (λ q. q.1.below) table_says

  pub names : verdict_on t ≡ naming (verdict_on t).number t (verdict_on t).task
  unfolding naming
  names = ⊎_elim
      (λ r. by 20 r.0 (some_negative r.0 r.1))
      (λ h. by 0 some_smallest.0 (none_negative h some_smallest.0 some_smallest.1))
      (search_low t.n (negative (margin t)))
    where
      by : (x y : ℕ) → verdict_on t ≡ naming x t y → verdict_on t ≡ naming (verdict_on t).number t (verdict_on t).task
      by x y e = subst (λ (v : Verdict). v ≡ naming v.number t v.task) (sym e) refl

-- ---- every file
pub data Says (s : List ℕ) (v : Verdict) : Type 0 where
  unreadable : Unreadable (read s).outcome v → Says s v
  refused : (read s).outcome ≡ Read → v.number ≡ 20 → Refuses (read s).table v → Says s v
  accepted : (read s).outcome ≡ Read → v.number ≡ 0 → Accepts (read s).table v → Says s v

-- what reading gave: a table, or a number from 1 to 8
pub by_outcome : (o : Outcome) (go : Unit {0} → Verdict)
    → ((o ≡ Read) × (when_read o unread go ≡ go tt)) ⊎ ((1 ≤ number o) × (number o ≤ 8) × (when_read o unread go ≡ unread o))
unfolding number
by_outcome Read go = inl (refl, refl)
by_outcome (Short p) go = inr (omega arith, omega arith, refl)
by_outcome (Mark p) go = inr (omega arith, omega arith, refl)
by_outcome (Range p) go = inr (omega arith, omega arith, refl)
by_outcome (Ticks p) go = inr (omega arith, omega arith, refl)
by_outcome (Order p) go = inr (omega arith, omega arith, refl)
by_outcome (Edge p) go = inr (omega arith, omega arith, refl)
by_outcome (Cycle p) go = inr (omega arith, omega arith, refl)
by_outcome (Extra p) go = inr (omega arith, omega arith, refl)

pub verdict_says : (s : List ℕ) → Says s (verdict s)
unfolding verdict verdict_read unread in_places row row_from
verdict_says s = ⊎_elim
    (λ r. subst (Says s) (sym r.1) (judged r.0 (table_says (read s).table (read_good s r.0))))
    (λ r. subst (Says s) (sym r.2) (unreadable (record { low = r.0; high = r.1; its_number = refl; its_place = refl; no_task_past = refl; no_margin = refl; no_chain = refl; no_vertex = refl })))
    (by_outcome (read s).outcome (λ _. verdict_on (read s).table))
  where
    judged : (read s).outcome ≡ Read
        → (((verdict_on (read s).table).number ≡ 20) × Refuses (read s).table (verdict_on (read s).table))
        ⊎ (((verdict_on (read s).table).number ≡ 0) × Accepts (read s).table (verdict_on (read s).table))
        → Says s (verdict_on (read s).table)
    judged e = ⊎_elim (λ q. refused e q.0 q.1) (λ q. accepted e q.0 q.1)

-- what 20 says, and what 0 says
pub says_20 : (s : List ℕ) → (verdict s).number ≡ 20 → ((read s).outcome ≡ Read) × Refuses (read s).table (verdict s)
says_20 s h = go (verdict s) (verdict_says s) h
  where
    go : (v : Verdict) → Says s v → v.number ≡ 20 → ((read s).outcome ≡ Read) × Refuses (read s).table v
    go v (unreadable u) h = absurd (omega arith)
    go v (refused e n r) h = (e, r)
    go v (accepted e n r) h = absurd (omega arith)

pub says_0 : (s : List ℕ) → (verdict s).number ≡ 0 → ((read s).outcome ≡ Read) × Accepts (read s).table (verdict s)
says_0 s h = go (verdict s) (verdict_says s) h
  where
    go : (v : Verdict) → Says s v → v.number ≡ 0 → ((read s).outcome ≡ Read) × Accepts (read s).table v
    go v (unreadable u) h = absurd (omega arith)
    go v (refused e n r) h = absurd (omega arith)
    go v (accepted e n r) h = (e, r)
