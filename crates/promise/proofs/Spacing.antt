-- SPACING IN TRUE TIME, proved: a wait is T minus 1 after a release and falls by one each tick, which takes no release tick and no clock.
use mathlib.Core.Path.{◌≡◌, refl, sym, ap, subst, ◌∙◌}
use mathlib.Core.Logic.{⊎_elim}
use mathlib.Core.Bool.{Bool, true, false}
use mathlib.Core.List.{List}
use Prim.Native.Nat.{ℕ, zero, suc, ◌-◌, ◌≤◌, ◌<◌}
use native.Mathlib.Omega.{arith}
use native.Mathlib.Decide.{ℕ_discrete, dec_lt}
use lib.Dec.{ltb}
use borrow.Author.Tests.{lt-ltb, le-leb, ltb-true}
use Rattle.graph.specs.Words.{pick, bit}
use Rattle.graph.proofs.Facts.{clash, both_true, and_true}
use Rattle.table.specs.declared.Table.{Table}
use Rattle.table.specs.declared.Outcome.TheVariants.{Read}
use Rattle.table.specs.Memory.{T}
use Rattle.table.specs.Reading.{read}
use Rattle.table.proofs.Sound.{read_good}
use Rattle.machine.specs.declared.Phase.TheVariants.{Running}
use Rattle.machine.specs.declared.State.{State}
use Rattle.machine.specs.declared.Ticked.{Ticked}
use Rattle.machine.specs.States.{wait}
use Rattle.machine.specs.Ticking.{ticked, refuse, tick_on}
use Rattle.machine.proofs.Index.{zeros_wait}
use Rattle.machine.proofs.Lowest.{Lowest}
use Rattle.machine.proofs.Cases.{beyond, too_soon, Admitted, Case, unfit, halted, no_task_past, early, misses, goes_on_lem, cases}
use Rattle.machine.proofs.Moved.{tick_moves}
use Rattle.promise.proofs.Moves.{opens, ticks}
use Rattle.promise.specs.Runs.{table_of, Plan, stated, tick_at, state_at, answer_at}
use Rattle.promise.specs.Spacing.{AnsweredBefore, TrueWait, TrueWaits, ReleasedWithin, Spaces, TrueSpacing}

-- ---- a tick more
goes_on_true : (t : Table) (rel : ℕ → ℕ) (x i w : ℕ) → TrueWait t rel x i w → TrueWait t rel (suc x) i (pick (bit (rel x) i) (T t i - 1) (w - 1))
goes_on_true t rel x i w p = go (bit (rel x) i) refl
  where
    go : (b : Bool) → bit (rel x) i ≡ b → TrueWait t rel (suc x) i (pick b (T t i - 1) (w - 1))
    go true e = record {
      long_enough = λ a l r. omega arith;
      no_longer = λ h. (x, omega arith, e, omega arith);
    }
    go false e = record {
      long_enough = λ a l r. elim (ℕ_discrete a x) [
        | yes q ↦ absurd (clash r (ap (λ (z : ℕ). bit (rel z) i) q ∙ e))
        | no q ↦ let k = p.long_enough a (omega arith) r in omega arith
      ];
      no_longer = λ h. let q = p.no_longer (omega arith) in (q.0, omega (arith, q.1), q.2, omega (arith, q.3));
    }

module _ (file : List ℕ) (well : (read file).outcome ≡ Read) (c : ℕ) (plan : Plan) where
  abbrev before : ℕ → State
  before x = state_at stated file c plan x

  next_wait : (x : ℕ) → (answer_at stated file c plan x).reply.number ≡ 0 → (i : ℕ) → i < 16
      → wait (before (suc x)) i ≡ pick (bit (plan.rel x) i) (T (table_of file) i - 1) (wait (before x) i - 1)
  unfolding state_at tick_at answer_at
  next_wait x e i b =
      let q = ticks file well (λ t s. plan.choice x) (before x) (plan.rel x) in
      ap (λ (z : Ticked). wait z.state i) q
      ∙ (tick_moves (λ t s. plan.choice x) (table_of file) (before x) (plan.rel x) (sym (ap (λ (z : Ticked). z.answer.reply.number) q) ∙ e)).waits i b

  first_wait : (i : ℕ) → wait (before 0) i ≡ 0
  unfolding state_at
  first_wait i = ap (λ (s : State). wait s i) (opens file well c) ∙ zeros_wait c Running i

  all_true : (x : ℕ) → AnsweredBefore file c plan x → (i : ℕ) → i < 16 → TrueWait (table_of file) plan.rel x i (wait (before x) i)
  all_true zero h i b = subst (TrueWait (table_of file) plan.rel 0 i) (sym (first_wait i)) (record {
    long_enough = λ a l r. absurd (omega arith);
    no_longer = λ k. absurd (omega arith);
  })
  all_true (suc x) h i b =
      subst (TrueWait (table_of file) plan.rel (suc x) i) (sym (next_wait x (h x (omega arith)) i b))
      (goes_on_true (table_of file) plan.rel x i (wait (before x) i) (all_true x (λ y l. h y (omega arith)) i b))

pub true_waits : TrueWaits
true_waits file well c plan x h = all_true file well c plan x h

-- ---- a next tick
module _ (t : Table) (rel : ℕ → ℕ) (x : ℕ) (st : State) (waits : (i : ℕ) → i < 16 → TrueWait t rel x i (wait st i)) (small : t.n ≤ 16)
    (choose : Table → State → List ℕ) (named : ℕ) where
  -- 30, 31 and 32
  other : (n k : ℕ) → 30 ≤ n → n < 33 → Spaces t rel x named (refuse st n 0 k)
  unfolding refuse
  other n k low high = record {
    refused = λ e. absurd (omega arith);
    taken = λ e. absurd (⊎_elim (λ z. omega arith) (λ z. omega arith) e);
  }

  soon : (i : ℕ) → Lowest t.n (too_soon st named) i → Spaces t rel x named (refuse st 33 0 i)
  unfolding refuse too_soon
  soon i l = record {
    refused = λ _.
        let p = both_true (bit named i) (ltb 0 (wait st i)) l.passes in
        let b = l.below in
        let some : 1 ≤ wait st i = let z = ltb-true 0 (wait st i) p.1 in omega arith in
        let r = (waits i (omega arith)).no_longer some in
        (p.0, (r.0, r.1, r.2, omega (arith, r.3)));
    taken = λ e. absurd (⊎_elim (λ z. omega arith) (λ z. omega arith) e);
  }

  -- it goes on only where each named task's wait is 0
  free : Admitted choose t st named → (i : ℕ) → i < 16 → bit named i ≡ true → ReleasedWithin t rel x i → ⊥
  unfolding beyond too_soon
  free a i b e r = elim (dec_lt i t.n) [
    | no l ↦ clash (and_true _ _ e (le-leb t.n i (omega arith))) (a.tasks i b)
    | yes l ↦ elim (dec_lt 0 (wait st i)) [
      | yes w ↦ clash (and_true _ _ e (lt-ltb 0 (wait st i) w)) (a.free i l)
      | no w ↦ let k = (waits i b).long_enough r.0 r.1 r.2 in let late = r.3 in omega arith
    ]
  ]

  went : (n k : ℕ) (chosen : List ℕ) (done : ℕ) (next : State) → (n ≡ 33 → ⊥) → Admitted choose t st named → Spaces t rel x named (ticked n k chosen done next)
  unfolding ticked
  went n k chosen done next other a = record { refused = λ e. absurd (other e); taken = λ e. free a }

  spaces : Spaces t rel x named (tick_on choose t st named)
  spaces = go (tick_on choose t st named) (cases choose t st named)
    where
      go : (z : Ticked) → Case choose t st named z → Spaces t rel x named z
      go z (unfit e q) = subst (Spaces t rel x named) (sym q) (other 30 255 (omega arith) (omega arith))
      go z (halted e k p q) = subst (Spaces t rel x named) (sym q) (other 32 255 (omega arith) (omega arith))
      go z (no_task_past e p i l q) = subst (Spaces t rel x named) (sym q) (other 31 i (omega arith) (omega arith))
      go z (early e p n i l q) = subst (Spaces t rel x named) (sym q) (soon i l)
      go z (misses a i l q) = subst (Spaces t rel x named) (sym q) (went 34 i _ _ _ (λ e. omega arith) a)
      go z (goes_on_lem a n q) = subst (Spaces t rel x named) (sym q) (went 0 255 _ _ _ (λ e. omega arith) a)

pub true_spacing : TrueSpacing
unfolding table_of
true_spacing file well c plan x h choose named =
    subst (Spaces (table_of file) plan.rel x named) (sym (ticks file well choose (state_at stated file c plan x) named))
    (spaces (table_of file) plan.rel x (state_at stated file c plan x) (true_waits file well c plan x h) (read_good file well).n_high choose named)
