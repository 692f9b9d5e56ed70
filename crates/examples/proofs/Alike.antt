-- A STATED RUN IS THE EARLY RUN OF ITS PLAN, for a file that the verdict accepts, as long as choices are legal: demand 3 says that each tick is answered 0,
-- so each of its tests passes, also that the state fits. What is left are its steps, and with the costs as times they are those of a run where steps end
-- early. So of the stated run too it is enough to compute the steps.
use mathlib.Core.Path.{◌≡◌, refl, sym, ap, subst, ◌∙◌}
use mathlib.Core.List.{List}
use Prim.Native.Nat.{ℕ, zero, suc, ◌^◌, ◌≤◌, ◌<◌}
use native.Mathlib.Omega.{arith}
use native.Mathlib.Decide.{ℕ_discrete}
use Rattle.table.specs.declared.Table.{Table}
use Rattle.table.specs.declared.Outcome.TheVariants.{Read}
use Rattle.table.specs.Reading.{read}
use Rattle.machine.specs.declared.State.{State}
use Rattle.machine.specs.declared.Ticked.{Ticked}
use Rattle.machine.specs.Steps.{released, worked, Legal}
use Rattle.machine.specs.Ticking.{refuse, advance_to, advance, tick_on}
use Rattle.machine.proofs.Refusing.{on_table}
use Rattle.machine.proofs.Cases.{Case, unfit, halted, no_task_past, early, misses, goes_on_lem, cases, admitted_advances}
use Rattle.promise.specs.Runs.{table_of, Plan, Sporadic, taking, stated, tick_at, state_at, mid_at, answer_at, LegalBefore}
use Rattle.promise.specs.Runs as R
use Rattle.promise.specs.Demand3.{OldAccepts}
use Rattle.promise.proofs.Costs.{taking_own}
use Rattle.promise.proofs.Holds.{demand3_old}

-- a tick that is answered 0 is its steps
module _ (choose : Table → State → List ℕ) (t : Table) (st : State) (named : ℕ) where
  abbrev steps : Ticked
  steps = advance t st named (choose t (released t st named))

  refused : (x : Ticked) (number task : ℕ) → 1 ≤ number → x ≡ refuse st number 0 task → x.answer.reply.number ≡ 0 → ⊥
  unfolding refuse
  refused x number task b q h = let z : number ≡ 0 = sym (ap (λ (x : Ticked). x.answer.reply.number) q) ∙ h in omega arith

  pub taken : (tick_on choose t st named).answer.reply.number ≡ 0 → tick_on choose t st named ≡ steps
  taken h = go (tick_on choose t st named) (cases choose t st named) h
    where
      go : (x : Ticked) → Case choose t st named x → x.answer.reply.number ≡ 0 → tick_on choose t st named ≡ steps
      go x (unfit e q) z = absurd (refused x 30 255 (omega arith) q z)
      go x (halted e k p q) z = absurd (refused x 32 255 (omega arith) q z)
      go x (no_task_past e p i l q) z = absurd (refused x 31 i (omega arith) q z)
      go x (early e p n i l q) z = absurd (refused x 33 i (omega arith) q z)
      go x (misses a i l q) z = admitted_advances choose t st named a
      go x (goes_on_lem a n q) z = admitted_advances choose t st named a

module _ (file : List ℕ) (well : (read file).outcome ≡ Read) (accepted : OldAccepts file) (clock : ℕ) (small : clock < 2 ^ 32) (plan : Plan)
    (sporadic : (N : ℕ) → Sporadic (table_of file) plan.rel N) (costs : (x : ℕ) → plan.times x ≡ (table_of file).costs)
    (N : ℕ) (legal : LegalBefore R.early file clock plan N) where
  abbrev Same : ℕ → Type 0
  Same x = state_at stated file clock plan x ≡ state_at R.early file clock plan x

  same_mid : (x : ℕ) → Same x → mid_at stated file clock plan x ≡ mid_at R.early file clock plan x
  unfolding mid_at
  same_mid x e = ap (λ (st : State). released (taking (table_of file) (plan.times x)) st (plan.rel x)) e

  stated_legal : (x : ℕ) → x ≤ N → ((y : ℕ) → y < x → Same y) → LegalBefore stated file clock plan x
  stated_legal x b same y l =
      subst (λ (mid : State). Legal (table_of file) mid (plan.choice y)) (sym (same_mid y (same y l))) (legal y (omega arith))

  answered_0 : (x : ℕ) → x < N → ((y : ℕ) → y ≤ x → Same y) → (answer_at stated file clock plan x).reply.number ≡ 0
  answered_0 x b same =
      (demand3_old file accepted clock small plan (suc x) (sporadic (suc (suc x))) (λ y l. costs y)
      (stated_legal (suc x) (omega arith) (λ y l. same y (omega arith)))).answered x (omega arith)

  -- on one state
  same_tick : (x : ℕ) (st : State) → (tick_at stated file clock plan x st).answer.reply.number ≡ 0
      → tick_at stated file clock plan x st ≡ tick_at R.early file clock plan x st
  unfolding tick_at table_of advance
  same_tick x st h =
      let on = on_table (λ t s. plan.choice x) file st (plan.rel x) well in
      on
      ∙ taken (λ t s. plan.choice x) (table_of file) st (plan.rel x) (sym (ap (λ (z : Ticked). z.answer.reply.number) on) ∙ h)
      ∙ ap (λ (d : Table). advance_to (plan.choice x) (worked (table_of file) (released d st (plan.rel x)) (plan.rel x) (plan.choice x)))
      (sym (ap (taking (table_of file)) (costs x) ∙ taking_own (table_of file)))

  same_next : (x : ℕ) → x < N → ((y : ℕ) → y ≤ x → Same y) → Same (suc x)
  unfolding state_at answer_at
  same_next x b same =
      ap (λ (z : Ticked). z.state) (same_tick x (state_at stated file clock plan x) (answered_0 x b same))
      ∙ ap (λ (st : State). (tick_at R.early file clock plan x st).state) (same x (omega arith))

  same_before : (x : ℕ) → x ≤ N → (y : ℕ) → y ≤ x → Same y
  unfolding state_at
  same_before zero b y l = subst Same (let e : 0 ≡ y = omega arith in e) refl
  same_before (suc x) b y l = elim (ℕ_discrete y (suc x)) [
    | yes e ↦ subst Same (sym e) (same_next x (omega arith) (same_before x (omega arith)))
    | no e ↦ same_before x (omega arith) y (omega arith)
  ]

  -- as far as tick N the states are the same, before a tick and within it; and so all its choices before are legal
  pub alike : (x : ℕ) → x ≤ N → mid_at stated file clock plan x ≡ mid_at R.early file clock plan x
  alike x b = same_mid x (same_before x b x (omega arith))

  pub alike_legal : LegalBefore stated file clock plan N
  alike_legal = stated_legal N (omega arith) (λ y l. same_before N (omega arith) y (omega arith))
