-- The tick case by case, for every table, every state, every release set and every way to choose: its refusals in their order, then
-- steps 4 to 6. Each of its tests passes or fails, and that decides the case.
use Rattle.std.proofs.Common.{◌≡◌, ℕ, Bool, true, false, not, ◌&&◌, ltb, leb, List, refl, ◌∙◌, ⊎_elim, arith}
use Rattle.graph.specs.Words.{pick, bit, lowest_or}
use Rattle.table.specs.declared.Table.{Table}
use Rattle.machine.specs.declared.Phase.{Phase}
use Rattle.machine.specs.declared.Phase.TheVariants.{Running, Stopped}
use Rattle.machine.specs.declared.State.{State}
use Rattle.machine.specs.declared.Ticked.{Ticked}
use Rattle.machine.specs.States.{wait, zeros}
use Rattle.machine.specs.Steps.{released, worked, ended, finished, missed}
use Rattle.machine.specs.Fitting.{fits}
use Rattle.machine.specs.Ticking.{ticked, judged, advance_to, advance, refuse, when_running, tick_on}
use Rattle.graph.proofs.Facts.{lowest_or_none}
use Rattle.machine.proofs.Lowest.{Lowest, None, lowest_or_is, lowest_cases}

pub running_stopped : (p : Phase) (k : ℕ) → p ≡ Running → p ≡ Stopped k → ⊥
running_stopped p k e q = let z : ◌≡◌ {A = ℕ} 0 1 = cc in omega arith

-- "a release bit at or above n"
unfoldable pub beyond : Table → ℕ → ℕ → Bool
beyond t named i = bit named i && leb t.n i

-- "a named task with a wait above 0"
unfoldable pub too_soon : State → ℕ → ℕ → Bool
too_soon st named i = bit named i && ltb 0 (wait st i)

module _ (choose : Table → State → List ℕ) (t : Table) (st : State) (named : ℕ) where
  -- what runs; the states after steps 4 and 5
  abbrev pub chosen_in : List ℕ
  chosen_in = choose t (released t st named)

  abbrev pub after_work : State
  after_work = worked t (released t st named) named chosen_in

  abbrev pub after_ends : State
  after_ends = ended after_work

  -- the state fits and runs, and the release set is as it may be
  pub record Admitted : Type 0 where
    pub fitting : fits t st ≡ true
    pub running : st.phase ≡ Running
    pub tasks : None 16 (beyond t named)
    pub free : None t.n (too_soon st named)

  pub data Case (x : Ticked) : Type 0 where
    unfit : fits t st ≡ false → x ≡ refuse st 30 0 255 → Case x
    halted : fits t st ≡ true → (k : ℕ) → st.phase ≡ Stopped k → x ≡ refuse st 32 0 255 → Case x
    no_task_past : fits t st ≡ true → st.phase ≡ Running → (i : ℕ) → Lowest 16 (beyond t named) i → x ≡ refuse st 31 0 i → Case x
    early : fits t st ≡ true → st.phase ≡ Running → None 16 (beyond t named) → (i : ℕ) → Lowest t.n (too_soon st named) i → x ≡ refuse st 33 0 i → Case x
    misses : Admitted → (i : ℕ) → Lowest 16 (missed after_ends) i → x ≡ ticked 34 i chosen_in (finished after_work) (zeros after_ends.clock (Stopped i)) → Case x
    goes_on_lem : Admitted → None 16 (missed after_ends) → x ≡ ticked 0 255 chosen_in (finished after_work) after_ends → Case x

  module _ (f : fits t st ≡ true) (r : st.phase ≡ Running) where
    advances : None 16 (beyond t named) → None t.n (too_soon st named) → (x : Ticked) → x ≡ advance t st named chosen_in → Case x
    unfolding advance advance_to judged
    advances n₁ n₂ x e = ⊎_elim
        (λ q. misses ok q.0 q.1 (e ∙ q.2))
        (λ q. goes_on_lem ok q.0 (e ∙ q.1))
        (lowest_cases 16 (missed after_ends) (λ i. ticked 34 i chosen_in (finished after_work) (zeros after_ends.clock (Stopped i))) (ticked 0 255 chosen_in (finished after_work) after_ends))
      where
        ok : Admitted
        ok = record { fitting = f; running = r; tasks = n₁; free = n₂ }

    -- 31, then 33, then the steps
    abbrev going : Ticked
    going =
        lowest_or 16 (beyond t named) (refuse st 31 0)
        (lowest_or t.n (too_soon st named) (refuse st 33 0)
        (advance t st named chosen_in))

    goes : (x : Ticked) → x ≡ going → Case x
    goes x e = ⊎_elim
        (λ q. no_task_past f r q.0 q.1 (e ∙ q.2))
        (λ q. ⊎_elim
        (λ w. early f r q.0 w.0 w.1 (e ∙ q.1 ∙ w.2))
        (λ w. advances q.0 w.0 x (e ∙ q.1 ∙ w.1))
        (lowest_cases t.n (too_soon st named) (refuse st 33 0) (advance t st named chosen_in)))
        (lowest_cases 16 (beyond t named) (refuse st 31 0) _)

  -- EVERY TICK is one of the six
  pub cases : Case (tick_on choose t st named)
  unfolding tick_on when_running beyond too_soon
  cases = by (fits t st) refl st.phase refl
    where
      inner : Ticked
      inner =
          lowest_or 16 (λ i. bit named i && leb t.n i) (refuse st 31 0)
          (lowest_or t.n (λ i. bit named i && ltb 0 (wait st i)) (refuse st 33 0)
          (advance t st named chosen_in))

      by : (b : Bool) → fits t st ≡ b → (p : Phase) → st.phase ≡ p → Case (pick (not b) (refuse st 30 0 255) (when_running p (refuse st 32 0 255) inner))
      by true f Running r = goes f r inner refl
      by true f (Stopped k) r = halted f k r refl
      by false f p r = unfit f refl

  -- ---- and each case has its answer
  pub unfit_30 : fits t st ≡ false → tick_on choose t st named ≡ refuse st 30 0 255
  unfolding tick_on
  unfit_30 e = rw e refl

  pub stopped_32 : fits t st ≡ true → (k : ℕ) → st.phase ≡ Stopped k → tick_on choose t st named ≡ refuse st 32 0 255
  unfolding tick_on when_running
  stopped_32 e k p = rw (e, p) refl

  -- what follows where it fits and runs
  on_going : (f : fits t st ≡ true) (r : st.phase ≡ Running) → tick_on choose t st named ≡ going f r
  unfolding tick_on when_running beyond too_soon
  on_going f r = rw (f, r) refl

  pub beyond_31 : fits t st ≡ true → st.phase ≡ Running → (i : ℕ) → Lowest 16 (beyond t named) i → tick_on choose t st named ≡ refuse st 31 0 i
  beyond_31 f r i l = on_going f r ∙ lowest_or_is 16 (beyond t named) _ _ i l

  pub early_33 : fits t st ≡ true → st.phase ≡ Running → None 16 (beyond t named) → (i : ℕ) → Lowest t.n (too_soon st named) i → tick_on choose t st named ≡ refuse st 33 0 i
  early_33 f r n i l = on_going f r ∙ lowest_or_none 16 (beyond t named) _ _ n ∙ lowest_or_is t.n (too_soon st named) _ _ i l

  pub admitted_advances : Admitted → tick_on choose t st named ≡ advance t st named chosen_in
  admitted_advances a = on_going a.fitting a.running ∙ lowest_or_none 16 (beyond t named) _ _ a.tasks ∙ lowest_or_none t.n (too_soon st named) _ _ a.free

  pub misses_34 : Admitted → (i : ℕ) → Lowest 16 (missed after_ends) i
      → tick_on choose t st named ≡ ticked 34 i chosen_in (finished after_work) (zeros after_ends.clock (Stopped i))
  unfolding advance advance_to judged
  misses_34 a i l = admitted_advances a ∙ lowest_or_is 16 (missed after_ends) _ _ i l

  pub goes_0 : Admitted → None 16 (missed after_ends) → tick_on choose t st named ≡ ticked 0 255 chosen_in (finished after_work) after_ends
  unfolding advance advance_to judged
  goes_0 a n = admitted_advances a ∙ lowest_or_none 16 (missed after_ends) _ _ n
