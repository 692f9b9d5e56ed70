-- DEMAND 3 OVER THE CONTRACTS, from demand 3 of the machine's own run. True since each contract says that the result is what the definition computes:
-- call by call, the states and answers of a run are then those of the machine's own run on the same release sets, and what that run keeps they
-- keep. Of `tick_in_place` the contract only asserts the two equations; since answers and states can be compared, they can be taken out
-- (proofs/Same).
-- The machine's own run goes on after the N calls, where nothing is known of the run's release sets: it is given the empty set there. Every promise
-- speaks of releases and answers of the N calls alone, so this does not show.
use mathlib.Core.Path.{◌≡◌, refl, sym, ap, subst, ◌∙◌}
use mathlib.Core.Bool.{Bool, true, false}
use mathlib.Core.List.{List}
use mathlib.Core.Logic.Dec
use mathlib.Core.Logic.{∥∥₁_map}
use Prim.Native.Nat.{ℕ, zero, suc, ◌-◌, ◌^◌, ◌≤◌, ◌<◌}
use native.Mathlib.Omega.{arith}
use lib.Dec.{ltb}
use borrow.Author.Tests.{lt-ltb, ltb-true}
use Rattle.graph.specs.Words.{bit, pick}
use Rattle.graph.proofs.Facts.{clash}
use Rattle.graph.proofs.Bits.{bit_zero}
use Rattle.table.specs.declared.Table.{Table}
use Rattle.verdict.specs.declared.Verdict.{Verdict}
use Rattle.verdict.specs.Verdicts.{verdict}
use Rattle.sharp.specs.Sharp.{sharp}
use Rattle.machine.specs.declared.State.{State}
use Rattle.machine.specs.declared.Opened.{Opened}
use Rattle.machine.specs.declared.Answer.{Answer}
use Rattle.machine.specs.declared.Ticked.{Ticked}
use Rattle.machine.specs.States.{opening}
use Rattle.machine.specs.Steps.{released}
use Rattle.machine.specs.Ticking.{tick}
use Rattle.promise.specs.Runs.{table_of, Sporadic, own_state, own_mid, own_answer}
use Rattle.promise.specs.Demand3.{Within, Lives, Ends, Kept, Demand3Own, Fine, answered_0, refused_31, refused_33, AnyReleases, OldAccepts, SharpAccepts, none}
use Rattle.promise.specs.Calls.{Judges, SharpJudges, Opens, Ticks, Moves, Step, by_value, on_lent, Run, SaidYes, SharpSaidYes, CallsKept, CallsDemand3, CallsNever34}
use Rattle.promise.proofs.Same.{out, state_discrete, answer_discrete}
use Rattle.promise.proofs.OwnRun.{same_ran, demand3_own, demand3_own_sharp}
use Rattle.promise.proofs.NoMiss.{any_releases, any_releases_sharp}

-- WHAT A CONTRACT ALLOWS IS WHAT THE DEFINITION SAYS
pub judges_verdict : (file : List ℕ) (v : Verdict) → Judges file v → v ≡ verdict file
judges_verdict file v j = j.allowed ∙ ap verdict j.bytes

pub opens_opening : (file : List ℕ) (clock : ℕ) (o : Opened) → Opens file clock o → o ≡ opening file clock
opens_opening file clock o j = rw (← j.bytes, ← j.clock_is) j.allowed

pub ticks_tick : (file : List ℕ) (st : State) (named : ℕ) (x : Ticked) → Ticks file st named x → x ≡ tick file st named
ticks_tick file st named x j = rw (← j.self_is, ← j.bytes, ← j.named_is) j.allowed

-- a step is the definition's tick
abbrev IsTick : List ℕ → State → ℕ → Answer → State → Type 0
IsTick file st named a next = (a ≡ (tick file st named).answer) × (next ≡ (tick file st named).state)

pub moves_tick : (file : List ℕ) (st : State) (named : ℕ) (a : Answer) (next : State) → Moves file st named a next → IsTick file st named a next
moves_tick file st named a next j = out (Dec.and (answer_discrete a (tick file st named).answer) (state_discrete next (tick file st named).state)) asserted
  where
    asserted : ∥ IsTick file st named a next ∥₁
    asserted = rw (← j.state_is, ← j.bytes, ← j.named_is, ← j.next_is) (∥∥₁_map j.allowed (λ h. h.0))

step_tick : (file : List ℕ) (st : State) (named : ℕ) (a : Answer) (next : State) → Step file st named a next → IsTick file st named a next
step_tick file st named a next (by_value x j e f) =
    let q = ticks_tick file st named x j in
    (sym e ∙ ap (λ (z : Ticked). z.answer) q, sym f ∙ ap (λ (z : Ticked). z.state) q)
step_tick file st named a next (on_lent j) = moves_tick file st named a next j

-- THE RELEASE SETS OF N CALLS, and the empty set after them
unfoldable pub padded : ℕ → (ℕ → ℕ) → ℕ → ℕ
padded N named x = pick (ltb x N) (named x) 0

module _ (N : ℕ) (named : ℕ → ℕ) where
  padded_at : (x : ℕ) → x < N → padded N named x ≡ named x
  unfolding padded
  padded_at x b = rw (lt-ltb x N b) refl

  -- what holds of the empty set and of the sets of the N calls holds of each
  padded_by : (P : ℕ → Type 0) → P 0 → (x : ℕ) → (x < N → P (named x)) → P (padded N named x)
  unfolding padded
  padded_by P none x some = go (ltb x N) refl
    where
      go : (c : Bool) → ltb x N ≡ c → P (pick c (named x) 0)
      go true e = some (ltb-true x N e)
      go false e = none

  -- so a task that is named is named by one of the N calls
  named_by_call : (x i : ℕ) → bit (padded N named x) i ≡ true → (x < N) × (bit (named x) i ≡ true)
  named_by_call x i =
      padded_by (λ set. bit set i ≡ true → (x < N) × (bit (named x) i ≡ true)) (λ e. absurd (clash e (bit_zero i))) x (λ b e. (b, e))

  module _ (t : Table) where
    -- the empty sets keep any spacing
    padded_spaced : Sporadic t named N → (M : ℕ) → Sporadic t (padded N named) M
    padded_spaced s M = record {
      tasks = λ x i b e. let h = named_by_call x i e in s.tasks x i h.0 h.1;
      apart = λ i x y l b e f. let h = named_by_call y i f in s.apart i x y l h.0 (named_by_call x i e).1 h.1;
    }

    -- and no job stems from them
    padded_within : (spare : ℕ → ℕ) (x : ℕ) (mid : State) → Within t spare (padded N named) x mid → Within t spare named x mid
    padded_within spare x mid w = record {
      chains = w.chains;
      unfinished = w.unfinished;
      since = λ i p l.
          let s = w.since i p l in
          record { at = s.at; released = (named_by_call s.at i s.released).1; past = s.past; ticks = s.ticks; ahead = s.ahead };
      apart = w.apart;
    }

-- THE RUN IS THE MACHINE'S OWN on its release sets
module _ (file : List ℕ) (clock N : ℕ) (run : Run file clock N) where
  abbrev sets : ℕ → ℕ
  sets = padded N run.named

  -- a step of the run is the tick on the state of the machine's own
  stepped : (x : ℕ) → x < N → run.state x ≡ own_state file clock sets x → IsTick file (own_state file clock sets x) (sets x) (run.answer x) (run.state (suc x))
  stepped x b e = rw (padded_at N run.named x b, ← e) (step_tick file (run.state x) (run.named x) (run.answer x) (run.state (suc x)) (run.steps x b))

  -- so its states are those of the machine's own, one after the other
  own_state_lem : (x : ℕ) → x ≤ N → run.state x ≡ own_state file clock sets x
  unfolding own_state
  own_state_lem zero b = run.first ∙ ap (λ (o : Opened). o.state) (opens_opening file clock _ run.opens)
  own_state_lem (suc x) b = (stepped x (omega arith) (own_state_lem x (omega arith))).1

  -- and so are its answers, and its states within a tick
  own_answer_lem : (x : ℕ) → x < N → run.answer x ≡ own_answer file clock sets x
  unfolding own_answer
  own_answer_lem x b = (stepped x b (own_state_lem x (omega arith))).0

  own_mid_lem : (x : ℕ) → x < N → released (table_of file) (run.state x) (run.named x) ≡ own_mid file clock sets x
  unfolding own_mid
  own_mid_lem x b = rw (own_state_lem x (omega arith), padded_at N run.named x b) refl

  -- a job that ends in the machine's own run ends by the calls
  calls_end : (i a y : ℕ) → y < N → Ends (table_of file) (own_mid file clock sets) (own_answer file clock sets) N i a y
      → Ends (table_of file) (λ x. released (table_of file) (run.state x) (run.named x)) run.answer (N - 1) i a y
  calls_end i a y b d = record {
    lives = λ z l h. subst (Lives (table_of file) i a z) (sym (own_mid_lem z (omega arith))) (d.lives z l h);
    named = ap (λ (z : Answer). bit z.finished i) (own_answer_lem y b) ∙ d.named;
    ran = same_ran (table_of file) i a y (sym (own_mid_lem y b)) (sym (ap (λ (z : Answer). z.ran) (own_answer_lem y b))) d.ran;
    gone = λ z l h w. d.gone z l (omega arith) (subst (Lives (table_of file) i a z) (own_mid_lem z (omega arith)) w);
  }

  -- what the machine's own run keeps at each tick and after the last, the calls keep. A job whose deadline is within the N calls is finished by an
  -- answer of theirs.
  calls_kept : (spare : ℕ → ℕ) → ((x : ℕ) → Kept (table_of file) spare sets (own_mid file clock sets) (own_answer file clock sets) x)
      → CallsKept (table_of file) spare run.named run.state run.answer N
  calls_kept spare kept = record {
    within = λ x b. padded_within N run.named (table_of file) spare x _ (subst (Within (table_of file) spare sets x) (sym (own_mid_lem x b)) (kept x).within);
    answered = λ y b. ap (λ (a : Answer). a.reply.number) (own_answer_lem y b) ∙ (kept N).answered y b;
    finished = λ i a b e l.
        let f = (kept N).finished i a (ap (λ (set : ℕ). bit set i) (padded_at N run.named a b) ∙ e) l in
        let early = f.2 in
        let y : f.0 < N = omega arith in
        (f.0, f.1, f.2, calls_end i a f.0 y f.3);
  }

-- THE THEOREMS, for any verdict: where its function accepts only what it accepts, demand 3 of the machine's own run holds of the calls
pub calls_demand3 : (Accepts : List ℕ → Type 0) (Yes : List ℕ → Type 1) (spare : Table → ℕ → ℕ) → ((file : List ℕ) → Yes file → Accepts file)
    → Demand3Own Accepts spare → CallsDemand3 Yes spare
calls_demand3 Accepts Yes spare accepts demand file said clock small N run spaced =
    calls_kept file clock N run (spare (table_of file))
    (λ x. demand file (accepts file said) clock small (sets file clock N run) x (padded_spaced N run.named (table_of file) spaced (suc x)))

-- what is fine is not 34
not_34 : (st : State) (z : Ticked) → Fine st z → z.answer.reply.number ≡ 34 → ⊥
not_34 st z (answered_0 n) e = omega (arith, n, e)
not_34 st z (refused_31 n same) e = omega (arith, n, e)
not_34 st z (refused_33 n same) e = omega (arith, n, e)

pub calls_never_34 : (Accepts : List ℕ → Type 0) (Yes : List ℕ → Type 1) → ((file : List ℕ) → Yes file → Accepts file)
    → AnyReleases Accepts → CallsNever34 Yes
unfolding own_answer
calls_never_34 Accepts Yes accepts fine file said clock small N run bits x b e =
    not_34 _ _ (fine file (accepts file said) clock small (sets file clock N run)
    (λ y. padded_by N run.named (λ set. set < 2 ^ 16) (omega arith) y (bits y)) x)
    (sym (ap (λ (z : Answer). z.reply.number) (own_answer_lem file clock N run x b)) ∙ e)

-- `verdict_of` accepts only what document 01's verdict accepts
pub said_yes : (file : List ℕ) → SaidYes file → OldAccepts file
said_yes file s = sym (ap (λ (z : Verdict). z.number) (judges_verdict file s.said s.judges)) ∙ s.yes

-- and `sharp_of` only what the sharp verdict accepts
pub judges_sharp : (file : List ℕ) (v : Verdict) → SharpJudges file v → v ≡ sharp file
judges_sharp file v j = j.allowed ∙ ap sharp j.bytes

pub sharp_said_yes : (file : List ℕ) → SharpSaidYes file → SharpAccepts file
sharp_said_yes file s = sym (ap (λ (z : Verdict). z.number) (judges_sharp file s.said s.judges)) ∙ s.yes

-- THE DEMAND over the contracts, and that no tick is answered 34: document 01's verdict
pub calls_old : CallsDemand3 SaidYes none
calls_old = calls_demand3 OldAccepts SaidYes none said_yes demand3_own

pub calls_old_never_34 : CallsNever34 SaidYes
calls_old_never_34 = calls_never_34 OldAccepts SaidYes said_yes any_releases

-- and the sharp one
pub calls_sharp : CallsDemand3 SharpSaidYes none
calls_sharp = calls_demand3 SharpAccepts SharpSaidYes none sharp_said_yes demand3_own_sharp

pub calls_sharp_never_34 : CallsNever34 SharpSaidYes
calls_sharp_never_34 = calls_never_34 SharpAccepts SharpSaidYes sharp_said_yes any_releases_sharp
