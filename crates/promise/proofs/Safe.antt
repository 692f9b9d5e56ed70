-- A SAFE STATE: it is sound, and the theory reaches it. A tick that is not refused, whatever times its releases draw within the costs and whatever it runs
-- within the law, answers 0 and leads to a safe state.
use mathlib.Core.Path.{◌≡◌, ap, subst}
use mathlib.Core.Bool.{true}
use mathlib.Core.List.{List}
use Prim.Native.Nat.{ℕ, ◌+◌, ◌^◌, ◌≤◌, ◌<◌}
use native.Mathlib.Omega.{arith}
use native.Mathlib.Decide.{dec_lt}
use Rattle.graph.specs.Words.{bit}
use Rattle.graph.specs.Graph.{Chain, sum_along, longest}
use Rattle.graph.proofs.Facts.{clash, lowest_or_none}
use Rattle.table.specs.declared.Table.{Table}
use Rattle.table.specs.Memory.{task, vertices, D, T, succ, edge_in, cost}
use Rattle.table.specs.Good.{GoodTable}
use Rattle.machine.specs.declared.Phase.TheVariants.{Running}
use Rattle.machine.specs.declared.State.{State}
use Rattle.machine.specs.States.{live, wait, jobs_of, remaining, left, zeros}
use Rattle.machine.specs.Steps.{released, worked, ended, finished, missed, Legal}
use Rattle.machine.specs.Ticking.{ticked, judged, advance_to}
use Rattle.machine.proofs.Index.{in_time, zeros_jobs}
use Rattle.theory.specs.Model as M
use Rattle.theory.specs.Runs as Run
use Rattle.theory.specs.Verdicts.{Early}
use Rattle.theory.proofs.Arrays as A
use Rattle.promise.proofs.Bridge.{model, model_by}
use Rattle.promise.proofs.Certified.{Certified}
use Rattle.promise.specs.Runs.{taking, Drawn}
use Rattle.machine.proofs.Sound.{Sound, opened_sound}
use Rattle.machine.proofs.Within.{mid}
use Rattle.machine.proofs.Moving.{ran, next}
use Rattle.promise.proofs.Costs.{taking_good, taking_proper, legal_taking, worked_taking, sound_taking}
use Rattle.promise.proofs.OneTick as OneTick
use Rattle.promise.proofs.Steps as Steps
use Rattle.promise.proofs.Steps.{arrays}

pub record Safe (t : Table) (st : State) : Type 0 where
  pub sound : Sound t st
  pub reach : Run.Reach (model t) (Run.actual (model t)) Run.before (A.state (arrays st))

no_job : (c i : ℕ) → (arrays (zeros c Running)).cnt i ≡ 0
unfolding arrays
no_job c i = zeros_jobs c Running i

-- just opened
pub opened_safe : (t : Table) → GoodTable t → (clock : ℕ) → clock < 2 ^ 32 → Safe t (zeros clock Running)
opened_safe t good clock h = record {
  sound = opened_sound t good clock h;
  reach = A.starts (model t) (Run.actual (model t)) (arrays (zeros clock Running)) (λ i b. no_job clock i);
}

module _ (t : Table) (spare : ℕ → ℕ) (cert : Certified t spare) (st : State) (safe : Safe t st) (named : ℕ)
    (tasks : (i : ℕ) → bit named i ≡ true → i < t.n) (free : (i : ℕ) → bit named i ≡ true → wait st i ≡ 0)
    (c : List ℕ) (drawn : Drawn t c) where
  -- the table by which step 1 goes
  abbrev d : Table
  d = taking t c

  good : GoodTable d
  good = taking_good t c drawn cert.good

  snd : Sound d st
  snd = sound_taking t c st safe.sound

  tasks_d : (i : ℕ) → bit named i ≡ true → i < d.n
  unfolding taking
  tasks_d = tasks

  used : (i : ℕ) → i < t.n → i < d.n
  unfolding taking
  used i b = b

  proper : (i : ℕ) → i < d.n → Run.Proper (model_by d (cost t)) i (cost d i)
  unfolding taking task D T succ edge_in model model_by
  proper = taking_proper t c drawn cert.good

  reach : Run.Reach (model_by d (cost t)) (Run.actual (model_by d (cost t))) Run.before (A.state (arrays st))
  unfolding taking task D T succ edge_in model model_by
  reach = safe.reach

  early : (p : Run.Phase) (s : M.State) → Run.Reach (model_by d (cost t)) (Run.actual (model_by d (cost t))) p s → Early (model_by d (cost t)) spare s
  unfolding taking task D T succ edge_in model model_by
  early = cert.early

  -- ---- within the tick
  abbrev pub now : State
  now = released (taking t c) st named

  below : (i p : ℕ) → live now i p ≡ true → (i < t.n) × (p < jobs_of now i)
  below = OneTick.below t cert.good st safe.sound named tasks free c drawn

  -- along the chains of a job no more remains than it has ticks left, less what it has to spare
  pub chains_fit : (i p : ℕ) → live now i p ≡ true → (l : List ℕ) → Chain (vertices t i) (edge_in t i) l → sum_along (remaining now i p) l + spare i ≤ left now i p
  unfolding mid taking task vertices succ edge_in
  chains_fit i p e = let b = below i p e in Steps.chains_fit d good st snd named tasks_d free (cost t) proper reach spare early i p b.0 b.1

  pub longest_fits : (i p : ℕ) → live now i p ≡ true → longest (vertices t i) (edge_in t i) (remaining now i p) + spare i ≤ left now i p
  unfolding mid taking task vertices succ edge_in
  longest_fits i p e = let b = below i p e in Steps.longest_fits d good st snd named tasks_d free (cost t) proper reach spare early i p b.0 b.1

  -- ---- and after it, whatever is chosen within the law
  module _ (chosen : List ℕ) (legal : Legal t now chosen) where
    law : Legal d (mid d good st snd named tasks_d free) chosen
    unfolding mid
    law = legal_taking t c now chosen legal

    abbrev pub after : State
    after = ended (worked t now named chosen)

    same_after : next d good st snd named tasks_d free chosen ≡ after
    unfolding next ran mid
    same_after = ap ended (worked_taking t c now named chosen)

    -- no deadline is missed
    kept_d : (i q : ℕ) → i < d.n → q < jobs_of (next d good st snd named tasks_d free chosen) i → 1 ≤ left (next d good st snd named tasks_d free chosen) i q
    kept_d = Steps.kept d good st snd named tasks_d free (cost t) proper reach spare early chosen law

    pub kept : (i q : ℕ) → i < t.n → q < jobs_of after i → 1 ≤ left after i q
    kept = subst (λ (s : State). (i q : ℕ) → i < t.n → q < jobs_of s i → 1 ≤ left s i q) same_after (λ i q b l. kept_d i q (used i b) l)

    after_sound : Sound t after
    after_sound = OneTick.after_sound t cert.good st safe.sound named tasks free c drawn chosen legal kept

    pub after_safe : Safe t after
    unfolding taking task D T succ edge_in model model_by
    after_safe = record {
      sound = after_sound;
      reach = subst (λ (s : State). Run.Reach (model t) (Run.actual (model t)) Run.before (A.state (arrays s))) same_after
          (Steps.reach_next d good st snd named tasks_d free (cost t) proper reach chosen law);
    }

    after_ahead : (i q : ℕ) → i < 16 → q < 4 → live after i q ≡ true → 1 ≤ left after i q
    after_ahead i q b h e = elim (dec_lt i t.n) [
      | yes l ↦ elim (dec_lt q (jobs_of after i)) [
        | yes k ↦ kept i q l k
        | no k ↦ absurd (clash e (after_sound.resting i q l (omega arith) h).idles)
      ]
      | no l ↦ absurd (clash e (after_sound.unused i q (omega arith) b h).idles)
    ]

    -- so steps 4 to 6 answer 0
    pub goes : advance_to chosen (worked t now named chosen) ≡ ticked 0 255 chosen (finished (worked t now named chosen)) after
    unfolding advance_to judged
    goes = lowest_or_none 16 (missed after) _ _ (λ i b. in_time after i after_sound.clock (λ q h e. after_ahead i q b h e))
