-- A running state that fits, whose clock and deadlines are of 32 bits, stands; so fitting and standing are the same.
use Rattle.std.proofs.Common.{◌≡◌, ℕ, ◌^◌, ◌<◌, true, sym, refl, ◌∙◌, arith}
use native.Mathlib.Decide.{dec_lt}
use Rattle.graph.specs.Words.{sum}
use Rattle.graph.proofs.Facts.{clash, off_when, sum_none}
use Rattle.table.specs.declared.Table.{Table}
use Rattle.table.specs.Memory.{vertices}
use Rattle.table.specs.Good.{GoodTable}
use Rattle.machine.specs.declared.Phase.{Phase}
use Rattle.machine.specs.declared.Phase.TheVariants.{Running, Stopped}
use Rattle.machine.specs.declared.State.{State}
use Rattle.machine.specs.States.{live, deadline, jobs_of, remaining, work_of}
use Rattle.machine.specs.Steps.{clear}
use Rattle.machine.specs.Fitting.{fits}
use Rattle.machine.proofs.Clauses.{jobs_four, ZeroPlace, UsedFits, used_task, unused_task, stopped_zero}
use Rattle.machine.proofs.Working.{WorkKept}
use Rattle.machine.proofs.Standing.{clear_is, nothing_is, something, Going, Resting, Standing}

-- in a state that fits, running or stopped, the stored work of each job is what remains of it; of a place without a job both are nothing
pub fits_work : (t : Table) (st : State) → fits t st ≡ true → WorkKept st
fits_work t st f = go st.phase refl
  where
    none : (i p : ℕ) → ZeroPlace st i p → work_of st i p ≡ sum 16 (remaining st i p)
    none i p z = z.no_work_lem ∙ sym (sum_none 16 (remaining st i p) (nothing_is st i p z.none))

    go : (c : Phase) → st.phase ≡ c → WorkKept st
    go Running e i p b h = elim (dec_lt i t.n) [
      | yes l ↦ elim (dec_lt p (jobs_of st i)) [
        | yes k ↦ ((used_task t st f e i b l).jobs p k).works
        | no k ↦ none i p ((used_task t st f e i b l).others p (omega arith) h)
      ]
      | no l ↦ none i p ((unused_task t st f e i b (omega arith)).others p h)
    ]
    go (Stopped k) e i p b h = none i p ((stopped_zero t st f k e i b).others p h)

-- what the types say of a state, as far as it is needed: the clock and the deadlines are numbers of 32 bits
pub record InRange (st : State) : Type 0 where
  pub clock : st.clock < 2 ^ 32
  pub deadlines : (i p : ℕ) → i < 16 → p < 4 → live st i p ≡ true → deadline st i p < 2 ^ 32

module _ (t : Table) (good : GoodTable t) (st : State) (fitting : fits t st ≡ true) (running : st.phase ≡ Running) (range : InRange st) where
  sixteen : (i : ℕ) → i < t.n → i < 16
  sixteen i b = let h = good.n_high in omega arith

  used : (i : ℕ) → i < t.n → UsedFits t st i
  used i b = used_task t st fitting running i (sixteen i b) b

  goes : (i p : ℕ) → i < t.n → p < jobs_of st i → Going t st i p
  goes i p b l =
      let f = (used i b).jobs p l in
      let four = jobs_four st i in
      record {
        small = range.deadlines i p (sixteen i b) (omega arith) ((used i b).lives p l);
        ahead = f.ahead;
        within = λ u c. elim (dec_lt u (vertices t i)) [ yes l ↦ f.within u c l | no l ↦ let z = f.spare u c (omega arith) in omega arith ];
        behind = λ u w l₁ l₂ x y.
            let o = (good.each i b).ends w u x in
            f.behind u o.1 (off_when (clear t st i p u) (λ c. clash (clear_is t st i p u c w o.0 x) y));
      }

  rests : (i p : ℕ) → ZeroPlace st i p → Resting st i p
  rests i p z = record { idles = z.idles; none = nothing_is st i p z.none }

  pub fits_stands : Standing t st
  fits_stands = record {
    running = running;
    clock = range.clock;
    lives = λ i p b l. (used i b).lives p l;
    going = goes;
    some = λ i p b l. something st i p ((used i b).jobs p l).some;
    soon = λ i p b l.
        let f = ((used i b).jobs p l).soon in
        let d = (good.each i b).D_low in
        omega arith;
    apart = λ i p b l. (used i b).apart p l;
    resting = λ i p b l h. rests i p ((used i b).others p l h);
    short = λ i b. (used i b).short;
    waits = λ i b l. (used i b).waits l;
    unused = λ i p h b l. rests i p ((unused_task t st fitting running i b h).others p l);
    no_wait_lem = λ i h b. (unused_task t st fitting running i b h).no_wait_lem;
    works = fits_work t st fitting;
  }
