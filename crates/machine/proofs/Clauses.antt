-- What each clause of fitting says, and that a task of which it holds passes it. Each clause is a test of finitely many numbers, so it passes just
-- if each of them is as it says.
use Rattle.std.proofs.Common.{◌≡◌, ℕ, ◌+◌, ◌-◌, ◌<◌, ◌≤◌, Bool, true, false, not, ◌&&◌, ◌||◌, eqb, ltb, leb, sym, refl, ap, ◌∙◌, arith, ltb-true, le-ltb, lt-ltb, eq-eqb, ne_eqb, eqb-true, le-leb, leb-true}
use native.Mathlib.Decide.{dec_lt, ℕ_discrete}
use borrow.Author.Tests.{not-true}
use Rattle.graph.specs.Words.{flag, pick, sum, all}
use Rattle.graph.proofs.Facts.{clash, both_true, and_true, all_at, all_of, sum_le}
use Rattle.table.specs.declared.Table.{Table}
use Rattle.table.specs.Memory.{vertices, D, T, cost}
use Rattle.machine.specs.declared.Phase.{Phase}
use Rattle.machine.specs.declared.Phase.TheVariants.{Running, Stopped}
use Rattle.machine.specs.declared.State.{State}
use Rattle.machine.specs.States.{live, wait, jobs_of, remaining, work_of, left}
use Rattle.machine.specs.Steps.{clear}
use Rattle.machine.specs.Fitting.{within_cost, nothing_left, whole_behind, work_agrees, fits_job, zero_place, fits_place, spaced, fits_wait, fits_used, zero_task_in, fits_task, fits_phase, fits}

-- ---- how many jobs there are: at most four, one a place
one_flag : (b : Bool) → flag b ≤ 1
unfolding flag
one_flag true = omega arith
one_flag false = omega arith

pub jobs_four : (st : State) (i : ℕ) → jobs_of st i ≤ 4
unfolding jobs_of sum
jobs_four st i = sum_le 4 (λ p. flag (live st i p)) (λ p. 1) (λ p b. one_flag (live st i p))

-- ---- the clauses
-- "ticks left from 1 to D minus 1", "no remaining above its cost, some remaining above 0", "a vertex with a predecessor not done still has its whole
-- cost", and the stored work is what remains
pub record JobFits (t : Table) (st : State) (i p : ℕ) : Type 0 where
  pub ahead : 1 ≤ left st i p
  pub soon : left st i p ≤ D t i - 1
  pub within : (u : ℕ) → u < 16 → u < vertices t i → remaining st i p u ≤ cost t i u
  pub spare : (u : ℕ) → u < 16 → vertices t i ≤ u → remaining st i p u ≡ 0
  pub some : nothing_left st i p ≡ false
  pub behind : (u : ℕ) → u < vertices t i → clear t st i p u ≡ false → remaining st i p u ≡ cost t i u
  pub works : work_of st i p ≡ sum 16 (remaining st i p)

-- a place without a job
pub record ZeroPlace (st : State) (i p : ℕ) : Type 0 where
  pub idles : live st i p ≡ false
  pub no_work_lem : work_of st i p ≡ 0
  pub none : nothing_left st i p ≡ true

-- "jobs are kept oldest first, each next deadline at least T ticks after the one before, the wait is below T and, while any is live, at least T minus
-- D plus the newest one's ticks left"
pub record UsedFits (t : Table) (st : State) (i : ℕ) : Type 0 where
  pub lives : (p : ℕ) → p < jobs_of st i → live st i p ≡ true
  pub jobs : (p : ℕ) → p < jobs_of st i → JobFits t st i p
  pub others : (p : ℕ) → jobs_of st i ≤ p → p < 4 → ZeroPlace st i p
  pub apart : (p : ℕ) → p + 1 < jobs_of st i → left st i p + T t i ≤ left st i (p + 1)
  pub short : wait st i < T t i
  pub waits : 1 ≤ jobs_of st i → T t i + left st i (jobs_of st i - 1) ≤ wait st i + D t i

-- "a task of zeros is idle with wait 0"
pub record ZeroTask (st : State) (i : ℕ) : Type 0 where
  pub no_wait_lem : wait st i ≡ 0
  pub others : (p : ℕ) → p < 4 → ZeroPlace st i p

pub either : (a b : Bool) → a || b ≡ true → a ≡ false → b ≡ true
either true b h e = absurd (clash refl e)
either false b h e = h

flip : {c : Bool} → c ≡ false → not c ≡ true
flip h = rw h refl

-- ---- of a job
module _ (t : Table) (st : State) (i p : ℕ) where
  within_cost_lem : within_cost t st i p ≡ true → (u : ℕ) → u < 16 → u < vertices t i → remaining st i p u ≤ cost t i u
  unfolding within_cost
  within_cost_lem h u b l = leb-true (remaining st i p u) (cost t i u) (rw (lt-ltb u (vertices t i) l) at (all_at 16 _ h u b))

  spare_zero : within_cost t st i p ≡ true → (u : ℕ) → u < 16 → vertices t i ≤ u → remaining st i p u ≡ 0
  unfolding within_cost
  spare_zero h u b l = eqb-true (remaining st i p u) 0 (rw (le-ltb u (vertices t i) l) at (all_at 16 _ h u b))

  whole_behind_lem : whole_behind t st i p ≡ true → (u : ℕ) → u < vertices t i → clear t st i p u ≡ false → remaining st i p u ≡ cost t i u
  unfolding whole_behind
  whole_behind_lem h u b e = eqb-true (remaining st i p u) (cost t i u) (either (clear t st i p u) _ (all_at (vertices t i) _ h u b) e)

  pub job_fits_lem : fits_job t st i p ≡ true → JobFits t st i p
  unfolding fits_job work_agrees
  job_fits_lem h =
      let a₁ = both_true _ (work_agrees st i p) h in
      let a₂ = both_true _ (whole_behind t st i p) a₁.0 in
      let a₃ = both_true _ (not (nothing_left st i p)) a₂.0 in
      let a₄ = both_true _ (within_cost t st i p) a₃.0 in
      let a₅ = both_true (leb 1 (left st i p)) (leb (left st i p) (D t i - 1)) a₄.0 in
      record {
        ahead = leb-true 1 (left st i p) a₅.0;
        soon = leb-true (left st i p) (D t i - 1) a₅.1;
        within = within_cost_lem a₄.1;
        spare = spare_zero a₄.1;
        some = not-true (nothing_left st i p) a₃.1;
        behind = whole_behind_lem a₂.1;
        works = eqb-true (work_of st i p) (sum 16 (remaining st i p)) a₁.1;
      }

  within_of : JobFits t st i p → within_cost t st i p ≡ true
  unfolding within_cost
  within_of f = all_of 16 _ (λ u b. go u b (dec_lt u (vertices t i)))
    where
      go : (u : ℕ) → u < 16 → Dec (u < vertices t i) → pick (ltb u (vertices t i)) (leb (remaining st i p u) (cost t i u)) (eqb (remaining st i p u) 0) ≡ true
      go u b (yes l) = rw (lt-ltb u (vertices t i) l) (le-leb (remaining st i p u) (cost t i u) (f.within u b l))
      go u b (no l) = rw (le-ltb u (vertices t i) (omega arith)) (eq-eqb (remaining st i p u) 0 (f.spare u b (omega arith)))

  whole_of : JobFits t st i p → whole_behind t st i p ≡ true
  unfolding whole_behind
  whole_of f = all_of (vertices t i) _ (λ u l. go u l (clear t st i p u) refl)
    where
      go : (u : ℕ) → u < vertices t i → (c : Bool) → clear t st i p u ≡ c → c || eqb (remaining st i p u) (cost t i u) ≡ true
      go u l true q = refl
      go u l false q = eq-eqb (remaining st i p u) (cost t i u) (f.behind u l q)

  pub of_job : JobFits t st i p → fits_job t st i p ≡ true
  unfolding fits_job work_agrees
  of_job f =
      and_true _ _ (and_true _ _ (and_true _ _ (and_true _ _ (and_true _ _
      (le-leb 1 (left st i p) f.ahead) (le-leb (left st i p) (D t i - 1) f.soon))
      (within_of f)) (flip f.some)) (whole_of f))
      (eq-eqb (work_of st i p) (sum 16 (remaining st i p)) f.works)

-- ---- of a place without one
module _ (st : State) (i p : ℕ) where
  pub zero_place_lem : zero_place st i p ≡ true → ZeroPlace st i p
  unfolding zero_place
  zero_place_lem h =
      let a = both_true (not (live st i p) && eqb (work_of st i p) 0) (nothing_left st i p) h in
      let b = both_true (not (live st i p)) (eqb (work_of st i p) 0) a.0 in
      record { idles = not-true (live st i p) b.0; no_work_lem = eqb-true (work_of st i p) 0 b.1; none = a.1 }

  pub of_place : ZeroPlace st i p → zero_place st i p ≡ true
  unfolding zero_place
  of_place f = and_true _ _ (and_true _ _ (flip f.idles) (eq-eqb (work_of st i p) 0 f.no_work_lem)) f.none

-- ---- of a task
module _ (st : State) (i : ℕ) where
  pub zero_task : zero_task_in st i ≡ true → ZeroTask st i
  unfolding zero_task_in
  zero_task h =
      let a = both_true (eqb (wait st i) 0) (all 4 (zero_place st i)) h in
      record { no_wait_lem = eqb-true (wait st i) 0 a.0; others = λ p b. zero_place_lem st i p (all_at 4 (zero_place st i) a.1 p b) }

  pub of_zero : ZeroTask st i → zero_task_in st i ≡ true
  unfolding zero_task_in
  of_zero f = and_true _ _ (eq-eqb (wait st i) 0 f.no_wait_lem) (all_of 4 (zero_place st i) (λ p b. of_place st i p (f.others p b)))

module _ (t : Table) (st : State) (i : ℕ) where
  pub used_fits : fits_used t st i ≡ true → UsedFits t st i
  unfolding fits_used fits_place spaced fits_wait
  used_fits h =
      let a = both_true (all 4 (fits_place t st i) && spaced t st i) (fits_wait t st i) h in
      let b = both_true (all 4 (fits_place t st i)) (spaced t st i) a.0 in
      let w = both_true (ltb (wait st i) (T t i)) _ a.1 in
      let four = jobs_four st i in
      record {
        lives = λ p l. (job p l (all_at 4 (fits_place t st i) b.0 p (omega arith))).0;
        jobs = λ p l. job_fits_lem t st i p (job p l (all_at 4 (fits_place t st i) b.0 p (omega arith))).1;
        others = λ p l k. zero_place_lem st i p (rw (le-ltb p (jobs_of st i) l) at (all_at 4 (fits_place t st i) b.0 p k));
        apart = λ p l. leb-true _ _ (all_at (jobs_of st i - 1) _ b.1 p (omega arith));
        short = ltb-true (wait st i) (T t i) w.0;
        waits = λ l. leb-true _ _ (either (eqb (jobs_of st i) 0) _ w.1 (ne_eqb (jobs_of st i) 0 (λ z. omega arith)));
      }
    where
      job : (p : ℕ) → p < jobs_of st i → pick (ltb p (jobs_of st i)) (live st i p && fits_job t st i p) (zero_place st i p) ≡ true
          → (live st i p ≡ true) × (fits_job t st i p ≡ true)
      job p l e = both_true (live st i p) (fits_job t st i p) (rw (lt-ltb p (jobs_of st i) l) at e)

  pub of_used : UsedFits t st i → fits_used t st i ≡ true
  unfolding fits_used fits_place spaced fits_wait
  of_used f =
      and_true _ _ (and_true _ _
      (all_of 4 (fits_place t st i) (λ p b. place p b (dec_lt p (jobs_of st i))))
      (all_of (jobs_of st i - 1) _ (λ p b. le-leb _ _ (f.apart p (omega arith)))))
      (and_true _ _ (lt-ltb (wait st i) (T t i) f.short) (bound (ℕ_discrete (jobs_of st i) 0)))
    where
      place : (p : ℕ) → p < 4 → Dec (p < jobs_of st i) → pick (ltb p (jobs_of st i)) (live st i p && fits_job t st i p) (zero_place st i p) ≡ true
      place p b (yes l) = rw (lt-ltb p (jobs_of st i) l) (and_true _ _ (f.lives p l) (of_job t st i p (f.jobs p l)))
      place p b (no l) = rw (le-ltb p (jobs_of st i) (omega arith)) (of_place st i p (f.others p (omega arith) b))

      bound : Dec (jobs_of st i ≡ 0) → eqb (jobs_of st i) 0 || leb (T t i + left st i (jobs_of st i - 1)) (wait st i + D t i) ≡ true
      bound (yes z) = rw (eq-eqb (jobs_of st i) 0 z) refl
      bound (no z) = rw (ne_eqb (jobs_of st i) 0 z) (le-leb _ _ (f.waits (omega arith)))

-- EACH TASK OF A STATE THAT FITS: a running one, used or not; a stopped one
module _ (t : Table) (st : State) (fitting : fits t st ≡ true) where
  module _ (running : st.phase ≡ Running) (i : ℕ) (sixteen : i < 16) where
    its_fits : fits_task t st i ≡ true
    unfolding fits fits_phase
    its_fits = all_at 16 (fits_task t st) (sym (ap (λ (p : Phase). fits_phase p t st) running) ∙ fitting) i sixteen

    pub used_task : i < t.n → UsedFits t st i
    unfolding fits_task
    used_task b = used_fits t st i (rw (lt-ltb i t.n b) at its_fits)

    pub unused_task : t.n ≤ i → ZeroTask st i
    unfolding fits_task
    unused_task b = zero_task st i (rw (le-ltb i t.n b) at its_fits)

  module _ (k : ℕ) (stopped : st.phase ≡ Stopped k) where
    at_task : (k < t.n) × (all 16 (zero_task_in st) ≡ true)
    unfolding fits fits_phase
    at_task =
        let a = both_true (ltb k t.n) (all 16 (zero_task_in st)) (sym (ap (λ (p : Phase). fits_phase p t st) stopped) ∙ fitting) in
        (ltb-true k t.n a.0, a.1)

    pub stopped_below : k < t.n
    stopped_below = at_task.0

    pub stopped_zero : (i : ℕ) → i < 16 → ZeroTask st i
    stopped_zero i b = zero_task st i (all_at 16 (zero_task_in st) at_task.1 i b)
