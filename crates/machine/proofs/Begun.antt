-- STEP 1 BY ROWS. A slot gets a new job exactly if its task is named and has as many live jobs as the slot's age place says, by the set of live slots
-- and by the state alike; so the rows that step 1 leaves are those of `released`. And STEP 4 of such rows is `worked`.
use Rattle.std.proofs.Common.{◌≡◌, ℕ, ◌+◌, ◌-◌, ◌*◌, ◌/◌, ◌%◌, ◌<◌, Bool, true, false, ◌&&◌, ◌||◌, eqb, ltb, List, length, get_or, sym, refl, ap, ◌∙◌, ap₂, arith}
use lib.Bits.{bit_or}
use Rattle.graph.specs.Words.{flag, pick, bit, sum, row, is_in, set_of}
use Rattle.graph.proofs.Facts.{sum_same, length_row, row_at}
use Rattle.graph.proofs.Bits.{bit_or_lem}
use Rattle.graph.proofs.Sets.{bit_set}
use Rattle.table.specs.declared.Table.{Table}
use Rattle.table.specs.Memory.{D, T, cost}
use Rattle.slots.specs.Slots.{work_left}
use Rattle.slots.proofs.Cases.{work_sum}
use Rattle.machine.specs.declared.Job.{Job}
use Rattle.machine.specs.declared.Job.TheVariants.{Nothing, Live}
use Rattle.machine.specs.declared.TaskState.{TaskState}
use Rattle.machine.specs.declared.State.{State}
use Rattle.machine.specs.States.{no_job, idle, task_of, wait, job_at, is_live, deadline_of, live, deadline, jobs_of, remaining, wrap, ticks_left, left}
use Rattle.machine.specs.Steps.{name_at, is_new, released, left_at, run_of, worked}
use Rattle.machine.specs.Rows.{place_by, tasks_by, used_by, is_new_by, begun_deadlines, begun_waits, begun_rest, begun_work, rows_after}
use Rattle.machine.proofs.Filling.{row_same, row_ext}
use Rattle.machine.proofs.Index.{released_wait, released_live, released_deadline}
use Rattle.machine.proofs.Apart.{Apart, ticks_in, slot_of}

either : (x y : Bool) → (x || y) ≡ pick y true x
either true true = refl
either true false = refl
either false true = refl
either false false = refl

-- a job is its deadline, where it is live
parts : (x : Job) → pick (is_live x) (Live (deadline_of x)) Nothing ≡ x
unfolding is_live deadline_of
parts Nothing = refl
parts (Live d) = refl

-- WHAT STEP 1 MAKES of the rows of a state taken apart; `fresh` are the slots that get a new job
pub record Begun (t : Table) (st : State) (named fresh : ℕ) (deadlines waits deadlines' waits' rest work : List ℕ) : Type 0 where
  pub ends : deadlines' ≡ begun_deadlines t st.clock fresh deadlines
  pub rests : waits' ≡ begun_waits t named waits
  pub costs : rest ≡ begun_rest t.costs fresh st.remaining
  pub sums : work ≡ begun_work t.costs fresh st.remaining st.work

module _ (t : Table) (st : State) (named in_it fresh : ℕ) (deadlines waits deadlines' waits' rest work : List ℕ) (a : Apart st in_it deadlines waits)
    (f : fresh ≡ set_of 64 (is_new_by in_it named)) (g : Begun t st named fresh deadlines waits deadlines' waits' rest work) where
  abbrev mid : State
  mid = released t st named

  abbrev begun : ℕ
  begun = bit_or in_it fresh

  -- ---- the new slots are those of the new jobs
  used_is : (i : ℕ) → i < 16 → used_by in_it i ≡ jobs_of st i
  unfolding used_by jobs_of
  used_is i b = sum_same 4 _ _ (λ p c. ap flag (a.lives i p b c))

  new_at : (s : ℕ) → s < 64 → bit fresh s ≡ is_new st named (s % 16) (s / 16)
  unfolding is_new_by is_new
  new_at s b =
      ap (λ (x : ℕ). bit x s) f ∙ bit_set 64 (is_new_by in_it named) s b
      ∙ ap (λ (n : ℕ). bit named (s % 16) && eqb (s / 16) n) (used_is (s % 16) (omega arith))

  pub new_in : (i p : ℕ) → i < 16 → p < 4 → bit fresh (16 * p + i) ≡ is_new st named i p
  new_in i p b c =
      let e : (16 * p + i) % 16 ≡ i = omega arith in
      let q : (16 * p + i) / 16 ≡ p = omega arith in
      new_at (16 * p + i) (omega arith) ∙ ap₂ (is_new st named) e q

  -- ---- the live slots, and their deadlines
  pub begun_at : (i p : ℕ) → i < 16 → p < 4 → bit begun (16 * p + i) ≡ live mid i p
  begun_at i p b c =
      bit_or_lem in_it fresh (16 * p + i) ∙ either (bit in_it (16 * p + i)) (bit fresh (16 * p + i))
      ∙ ap₂ (λ (n l : Bool). pick n true l) (new_in i p b c) (a.lives i p b c)
      ∙ sym (released_live t st named i b p c)

  ends_at : (i p : ℕ) → i < 16 → p < 4 → get_or deadlines' (16 * p + i) 0 ≡ deadline mid i p
  ends_at i p b c =
      let e : (16 * p + i) % 16 ≡ i = omega arith in
      ap (λ (l : List ℕ). get_or l (16 * p + i) 0) g.ends ∙ row_at 64 _ (16 * p + i) 0 (omega arith)
      ∙ ap₂ (λ (n : Bool) (j : ℕ). pick n (wrap (st.clock + D t j)) (get_or deadlines (16 * p + i) 0)) (new_in i p b c) e
      ∙ ap (pick (is_new st named i p) (wrap (st.clock + D t i))) (a.ends i p b c)
      ∙ sym (released_deadline t st named i b p c)

  pub deadline_at : (i p : ℕ) → i < 16 → p < 4 → live mid i p ≡ true → get_or deadlines' (16 * p + i) 0 ≡ deadline mid i p
  deadline_at i p b c e = ends_at i p b c

  -- ---- what remains, and the work
  pub mid_rest : mid.remaining ≡ rest
  unfolding released
  mid_rest = sym (g.costs ∙ row_ext 1024 0 _ _ (λ k b.
      let q : k / 16 / 16 ≡ k / 256 = omega arith in
      ap (λ (n : Bool). pick n (get_or t.costs (k % 256) 0) (get_or st.remaining k 0)) (new_at (k / 16) (omega arith) ∙ ap (is_new st named (k / 16 % 16)) q)))

  -- at a new slot the costs remain
  costs_at : (s : ℕ) → s < 64 → bit fresh s ≡ true → work_left (begun_rest t.costs fresh st.remaining) s ≡ sum 16 (cost t (s % 16))
  unfolding cost
  costs_at s b e = sym (work_sum (begun_rest t.costs fresh st.remaining) s b) ∙ sum_same 16 _ _ (λ u c.
      let q : (16 * s + u) / 16 ≡ s = omega arith in
      let r : (16 * s + u) % 256 ≡ 16 * (s % 16) + u = omega arith in
      row_at 1024 _ (16 * s + u) 0 (omega arith)
      ∙ ap₂ (λ (n : Bool) (k : ℕ). pick n (get_or t.costs k 0) (get_or st.remaining (16 * s + u) 0)) (ap (bit fresh) q ∙ e) r)

  pub mid_work : mid.work ≡ work
  unfolding released
  mid_work = sym (g.sums ∙ row_ext 64 0 _ _ (λ s b.
      go s b (bit fresh s) refl ∙ ap (λ (n : Bool). pick n (sum 16 (cost t (s % 16))) (get_or st.work s 0)) (new_at s b)))
    where
      go : (s : ℕ) → s < 64 → (n : Bool) → bit fresh s ≡ n
          → pick n (work_left (begun_rest t.costs fresh st.remaining) s) (get_or st.work s 0) ≡ pick n (sum 16 (cost t (s % 16))) (get_or st.work s 0)
      go s b true e = costs_at s b e
      go s b false e = refl

  -- ---- the ticks left
  pub mid_left : ticks_in begun deadlines' st.clock ≡ row 64 (left_at mid)
  unfolding left_at left released
  mid_left = row_ext 64 0 _ _ (λ s b.
      ap₂ (λ (c : Bool) (d : ℕ). pick c (ticks_left d st.clock) 0)
      (ap (bit begun) (sym (slot_of s)) ∙ begun_at (s % 16) (s / 16) (omega arith) (omega arith))
      (ap (λ (k : ℕ). get_or deadlines' k 0) (sym (slot_of s)) ∙ ends_at (s % 16) (s / 16) (omega arith) (omega arith)))

  -- ---- STEP 4
  module _ (chosen rest' work' : List ℕ)
      (ran : rest' ≡ row 1024 (λ k. pick (is_in (name_at k) chosen) (get_or rest k 0 - 1) (get_or rest k 0)))
      (off : (st : State) → st.remaining ≡ rest → work' ≡ row 64 (λ s. get_or work s 0 - run_of st (s % 16) (s / 16) chosen)) where
    wait_at : (i : ℕ) → i < 16 → get_or waits' i 0 - 1 ≡ pick (bit named i) (T t i - 1) (wait mid i - 1)
    wait_at i b = ap (λ (w : ℕ). w - 1) (ap (λ (l : List ℕ). get_or l i 0) g.rests ∙ row_at 16 _ i 0 b) ∙ go (bit named i)
      where
        go : (c : Bool) → pick c (T t i) (get_or waits i 0) - 1 ≡ pick c (T t i - 1) (wait mid i - 1)
        go true = refl
        go false = ap (λ (w : ℕ). w - 1) (a.rests i b ∙ sym (released_wait t st named i b))

    job_at_lem : (i p : ℕ) → i < 16 → p < 4 → pick (bit begun (16 * p + i)) (Live (get_or deadlines' (16 * p + i) 0)) Nothing ≡ job_at mid i p
    unfolding live deadline
    job_at_lem i p b c =
        ap₂ (λ (l : Bool) (d : ℕ). pick l (Live d) Nothing) (begun_at i p b c) (ends_at i p b c)
        ∙ parts (job_at mid i p)

    four : (i : ℕ) → i < 16 → length (task_of mid i).jobs ≡ 4
    unfolding task_of released
    four i b = ap (λ (x : TaskState). length x.jobs) (row_at 16 _ i idle b) ∙ length_row 4 _

    places_are : (i : ℕ) → i < 16 → row 4 (place_by begun deadlines' i) ≡ (task_of mid i).jobs
    unfolding job_at
    places_are i b = row_same 4 no_job _ (task_of mid i).jobs (four i b) (λ p c. ap (λ (x : Job). x) (job_at_lem i p b c))

    -- THE STATE AFTER STEP 4
    pub rows_worked : rows_after st.clock st.phase begun deadlines' waits' rest' work' ≡ worked t mid named chosen
    unfolding rows_after worked released
    rows_worked =
        ap₂ (λ (ts : List TaskState) (rs : List ℕ). record { clock = wrap (st.clock + 1); phase = st.phase; tasks = ts; remaining = rs; work = work' }) tasks_are rest_is
        ∙ ap (λ (ws : List ℕ). record { clock = wrap (st.clock + 1); phase = st.phase; tasks = (worked t mid named chosen).tasks; remaining = (worked t mid named chosen).remaining; work = ws }) work_is
      where
        tasks_are : tasks_by begun deadlines' waits' ≡ (worked t mid named chosen).tasks
        tasks_are = row_ext 16 idle _ _ (λ i b. ap₂ (λ (w : ℕ) (js : List Job). record { wait = w; jobs = js }) (wait_at i b) (places_are i b))

        rest_is : rest' ≡ (worked t mid named chosen).remaining
        rest_is = ran ∙ ap (λ (r : List ℕ). row 1024 (λ k. pick (is_in (name_at k) chosen) (get_or r k 0 - 1) (get_or r k 0))) (sym mid_rest)

        work_is : work' ≡ (worked t mid named chosen).work
        work_is = off mid mid_rest ∙ ap (λ (w : List ℕ). row 64 (λ s. get_or w s 0 - run_of mid (s % 16) (s / 16) chosen)) (sym mid_work)

-- ---- STEP 4 goes by the members of the choice alone
module _ (t : Table) (st : State) (named : ℕ) (a b : List ℕ) (same : (k : ℕ) → is_in k a ≡ is_in k b) where
  same_run : (i p : ℕ) → run_of st i p a ≡ run_of st i p b
  unfolding run_of
  same_run i p = sum_same 16 _ _ (λ u q. ap (λ (c : Bool). flag (c && ltb 0 (remaining st i p u))) (same (64 * i + 16 * p + u)))

  pub same_work : worked t st named a ≡ worked t st named b
  unfolding worked
  same_work =
      let f : List ℕ → ℕ → ℕ = λ l k. pick (is_in (name_at k) l) (get_or st.remaining k 0 - 1) (get_or st.remaining k 0) in
      let e : row 1024 (f a) ≡ row 1024 (f b) = row_ext 1024 0 _ _ (λ k h. ap (λ (c : Bool). pick c (get_or st.remaining k 0 - 1) (get_or st.remaining k 0)) (same (name_at k))) in
      let r : List ℕ → ℕ → ℕ = λ l s. get_or st.work s 0 - run_of st (s % 16) (s / 16) l in
      let w : row 64 (r a) ≡ row 64 (r b) = row_ext 64 0 _ _ (λ s h. ap (λ (n : ℕ). get_or st.work s 0 - n) (same_run (s % 16) (s / 16))) in
      rw (e, w) refl
