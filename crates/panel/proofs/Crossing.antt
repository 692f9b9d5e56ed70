-- A state crosses the C face and comes back as it was, both ways: of the machine's states, and of those face states that are one. So does a table.
use mathlib.Core.Path.{◌≡◌, refl, sym, ap, ap₂, ◌∙◌}
use mathlib.Core.Bool.{Bool, true, false, ◌&&◌}
use mathlib.Core.List.{List}
use Prim.Native.Nat.{ℕ, ◌<◌}
use lib.ListN.{length, get_or, replicate}
use lib.Seq.{ext_get_or}
use lib.Dec.{eqb}
use borrow.Author.Tests.{eqb-true}
use Rattle.graph.specs.Words.{pick, all, row}
use Rattle.graph.proofs.Facts.{row_at, all_at, all_of, both_true, and_true}
use Rattle.table.specs.declared.Task.{Task}
use Rattle.table.specs.declared.Table.{Table}
use Rattle.table.specs.Memory.{no_task, task}
use Rattle.machine.specs.declared.Phase.{Phase}
use Rattle.machine.specs.declared.Phase.TheVariants.{Running, Stopped}
use Rattle.machine.specs.declared.Job.{Job}
use Rattle.machine.specs.declared.Job.TheVariants.{Nothing, Live}
use Rattle.machine.specs.declared.TaskState.{TaskState}
use Rattle.machine.specs.declared.State.{State}
use Rattle.machine.specs.States.{no_job, idle, task_of, deadline_of}
use Rattle.machine.proofs.Filling.{row_same, same_throughout}
use Rattle.panel.specs.declared.FaceJobs.{FaceJobs}
use Rattle.panel.specs.declared.FaceState.{FaceState}
use Rattle.panel.specs.Tables.{face_task, table_face, no_face_task, table_of}
use Rattle.panel.specs.Tables.{task_of as crossedTask}
use Rattle.panel.specs.States.{stopped_of, at_of, live_of, live_flags, deadlines_of, face_jobs, face_of, no_face_jobs, jobs_at, phase_of, place_of, jobs_of, state_of, proper_phase, proper_place, proper_jobs, is_proper}

-- ---- from the machine and back
phase_back : (p : Phase) → phase_of (stopped_of p) (at_of p) ≡ p
unfolding phase_of stopped_of at_of
phase_back Running = refl
phase_back (Stopped k) = refl

place_back : (j : Job) → place_of (live_of j) (deadline_of j) ≡ j
unfolding place_of live_of deadline_of
place_back Nothing = refl
place_back (Live d) = refl

jobs_back : (a : TaskState) → length a.jobs ≡ 4 → jobs_of (face_jobs a) ≡ a
unfolding jobs_of face_jobs live_flags deadlines_of
jobs_back a n =
    ap (λ (l : List Job). record { wait = a.wait; jobs = l })
    (row_same 4 no_job _ a.jobs n (λ p b. ap₂ place_of (row_at 4 _ p 0 b) (row_at 4 _ p 0 b) ∙ place_back (get_or a.jobs p no_job)))

module _ (st : State) where
  jobs_there : (i : ℕ) → i < 16 → jobs_at (face_of st) i ≡ face_jobs (task_of st i)
  unfolding jobs_at face_of
  jobs_there i b = row_at 16 _ i no_face_jobs b

  same_phase : phase_of (face_of st).stopped (face_of st).at ≡ st.phase
  unfolding face_of
  same_phase = phase_back st.phase

  -- WHAT THE MACHINE HANDS OUT comes back as the same state
  pub there_and_back : length st.tasks ≡ 16 → ((i : ℕ) → i < 16 → length (task_of st i).jobs ≡ 4) → state_of (face_of st) ≡ st
  unfolding state_of task_of face_of
  there_and_back n four =
      ap₂ (λ (p : Phase) (ts : List TaskState). record { clock = st.clock; phase = p; tasks = ts; remaining = st.remaining; work = st.work }) same_phase
      (row_same 16 idle _ st.tasks n (λ i b. ap jobs_of (jobs_there i b) ∙ jobs_back (task_of st i) (four i b)))

-- ---- it is a state as it crosses
phase_proper : (p : Phase) → proper_phase (stopped_of p) (at_of p) ≡ true
unfolding proper_phase stopped_of at_of
phase_proper Running = refl
phase_proper (Stopped k) = refl

place_proper : (j : Job) → proper_place (live_of j) (deadline_of j) ≡ true
unfolding proper_place live_of deadline_of
place_proper Nothing = refl
place_proper (Live d) = refl

jobs_proper : (a : TaskState) → proper_jobs (face_jobs a) ≡ true
unfolding proper_jobs face_jobs live_flags deadlines_of
jobs_proper a = all_of 4 _ (λ p b. ap₂ proper_place (row_at 4 _ p 0 b) (row_at 4 _ p 0 b) ∙ place_proper (get_or a.jobs p no_job))

there_proper : (st : State) → proper_phase (face_of st).stopped (face_of st).at ≡ true
unfolding face_of
there_proper st = phase_proper st.phase

there_padded : (st : State) → all 2 (λ j. eqb (get_or (face_of st).pad j 0) 0) ≡ true
unfolding face_of all
there_padded st = refl

pub face_proper : (st : State) → is_proper (face_of st) ≡ true
unfolding is_proper
face_proper st =
    and_true _ _ (and_true _ _ (there_proper st) (there_padded st))
    (all_of 16 _ (λ i b. ap proper_jobs (jobs_there st i b) ∙ jobs_proper (task_of st i)))

-- ---- the three tests, one after the other
module _ (f : FaceState) where
  pub proper_stop : proper_phase f.stopped f.at ≡ false → false ≡ is_proper f
  unfolding is_proper
  proper_stop e = rw e refl

  pub proper_pad_stop : proper_phase f.stopped f.at ≡ true → all 2 (λ j. eqb (get_or f.pad j 0) 0) ≡ false → false ≡ is_proper f
  unfolding is_proper
  proper_pad_stop e p = rw (e, p) refl

  pub proper_go : (b : Bool) → proper_phase f.stopped f.at ≡ true → all 2 (λ j. eqb (get_or f.pad j 0) 0) ≡ true
      → b ≡ all 16 (λ i. proper_jobs (jobs_at f i)) → b ≡ is_proper f
  unfolding is_proper
  proper_go b e p q = q ∙ rw (e, p) refl

-- ---- from the face and back
stopped_there : (s k : ℕ) → proper_phase s k ≡ true → stopped_of (phase_of s k) ≡ s
unfolding proper_phase phase_of stopped_of
stopped_there s k h = go (eqb s 0) refl
  where
    go : (b : Bool) → eqb s 0 ≡ b → stopped_of (pick b Running (Stopped k)) ≡ s
    go true e = sym (eqb-true s 0 e)
    go false e = sym (eqb-true s 1 (rw e at h))

at_there : (s k : ℕ) → proper_phase s k ≡ true → at_of (phase_of s k) ≡ k
unfolding proper_phase phase_of at_of
at_there s k h = go (eqb s 0) refl
  where
    go : (b : Bool) → eqb s 0 ≡ b → at_of (pick b Running (Stopped k)) ≡ k
    go true e = sym (eqb-true k 0 (rw e at h))
    go false e = refl

live_there : (l d : ℕ) → proper_place l d ≡ true → live_of (place_of l d) ≡ l
unfolding proper_place place_of live_of
live_there l d h = go (eqb l 0) refl
  where
    go : (b : Bool) → eqb l 0 ≡ b → live_of (pick b Nothing (Live d)) ≡ l
    go true e = sym (eqb-true l 0 e)
    go false e = sym (eqb-true l 1 (rw e at h))

deadline_there : (l d : ℕ) → proper_place l d ≡ true → deadline_of (place_of l d) ≡ d
unfolding proper_place place_of deadline_of
deadline_there l d h = go (eqb l 0) refl
  where
    go : (b : Bool) → eqb l 0 ≡ b → deadline_of (pick b Nothing (Live d)) ≡ d
    go true e = sym (eqb-true d 0 (rw e at h))
    go false e = refl

module _ (a : FaceJobs) (h : proper_jobs a ≡ true) where
  proper_place_lem : (p : ℕ) → p < 4 → proper_place (get_or a.live p 0) (get_or a.deadline p 0) ≡ true
  unfolding proper_jobs
  proper_place_lem p b = all_at 4 (λ q. proper_place (get_or a.live q 0) (get_or a.deadline q 0)) h p b

  place_there : (p : ℕ) → p < 4 → get_or (jobs_of a).jobs p no_job ≡ place_of (get_or a.live p 0) (get_or a.deadline p 0)
  unfolding jobs_of
  place_there p b = row_at 4 _ p no_job b

  same_deadlines : length a.deadline ≡ 4 → deadlines_of (jobs_of a).jobs ≡ a.deadline
  unfolding deadlines_of
  same_deadlines n = row_same 4 0 _ a.deadline n (λ p b. ap (λ (x : Job). deadline_of x) (place_there p b) ∙ deadline_there _ _ (proper_place_lem p b))

  same_lives : length a.live ≡ 4 → live_flags (jobs_of a).jobs ≡ a.live
  unfolding live_flags
  same_lives n = row_same 4 0 _ a.live n (λ p b. ap (λ (x : Job). live_of x) (place_there p b) ∙ live_there _ _ (proper_place_lem p b))

  jobs_there_back : length a.deadline ≡ 4 → length a.live ≡ 4 → face_jobs (jobs_of a) ≡ a
  unfolding face_jobs jobs_of
  jobs_there_back n m = ap₂ (λ (d l : List ℕ). record { wait = a.wait; deadline = d; live = l }) (same_deadlines n) (same_lives m)

-- the rows of a face state have their lengths, as those of any that is handed over have (Owning.antt)
pub record Sized (f : FaceState) : Type 0 where
  pub rows : length f.tasks ≡ 16
  pub pads : length f.pad ≡ 2
  pub deadlines : (i : ℕ) → i < 16 → length (jobs_at f i).deadline ≡ 4
  pub lives : (i : ℕ) → i < 16 → length (jobs_at f i).live ≡ 4

pad_back : (l : List ℕ) → length l ≡ 2 → all 2 (λ j. eqb (get_or l j 0) 0) ≡ true → replicate 2 0 ≡ l
pad_back l n h =
    ext_get_or 0 (replicate 2 0) l (sym n) (λ k b. same_throughout 2 k 0 ∙ sym (eqb-true (get_or l k 0) 0 (all_at 2 (λ j. eqb (get_or l j 0) 0) h k b)))

module _ (f : FaceState) (n : Sized f) (h : is_proper f ≡ true) where
  tests : (proper_phase f.stopped f.at && all 2 (λ j. eqb (get_or f.pad j 0) 0) ≡ true) × (all 16 (λ i. proper_jobs (jobs_at f i)) ≡ true)
  unfolding is_proper
  tests = both_true (proper_phase f.stopped f.at && all 2 (λ j. eqb (get_or f.pad j 0) 0)) (all 16 (λ i. proper_jobs (jobs_at f i))) h

  first_tests : (proper_phase f.stopped f.at ≡ true) × (all 2 (λ j. eqb (get_or f.pad j 0) 0) ≡ true)
  first_tests = both_true _ _ tests.0

  task_there : (i : ℕ) → i < 16 → task_of (state_of f) i ≡ jobs_of (jobs_at f i)
  unfolding task_of state_of
  task_there i b = row_at 16 _ i idle b

  same_tasks : row 16 (λ i. face_jobs (task_of (state_of f) i)) ≡ f.tasks
  unfolding jobs_at
  same_tasks = row_same 16 no_face_jobs _ f.tasks n.rows
      (λ i b. ap face_jobs (task_there i b) ∙ jobs_there_back (jobs_at f i) (all_at 16 (λ j. proper_jobs (jobs_at f j)) tests.1 i b) (n.deadlines i b) (n.lives i b))

  same_stopped : stopped_of (state_of f).phase ≡ f.stopped
  unfolding state_of
  same_stopped = stopped_there f.stopped f.at first_tests.0

  same_at : at_of (state_of f).phase ≡ f.at
  unfolding state_of
  same_at = at_there f.stopped f.at first_tests.0

  abbrev with_these : ℕ → ℕ → List ℕ → List FaceJobs → FaceState
  with_these s k pad ts = record { work = f.work; clock = f.clock; stopped = s; at = k; pad = pad; tasks = ts; remaining = f.remaining }

  -- WHAT CROSSED AND IS A STATE is handed back as it came
  pub back_and_there : face_of (state_of f) ≡ f
  unfolding face_of state_of
  back_and_there =
      ap₂ (λ (s k : ℕ). with_these s k (replicate 2 0) (row 16 (λ i. face_jobs (task_of (state_of f) i)))) same_stopped same_at
      ∙ ap₂ (with_these f.stopped f.at) (pad_back f.pad n.pads first_tests.1) same_tasks

-- ---- A TABLE that is handed out comes back as the same table
task_back : (a : Task) → crossedTask (face_task a) ≡ a
unfolding crossedTask face_task
task_back a = refl

pub table_there_and_back : (t : Table) → length t.tasks ≡ 16 → table_of (table_face t) ≡ t
unfolding table_of table_face task
table_there_and_back t n =
    ap (λ (ts : List Task). record { m = t.m; n = t.n; tasks = ts; costs = t.costs })
    (row_same 16 no_task _ t.tasks n (λ i b. ap crossedTask (row_at 16 _ i no_face_task b) ∙ task_back (task t i)))
