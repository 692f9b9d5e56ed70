-- A state of the machine as it crosses the C face: no enum does, so each is set out as a byte, 0 or 1, beside its numbers; and zeros where a struct of
-- C has padding.
use Rattle.std.specs.Prelude.{Bool, ◌&&◌, List, [], ℕ, get_or, replicate, eqb}
use Rattle.graph.specs.Words.{pick, all, row}
use Rattle.machine.specs.declared.Phase.{Phase}
use Rattle.machine.specs.declared.Phase.TheVariants.{Running, Stopped}
use Rattle.machine.specs.declared.Job.{Job}
use Rattle.machine.specs.declared.Job.TheVariants.{Nothing, Live}
use Rattle.machine.specs.declared.TaskState.{TaskState}
use Rattle.machine.specs.declared.State.{State}
use Rattle.machine.specs.States.{no_job, deadline_of, task_of}
use Rattle.panel.specs.declared.FaceJobs.{FaceJobs}
use Rattle.panel.specs.declared.FaceState.{FaceState}

-- "whether it is running or stopped and at which task": 0 and no task, or 1 and the task
unfoldable pub stopped_of : Phase → ℕ
stopped_of Running = 0
stopped_of (Stopped k) = 1

unfoldable pub at_of : Phase → ℕ
at_of Running = 0
at_of (Stopped k) = k

-- M-109: "up to four live jobs, .. each with its own .. deadline": for each age place 0 and no deadline, or 1 and the deadline
unfoldable pub live_of : Job → ℕ
live_of Nothing = 0
live_of (Live d) = 1

unfoldable pub live_flags : List Job → List ℕ
live_flags places = row 4 (λ p. live_of (get_or places p no_job))

unfoldable pub deadlines_of : List Job → List ℕ
deadlines_of places = row 4 (λ p. deadline_of (get_or places p no_job))

-- "The task keeps its wait apart from its jobs."
unfoldable pub face_jobs : TaskState → FaceJobs
face_jobs a = record { wait = a.wait; deadline = deadlines_of a.jobs; live = live_flags a.jobs }

-- THE STATE AS IT CROSSES
unfoldable pub face_of : State → FaceState
face_of st = record {
  work = st.work;
  clock = st.clock;
  stopped = stopped_of st.phase;
  at = at_of st.phase;
  pad = replicate 2 0;
  tasks = row 16 (λ i. face_jobs (task_of st i));
  remaining = st.remaining;
}

-- THE STATE THAT CROSSED. Task i of it:
unfoldable pub no_face_jobs : FaceJobs
no_face_jobs = record { wait = 0; deadline = []; live = [] }

unfoldable pub jobs_at : FaceState → ℕ → FaceJobs
jobs_at s i = get_or s.tasks i no_face_jobs

unfoldable pub phase_of : ℕ → ℕ → Phase
phase_of stopped at = pick (eqb stopped 0) Running (Stopped at)

unfoldable pub place_of : ℕ → ℕ → Job
place_of live deadline = pick (eqb live 0) Nothing (Live deadline)

unfoldable pub jobs_of : FaceJobs → TaskState
jobs_of a = record { wait = a.wait; jobs = row 4 (λ p. place_of (get_or a.live p 0) (get_or a.deadline p 0)) }

unfoldable pub state_of : FaceState → State
state_of s = record {
  clock = s.clock;
  phase = phase_of s.stopped s.at;
  tasks = row 16 (λ i. jobs_of (jobs_at s i));
  remaining = s.remaining;
  work = s.work;
}

-- WHICH ARE STATES: each such byte is 0 or 1, no number stands where the state has none (docs/DECISIONS.md, D33), and padding is zeros. A running one has
-- no task
unfoldable pub proper_phase : ℕ → ℕ → Bool
proper_phase stopped at = pick (eqb stopped 0) (eqb at 0) (eqb stopped 1)

-- a place without a job has no deadline
unfoldable pub proper_place : ℕ → ℕ → Bool
proper_place live deadline = pick (eqb live 0) (eqb deadline 0) (eqb live 1)

unfoldable pub proper_jobs : FaceJobs → Bool
proper_jobs a = all 4 (λ p. proper_place (get_or a.live p 0) (get_or a.deadline p 0))

unfoldable pub is_proper : FaceState → Bool
is_proper s = proper_phase s.stopped s.at && all 2 (λ j. eqb (get_or s.pad j 0) 0) && all 16 (λ i. proper_jobs (jobs_at s i))
