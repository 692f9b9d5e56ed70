-- WHETHER TWO ANSWERS, OR TWO STATES, ARE EQUAL IS DECIDABLE; and an equality that is only asserted to hold, with no proof handed out (∥ a ≡ b ∥₁),
-- then gives the equality itself. True since both are built from numbers: a thing that has a code, and comes back from it, is equal to another
-- where their codes are equal. The code of a record is the tuple of its fields; that of an enum is a number or two.
use mathlib.Core.Path.{◌≡◌, refl, sym, ap, ◌∙◌}
use mathlib.Core.List.{List-discrete}
use mathlib.Core.Logic.{∥∥₁_elim}
use mathlib.Core.HLevel.{Discrete, ×_discrete, ⊥_prop}
use Prim.Native.Nat.{ℕ, zero, suc}
use native.Mathlib.Decide.{ℕ_discrete}
use Rattle.machine.specs.declared.State.{State}
use Rattle.machine.specs.declared.Phase.{Phase}
use Rattle.machine.specs.declared.Phase.TheVariants.{Running, Stopped}
use Rattle.machine.specs.declared.TaskState.{TaskState}
use Rattle.machine.specs.declared.Job.{Job}
use Rattle.machine.specs.declared.Job.TheVariants.{Nothing, Live}
use Rattle.machine.specs.declared.Answer.{Answer}
use Rattle.machine.specs.declared.Reply.{Reply}
use Rattle.machine.specs.declared.Triple.{Triple}

-- a decidable thing that is asserted to hold does hold
pub out : {P : Type 0} → Dec P → ∥ P ∥₁ → P
out (yes p) h = p
out (no n) h = absurd (∥∥₁_elim h ⊥_prop n)

-- by codes: equal codes come back to equal things
by_code : {A B : Type 0} (code : A → B) (back : B → A) → ((x : A) → back (code x) ≡ x) → Discrete B → Discrete A
by_code {A} {B} code back again d x y = go (d (code x) (code y))
  where
    go : Dec (code x ≡ code y) → Dec (x ≡ y)
    go (yes e) = yes (sym (again x) ∙ ap back e ∙ again y)
    go (no n) = no (λ e. n (ap code e))

-- A PHASE: running is 0, stopped at k is k + 1
phase_code : Phase → ℕ
phase_code Running = 0
phase_code (Stopped k) = suc k

phase_back : ℕ → Phase
phase_back zero = Running
phase_back (suc k) = Stopped k

phase_again : (p : Phase) → phase_back (phase_code p) ≡ p
unfolding phase_code phase_back
phase_again Running = refl
phase_again (Stopped k) = refl

phase_discrete : Discrete Phase
phase_discrete = by_code phase_code phase_back phase_again ℕ_discrete

-- A JOB: none is 0, a live one is its deadline + 1
job_code : Job → ℕ
job_code Nothing = 0
job_code (Live d) = suc d

job_back : ℕ → Job
job_back zero = Nothing
job_back (suc d) = Live d

job_again : (j : Job) → job_back (job_code j) ≡ j
unfolding job_code job_back
job_again Nothing = refl
job_again (Live d) = refl

place_discrete : Discrete Job
place_discrete =
    by_code (λ p. job_code p) (λ c. job_back c)
    (λ p. ap (λ (j : Job). j) (job_again p))
    ℕ_discrete

-- A TASK: its wait and its places
task_discrete : Discrete TaskState
task_discrete =
    by_code (λ t. (t.wait, t.jobs)) (λ c. record { wait = c.0; jobs = c.1 }) (λ t. refl)
    (×_discrete ℕ_discrete (List-discrete place_discrete))

-- A STATE
pub state_discrete : Discrete State
state_discrete =
    by_code (λ s. (s.clock, (s.phase, (s.tasks, (s.remaining, s.work)))))
    (λ c. record { clock = c.0; phase = c.1.0; tasks = c.1.1.0; remaining = c.1.1.1.0; work = c.1.1.1.1 }) (λ s. refl)
    (×_discrete ℕ_discrete (×_discrete phase_discrete (×_discrete (List-discrete task_discrete)
    (×_discrete (List-discrete ℕ_discrete) (List-discrete ℕ_discrete)))))

-- AN ANSWER
reply_discrete : Discrete Reply
reply_discrete =
    by_code (λ r. (r.number, (r.place, r.task))) (λ c. record { number = c.0; place = c.1.0; task = c.1.1 }) (λ r. refl)
    (×_discrete ℕ_discrete (×_discrete ℕ_discrete ℕ_discrete))

triple_discrete : Discrete Triple
triple_discrete =
    by_code (λ x. (x.task, (x.age, x.vertex))) (λ c. record { task = c.0; age = c.1.0; vertex = c.1.1 }) (λ x. refl)
    (×_discrete ℕ_discrete (×_discrete ℕ_discrete ℕ_discrete))

pub answer_discrete : Discrete Answer
answer_discrete =
    by_code (λ a. (a.reply, (a.ran, a.finished))) (λ c. record { reply = c.0; ran = c.1.0; finished = c.1.1 }) (λ a. refl)
    (×_discrete reply_discrete (×_discrete (List-discrete triple_discrete) ℕ_discrete))
