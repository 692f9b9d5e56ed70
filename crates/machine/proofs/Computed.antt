-- Four places are needed, and what closes a gap: four ticks of one task with D four times T, computed. Three jobs are live and the wait is over; a fourth
-- is released; the oldest ends and the others move up; a fifth is released into the last place; then the oldest misses. The clock wraps on the way.
-- The state fits (`three_fits`), so its tick is step by step the one that is computed here (`admitted_advances`, proofs/Cases.antt).
use Rattle.std.proofs.Common.{◌≡◌, ℕ, ◌-◌, ◌^◌, true, eqb, List, [], ◌∷◌, get_or, replicate, refl}
use Rattle.graph.specs.Words.{flag, pick, bit, sum, all, row_from, row, also_if, those, those_below, is_in, set_of, first_or, lowest_or}
use Rattle.graph.specs.Graph.{edge, done_within, done}
use Rattle.table.specs.declared.Table.{Table}
use Rattle.table.specs.Memory as M
use Rattle.table.specs.Memory.{no_succ, zero_task, no_task, task, vertices, succ, edge_in, cost}
use Rattle.machine.specs.declared.Phase.TheVariants.{Running}
use Rattle.machine.specs.declared.Job.TheVariants.{Live}
use Rattle.machine.specs.declared.Job.{Job}
use Rattle.machine.specs.declared.State.{State}
use Rattle.machine.specs.declared.Ticked.{Ticked}
use Rattle.machine.specs.States.{no_job, idle, task_of, wait, job_at, is_live, deadline_of, live, deadline, jobs_of, remaining, work_of, wrap, ticks_left, left, zeros}
use Rattle.machine.specs.Steps.{task_in, age_in, vertex_in, name_at, is_new, released, clear, available, availables, left_in, before, insert, ranked, own_choice, run_of, worked, finishes, going_on, closed, ended, any_place, finished, missed}
use Rattle.machine.specs.Fitting.{within_cost, nothing_left, whole_behind, work_agrees, fits_job, zero_place, fits_place, spaced, fits_wait, fits_used, zero_task_in, fits_task, fits_phase, fits}
use Rattle.machine.specs.Ticking.{nobody, triple_of, run_list, ticked, judged, advance_to, advance}

-- one task of one vertex, "D up to four times T": cost 8, D 8, T 2; two run at a time
unfoldable pub one_task : Table
one_task = record { m = 2; n = 1; tasks = record { v = 1; d = 8; t = 2; succ = no_succ } ∷ replicate 15 zero_task; costs = 8 ∷ replicate 255 0 }

unfoldable pub due : ℕ → Job
due d = Live d

-- three live jobs with 2, 4 and 6 ticks left, of which 2, 8 and 8 remain; the wait is 0
unfoldable pub three : State
three = record {
  clock = 2 ^ 32 - 3;
  phase = Running;
  tasks = record { wait = 0; jobs = due (2 ^ 32 - 1) ∷ due 1 ∷ due 3 ∷ no_job ∷ [] } ∷ replicate 15 idle;
  remaining = row 1024 (λ k. pick (eqb k 0) 2 (pick (eqb k 256) 8 (pick (eqb k 512) 8 0)));
  work = row 64 (λ s. pick (eqb s 0) 2 (pick (eqb s 16) 8 (pick (eqb s 32) 8 0)));
}

-- of a tick its number, its task, the finished set, and the age places of the first two that ran; of the state after it the number of jobs, the wait
-- and the work at each place
unfoldable pub told : Ticked → List ℕ
told x =
    x.answer.reply.number ∷ x.answer.reply.task ∷ x.answer.finished ∷ (get_or x.answer.ran 0 nobody).age ∷ (get_or x.answer.ran 1 nobody).age
    ∷ jobs_of x.state 0 ∷ wait x.state 0 ∷ row 4 (work_of x.state 0)

-- a tick's steps, without its refusals
unfoldable pub steps : State → ℕ → Ticked
steps st named = advance one_task st named (own_choice one_task (released one_task st named))

unfoldable pub run : List ℕ → Ticked → List (List ℕ)
run [] x = told x ∷ []
run (r ∷ rs) x = told x ∷ run rs (steps x.state r)

pub three_fits : fits one_task three ≡ true
unfolding bit sum flag all row_from row edge done_within done M.D M.T no_succ zero_task no_task task vertices succ edge_in cost no_job idle task_of wait job_at is_live deadline_of live deadline jobs_of remaining work_of wrap ticks_left left clear within_cost nothing_left whole_behind work_agrees fits_job zero_place fits_place spaced fits_wait fits_used zero_task_in fits_task fits_phase fits one_task due three
three_fits = refl

pub four_jobs : run (0 ∷ 1 ∷ 0 ∷ []) (steps three 1)
    ≡ (0 ∷ 255 ∷ 0 ∷ 0 ∷ 1 ∷ 4 ∷ 1 ∷ 1 ∷ 7 ∷ 8 ∷ 8 ∷ [])
    ∷ (0 ∷ 255 ∷ 1 ∷ 0 ∷ 1 ∷ 3 ∷ 0 ∷ 6 ∷ 8 ∷ 8 ∷ 0 ∷ [])
    ∷ (0 ∷ 255 ∷ 0 ∷ 0 ∷ 1 ∷ 4 ∷ 1 ∷ 5 ∷ 7 ∷ 8 ∷ 8 ∷ [])
    ∷ (34 ∷ 0 ∷ 0 ∷ 0 ∷ 1 ∷ 0 ∷ 0 ∷ 0 ∷ 0 ∷ 0 ∷ 0 ∷ [])
    ∷ []
unfolding flag bit sum all row_from row also_if those those_below is_in set_of first_or lowest_or edge done_within done M.D M.T no_succ zero_task no_task task vertices succ edge_in cost no_job idle task_of wait job_at is_live deadline_of live deadline jobs_of remaining work_of wrap ticks_left left zeros task_in age_in vertex_in name_at is_new released clear available availables left_in before insert ranked own_choice run_of worked finishes going_on closed ended any_place finished missed nobody triple_of run_list ticked judged advance_to advance one_task due three told steps run
four_jobs = refl
