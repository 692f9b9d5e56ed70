-- The tasks taken out of the state are asked; there are sixteen, so no read is past them.
use Rattle.std.proofs.Common.{◌≡◌, ◌/◌, ◌%◌, length, get_or, ap, ◌∙◌, arith, rules}
use Rattle.machine.specs.declared.TaskState.{TaskState}
use Rattle.machine.specs.States.{no_job, idle, task_of, job_at, is_live, live}
use Rattle.machine.specs.Rows.{no_task}
use Rattle.machine.proofs.Filling.{length_mapped}
use Rattle.machine.proofs.Apart.{inside}
use Rattle.machine.proofs.Filling.{set_ext}
use Rattle.machine.proofs.showing.live_slots.Goals as goal

pub returns : goal.returns
unfolding live job_at task_of
returns c =
    let st = c.args.st in
    let n : length st.tasks ≡ 16 = search (length_mapped, rules) in
    c.live_set.ensures
    ∙ set_ext 64 _ _ (λ s b. ap (λ (x : TaskState). is_live (get_or x.jobs (s / 16) no_job)) (inside st.tasks (s % 16) no_task idle (omega arith)))
