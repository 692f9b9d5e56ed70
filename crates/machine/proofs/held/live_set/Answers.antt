use Rattle.std.proofs.Common.{ℕ, Bool, rules}
use Rattle.machine.specs.States.{is_live, no_job}
use Rattle.machine.specs.Rows.{job_in, no_task}
use Rattle.machine.proofs.Gathering.{of_all}
use Rattle.machine.proofs.held.live_set.Goals as goal

pub returns : goal.returns
unfolding no_task no_job
returns c =
    let p : ℕ → Bool = λ s. is_live (job_in c.args.states s) in
    of_all p _ (c.passing.ensures p (λ s r b e. search rules))
