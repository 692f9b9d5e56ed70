use Rattle.std.proofs.Common.{rules}
use Rattle.machine.specs.States.{deadline_of, no_job}
use Rattle.machine.specs.Rows.{job_in, no_task}
use Rattle.machine.proofs.held.deadlines_of.Goals as goal

pub returns : goal.returns
unfolding no_task no_job
returns c = c.at_slots.ensures (λ s. deadline_of (job_in c.args.states s)) (λ s r b e. search rules)
