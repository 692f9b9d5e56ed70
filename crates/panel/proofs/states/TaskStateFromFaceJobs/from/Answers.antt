use Rattle.std.proofs.Common.{◌≡◌, refl, rules, get_or}
use Rattle.graph.specs.Words.{row}
use Rattle.machine.specs.States.{no_job}
use Rattle.machine.proofs.Made.{made_row}
use Rattle.panel.specs.States.{place_of, jobs_of}
use Rattle.panel.proofs.states.TaskStateFromFaceJobs.from.Goals as goal

pub returns : goal.returns
unfolding jobs_of
returns c =
    let a = c.args.a in
    let p : c.from_fn.result ≡ row 4 (λ p. place_of (get_or a.live p 0) (get_or a.deadline p 0)) = made_row _ _ _ 4 no_job _ (λ i y q b e. search rules) c.from_fn.ensures.items in
    rw p refl
