use Rattle.std.proofs.Common.{◌≡◌, refl, rules}
use Rattle.machine.specs.States.{no_job}
use Rattle.machine.proofs.Made.{made_row}
use Rattle.panel.specs.States.{live_flags, deadlines_of, face_jobs}
use Rattle.panel.proofs.Answers.{live_byte}
use Rattle.panel.proofs.states.FaceJobsFromTaskState.from.Goals as goal

pub returns : goal.returns
unfolding face_jobs live_flags deadlines_of no_job
returns c =
    let a = c.args.a in
    let d : c.from_fn.result ≡ deadlines_of a.jobs = made_row _ _ _ 4 0 _ (λ i y q b e. search rules) c.from_fn.ensures.items in
    let l : c.from_fn-2.result ≡ live_flags a.jobs = made_row _ _ _ 4 0 _ (λ i y q b e. search (rules, live_byte)) c.from_fn-2.ensures.items in
    rw (d, l) refl
