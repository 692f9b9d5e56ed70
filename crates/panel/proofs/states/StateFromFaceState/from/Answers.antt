-- What is handed over has rows of their lengths, so a face state that is a state crosses back as it came.
use Rattle.std.proofs.Common.{◌≡◌, refl, rules, List}
use Rattle.graph.specs.Words.{row}
use Rattle.machine.specs.declared.Phase.{Phase}
use Rattle.machine.specs.declared.TaskState.{TaskState}
use Rattle.machine.specs.States.{idle}
use Rattle.machine.proofs.Made.{made_row}
use Rattle.panel.specs.declared.FaceState.{FaceState}
use Rattle.panel.specs.States.{no_face_jobs, jobs_at, jobs_of, phase_of, state_of}
use Rattle.panel.proofs.Crossing.{back_and_there}
use Rattle.panel.proofs.Owning.{sized}
use Rattle.panel.proofs.states.StateFromFaceState.from.Goals as goal

made : (s : FaceState) (p : Phase) (ts : List TaskState) → p ≡ phase_of s.stopped s.at → ts ≡ row 16 (λ i. jobs_of (jobs_at s i))
    → record { clock = s.clock; phase = p; tasks = ts; remaining = s.remaining; work = s.work } ≡ state_of s
unfolding state_of
made s p ts e q = rw (e, q) refl

pub returns : goal.returns
unfolding jobs_at no_face_jobs
returns c =
    let s = c.args.s in
    let t : c.from_fn.result ≡ row 16 (λ i. jobs_of (jobs_at s i)) = made_row _ _ _ 16 idle _ (λ i y q b e. search rules) c.from_fn.ensures.items in
    (made s _ _ c.phase_of.ensures t, back_and_there s (sized s _ c.well_formed.0))
