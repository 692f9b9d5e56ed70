-- There are sixteen tasks, so no read is past them.
use Rattle.std.proofs.Common.{◌≡◌, length, get_or, refl, ap, rules, arith}
use Rattle.graph.specs.Words.{row}
use Rattle.machine.specs.States.{idle, task_of}
use Rattle.machine.specs.Rows.{no_task}
use Rattle.machine.proofs.Apart.{inside}
use Rattle.machine.proofs.Filling.{length_mapped, row_ext}
use Rattle.machine.proofs.Made.{made_row}
use Rattle.panel.specs.States.{no_face_jobs, face_jobs, face_of}
use Rattle.panel.proofs.states.FaceStateFromState.from.Goals as goal

pub returns : goal.returns
unfolding face_of task_of no_task
returns c =
    let st = c.args.st in
    let n : length st.tasks ≡ 16 = search (length_mapped, rules) in
    let t : c.from_fn.result ≡ row 16 (λ i. face_jobs (get_or st.tasks i no_task)) = made_row _ _ _ 16 no_face_jobs _ (λ i y q b e. search rules) c.from_fn.ensures.items in
    let u : row 16 (λ i. face_jobs (get_or st.tasks i no_task)) ≡ row 16 (λ i. face_jobs (get_or st.tasks i idle))
    = row_ext 16 no_face_jobs _ _ (λ i b. ap face_jobs (inside st.tasks i no_task idle (omega arith))) in
    rw (c.stopped_of.ensures, c.at_of.ensures, t, u) refl
