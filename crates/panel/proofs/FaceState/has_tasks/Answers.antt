use Rattle.std.proofs.Common.{rules, tests, ◌∙◌}
use Rattle.std.proofs.lemmas.Iterator.{YieldsList-from_slice}
use Rattle.std.proofs.lemmas.Iterator.Search.{all_from_yields_List}
use Rattle.machine.proofs.Filling.{length_mapped}
use Rattle.panel.specs.States.{no_face_jobs, jobs_at, proper_jobs}
use Rattle.panel.proofs.Lists.{all_of_list}
use Rattle.panel.proofs.FaceState.has_tasks.Goals as goal

pub returns : goal.returns
unfolding jobs_at
returns c =
    let tasks = c.args.self.now.tasks in
    all_from_yields_List proper_jobs _ _ c.all.result c.all.ensures.ran (YieldsList-from_slice tasks cc) (λ x b q k. search (rules, tests))
    ∙ all_of_list proper_jobs no_face_jobs 16 tasks (search (length_mapped, rules))
