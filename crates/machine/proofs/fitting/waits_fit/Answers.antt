use Rattle.std.proofs.Common.{ℕ, Bool, get_or, refl, ◌∙◌, rules, tests}
use Rattle.std.proofs.lemmas.Iterator.{YieldsList-from_range}
use Rattle.std.proofs.lemmas.Iterator.Search.{all_from_yields_List}
use Rattle.table.specs.Memory.{no_task}
use Rattle.machine.specs.Rows.{wait_fits}
use Rattle.machine.proofs.Chains.{all_in_range}
use Rattle.machine.proofs.fitting.waits_fit.Goals as goal

pub returns : goal.returns
unfolding no_task
returns c =
    let a = c.args in
    let fits : ℕ → Bool = λ i. wait_fits a.t.now.n (get_or a.t.now.tasks i no_task).t (get_or a.waits.now i 0) i in
    all_from_yields_List fits _ _ c.all.result c.all.ensures.ran (YieldsList-from_range 0 16 16 refl refl) (λ x b q k. search (rules, tests)) ∙ all_in_range fits 16
