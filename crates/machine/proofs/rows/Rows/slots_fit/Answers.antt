use Rattle.std.proofs.Common.{ℕ, Bool, ◌%◌, get_or, refl, ◌∙◌, rules, tests}
use Rattle.std.proofs.lemmas.Iterator.{YieldsList-from_range}
use Rattle.std.proofs.lemmas.Iterator.Search.{all_from_yields_List}
use Rattle.table.specs.Memory.{no_task}
use Rattle.machine.specs.Rows.{slot_fits, ticks_of}
use Rattle.machine.proofs.Chains.{all_in_range}
use Rattle.machine.proofs.rows.Rows.slots_fit.Goals as goal

pub returns : goal.returns
returns c =
    let t = c.args.t.now in
    let r = c.args.self.now in
    let fits : ℕ → Bool = λ s. slot_fits t.n (get_or t.tasks (s % 16) no_task) t.costs r.live (ticks_of r) (get_or r.waits (s % 16) 0) (get_or r.work s 0) c.args.remaining.now s in
    all_from_yields_List fits _ _ c.all.result c.all.ensures.ran (YieldsList-from_range 0 64 64 refl refl) (λ x b q k. search (rules, tests)) ∙ all_in_range fits 64
