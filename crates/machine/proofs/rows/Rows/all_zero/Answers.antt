use Rattle.std.proofs.Common.{ℕ, Bool, get_or, refl, ◌∙◌, rules, tests}
use Rattle.std.proofs.lemmas.Iterator.{YieldsList-from_range}
use Rattle.std.proofs.lemmas.Iterator.Search.{all_from_yields_List}
use Rattle.graph.specs.Words.{bit}
use Rattle.slots.specs.Slots.{zero_place}
use Rattle.machine.proofs.Chains.{all_in_range}
use Rattle.machine.proofs.rows.Rows.all_zero.Goals as goal

pub returns : goal.returns
unfolding bit
returns c =
    let r = c.args.self.now in
    let zero : ℕ → Bool = λ s. zero_place (bit r.live s) (get_or r.work s 0) c.args.remaining.now s in
    all_from_yields_List zero _ _ c.all.result c.all.ensures.ran (YieldsList-from_range 0 64 64 refl refl) (λ x b q k. search (rules, tests)) ∙ all_in_range zero 64
