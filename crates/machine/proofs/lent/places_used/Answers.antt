use Rattle.std.proofs.Common.{ℕ, ◌+◌, ◌*◌, Bool, refl, ◌∙◌, rules, tests}
use Rattle.std.proofs.lemmas.Iterator.{YieldsList-from_range}
use Rattle.std.proofs.lemmas.Iterator.Consumers.{YieldsList-from_filter, count_from_yields_List}
use Rattle.graph.specs.Words.{bit}
use Rattle.machine.specs.Rows.{used_by}
use Rattle.machine.proofs.Chains.{counted}
use Rattle.machine.proofs.lent.places_used.Goals as goal

pub returns : goal.returns
unfolding used_by bit
returns c =
    let a = c.args in
    let used : ℕ → Bool = λ p. bit a.live (16 * p + a.i) in
    count_from_yields_List _ c.count.result c.count.ensures.ran
    (YieldsList-from_filter _ used (YieldsList-from_range 0 4 4 c.filter.ensures.source refl) c.filter.ensures.closure (λ x b q k. search (rules, tests)))
    ∙ counted used 4
