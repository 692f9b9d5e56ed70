use mathlib.Core.Path.{sym, ◌∙◌}
use Rattle.chains.proofs.Placed.{cycle_answer}
use Rattle.chains.proofs.listing.longest_chain.Goals as goal

pub returns-else-is_acyclic : goal.returns-else-is_acyclic
returns-else-is_acyclic c =
    let a = c.args in
    cycle_answer a.succ a.times (sym c.is_acyclic.ensures ∙ c.if-is_acyclic.false)
