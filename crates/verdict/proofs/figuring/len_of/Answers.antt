use mathlib.Core.Path.{ap, ◌∙◌}
use mathlib.Core.List.{List}
use Prim.Native.Nat.{ℕ}
use Rattle.graph.specs.Graph.{longest_of}
use Rattle.verdict.proofs.figuring.len_of.Goals as goal

pub returns : goal.returns
returns c = c.longest.ensures ∙ ap (λ (own : List ℕ). longest_of c.args.succ own) c.own_costs.ensures
