-- Above sixteen, or counted.
use mathlib.Core.Path.{◌∙◌}
use native.Mathlib.Omega.{arith}
use Rattle.checks.proofs.TestLaws.{edges_past, edges_counted}
use Rattle.checks.proofs.checking.edges_of.Goals as goal

pub returns-then-v-gt16 : goal.returns-then-v-gt16
returns-then-v-gt16 c = edges_past _ _ (omega arith)

pub returns : goal.returns
returns c = c.edge_count.ensures.0 ∙ edges_counted _ _ (omega arith)
