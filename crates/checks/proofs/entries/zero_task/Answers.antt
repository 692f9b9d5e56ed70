use mathlib.Core.Path.{◌∙◌}
use native.Mathlib.Omega.{arith}
use Rattle.checks.proofs.UnusedLaws.{in_some, in_rest}
use Rattle.checks.proofs.entries.zero_task.Goals as goal

pub returns-then-task-ne0 : goal.returns-then-task-ne0
returns-then-task-ne0 c = let a = c.args in in_some a.task a.costs.now a.slot (λ v d t. omega (arith, c.then-task-ne0.either))

pub returns : goal.returns
returns c = let a = c.args in c.zero_from.ensures ∙ in_rest a.task a.costs.now a.slot c.if-task-ne0.false c.if-task-ne0-2.false c.if-task-ne0-3.false
