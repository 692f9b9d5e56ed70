use mathlib.Core.Path.{◌∙◌}
use borrow.Author.Tests.{lt-ltb}
use Rattle.journal.proofs.Entries.{many_wide, few_wide}
use Rattle.journal.proofs.walk.is_too_wide.Goals as goal

pub returns-then-t-gt8 : goal.returns-then-t-gt8
returns-then-t-gt8 c = lt-ltb 8 c.args.t.m c.if-t-gt8.true ∙ many_wide _ c.if-t-gt8.true

pub returns-else-t-gt8 : goal.returns-else-t-gt8
returns-else-t-gt8 c = few_wide _ c.if-t-gt8.false
