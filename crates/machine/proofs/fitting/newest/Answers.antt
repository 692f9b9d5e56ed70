use Rattle.machine.proofs.Judging.{newest_then, newest_else}
use Rattle.std.proofs.Common.{sym, ◌∙◌}
use Rattle.machine.proofs.fitting.newest.Goals as goal

pub returns-then-followed : goal.returns-then-followed
returns-then-followed c = c.if-followed.true ∙ newest_then _ _ _ _ _ _ (sym c.followed.ensures ∙ c.if-followed.true)

pub returns-else-followed : goal.returns-else-followed
returns-else-followed c = rw (c.from.ensures, c.from-else-followed.ensures, c.from-else-followed-2.ensures, c.from-else-followed-3.ensures) (newest_else _ _ _ _ _ _ (sym c.followed.ensures ∙ c.if-followed.false))
