use mathlib.Core.Path.{sym, ap}
use Rattle.journal.specs.Rows.{is_stopped}
use Rattle.journal.proofs.walk.is_stopped.Goals as goal

pub returns-in-Stopped : goal.returns-in-Stopped
unfolding is_stopped
returns-in-Stopped c = sym (ap is_stopped c.in-Stopped.is)

pub returns-in_default : goal.returns-in_default
unfolding is_stopped
returns-in_default c = sym (ap is_stopped c.in_default.is)
