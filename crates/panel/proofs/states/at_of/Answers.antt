-- `at_of` meets its contract, by the case of the phase.
use mathlib.Core.Path.{sym, ap}
use Rattle.panel.specs.States.{at_of}
use Rattle.panel.proofs.states.at_of.Goals as goal

pub returns-in-Running : goal.returns-in-Running
unfolding at_of
returns-in-Running c = sym (ap at_of c.in-Running.is)

pub returns-in-Stopped : goal.returns-in-Stopped
unfolding at_of
returns-in-Stopped c = sym (ap at_of c.in-Stopped.is)
