use mathlib.Core.Path.{sym, ap, ◌∙◌}
use Rattle.std.specs.Int.{from_bool}
use Rattle.panel.specs.States.{stopped_of}
use Rattle.panel.proofs.states.stopped_of.Goals.{in-Stopped, in_default}
use Rattle.panel.proofs.states.stopped_of.Goals as goal

pub returns : goal.returns
unfolding stopped_of
returns c = c.from.ensures ∙ elim c.match-matches.branch [
  | in-Stopped w ↦ ap from_bool w.matches-is ∙ sym (ap stopped_of w.in-Stopped.is)
  | in_default w ↦ ap from_bool w.matches-is ∙ sym (ap stopped_of w.in_default.is)
]
