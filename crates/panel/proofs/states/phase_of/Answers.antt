-- `phase_of` meets its contract: one case for a running state, one for a stopped one.
use mathlib.Core.Path.{refl}
use borrow.Author.Tests.{eq-eqb, ne_eqb}
use Rattle.panel.specs.States.{phase_of}
use Rattle.panel.proofs.states.phase_of.Goals as goal

pub returns-then-stopped-eq0 : goal.returns-then-stopped-eq0
unfolding phase_of
returns-then-stopped-eq0 c = rw (eq-eqb _ _ c.if-stopped-eq0.true) refl

pub returns-else-stopped-eq0 : goal.returns-else-stopped-eq0
unfolding phase_of
returns-else-stopped-eq0 c = rw (ne_eqb _ _ c.if-stopped-eq0.false) refl
