-- `is_phase` meets its contract: one case for a running state, one for any other byte.
use mathlib.Core.Path.{refl}
use borrow.Author.Tests.{eq-eqb, ne_eqb}
use Rattle.panel.specs.States.{proper_phase}
use Rattle.panel.proofs.states.is_phase.Goals as goal

pub returns-then-stopped-eq0 : goal.returns-then-stopped-eq0
unfolding proper_phase
returns-then-stopped-eq0 c = rw (eq-eqb _ _ c.if-stopped-eq0.true) refl

pub returns-else-stopped-eq0 : goal.returns-else-stopped-eq0
unfolding proper_phase
returns-else-stopped-eq0 c = rw (ne_eqb _ _ c.if-stopped-eq0.false) refl
