-- `is_place` meets its contract: one case for a place without a job, one for any other byte.
use mathlib.Core.Path.{refl}
use borrow.Author.Tests.{eq-eqb, ne_eqb}
use Rattle.panel.specs.States.{proper_place}
use Rattle.panel.proofs.states.is_place.Goals as goal

pub returns-then-live-eq0 : goal.returns-then-live-eq0
unfolding proper_place
returns-then-live-eq0 c = rw (eq-eqb _ _ c.if-live-eq0.true) refl

pub returns-else-live-eq0 : goal.returns-else-live-eq0
unfolding proper_place
returns-else-live-eq0 c = rw (ne_eqb _ _ c.if-live-eq0.false) refl
