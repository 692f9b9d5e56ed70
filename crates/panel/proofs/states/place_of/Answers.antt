-- `place_of` meets its contract: one case for a place without a job, one for a live one.
use mathlib.Core.Path.{refl}
use borrow.Author.Tests.{eq-eqb, ne_eqb}
use Rattle.panel.specs.States.{place_of}
use Rattle.panel.proofs.states.place_of.Goals as goal

pub returns-then-live-eq0 : goal.returns-then-live-eq0
unfolding place_of
returns-then-live-eq0 c = rw (eq-eqb _ _ c.if-live-eq0.true) refl

pub returns-else-live-eq0 : goal.returns-else-live-eq0
unfolding place_of
returns-else-live-eq0 c = rw (ne_eqb _ _ c.if-live-eq0.false) refl
