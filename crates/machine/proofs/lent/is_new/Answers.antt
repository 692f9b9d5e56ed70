use Rattle.std.proofs.Common.{◌/◌, eqb, ap, ◌∙◌, eq-eqb, ne_eqb}
use Rattle.graph.specs.Words.{bit}
use Rattle.machine.proofs.Putting.{new_off, new_on}
use Rattle.machine.proofs.lent.is_new.Goals as goal

pub returns-then-named-s-eq1 : goal.returns-then-named-s-eq1
unfolding bit
returns-then-named-s-eq1 c = let a = c.args in ap (eqb (a.s / 16)) c.places_used.ensures ∙ new_on a.live a.named a.s (eq-eqb _ _ c.if-named-s-eq1.true)

pub returns-else-named-s-eq1 : goal.returns-else-named-s-eq1
unfolding bit
returns-else-named-s-eq1 c = let a = c.args in rw (ne_eqb _ _ c.if-named-s-eq1.false) (new_off a.live a.named a.s (ne_eqb _ _ c.if-named-s-eq1.false))
