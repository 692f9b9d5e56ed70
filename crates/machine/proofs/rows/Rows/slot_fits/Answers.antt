use Rattle.machine.proofs.Judging.{slot_zero, slot_past, slot_live}
use Rattle.std.proofs.Common.{◌∙◌, arith, eq-eqb, ne_eqb, le-ltb}
use Rattle.graph.specs.Words.{bit}
use Rattle.machine.proofs.rows.Rows.slot_fits.Goals as goal

pub returns-then-self-s-ne1 : goal.returns-then-self-s-ne1
unfolding bit
returns-then-self-s-ne1 c = c.zero_place.ensures ∙ slot_zero _ _ _ _ _ _ _ _ _ (ne_eqb _ _ c.if-self-s-ne1.true)

pub returns-then-s-from : goal.returns-then-s-from
unfolding bit
returns-then-s-from c = c.live_fits.ensures ∙ slot_live _ _ _ _ _ _ _ _ _ (eq-eqb _ _ c.if-self-s-ne1.false) (omega (arith, c.from.ensures))

pub returns-else-s-from : goal.returns-else-s-from
unfolding bit
returns-else-s-from c = le-ltb _ _ c.if-s-from.false ∙ slot_past _ _ _ _ _ _ _ _ _ (eq-eqb _ _ c.if-self-s-ne1.false) (omega (arith, c.from.ensures))
