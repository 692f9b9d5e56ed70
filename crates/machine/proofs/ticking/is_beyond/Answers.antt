use Rattle.std.proofs.Common.{refl, eq-eqb, ne_eqb}
use Rattle.graph.specs.Words.{bit}
use Rattle.machine.proofs.ticking.is_beyond.Goals as goal

pub returns-then-named-i-eq1 : goal.returns-then-named-i-eq1
unfolding bit
returns-then-named-i-eq1 c = rw (eq-eqb _ _ c.if-named-i-eq1.true) refl

pub returns-else-named-i-eq1 : goal.returns-else-named-i-eq1
unfolding bit
returns-else-named-i-eq1 c = rw (ne_eqb _ _ c.if-named-i-eq1.false) refl
