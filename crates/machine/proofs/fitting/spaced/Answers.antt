use Rattle.machine.proofs.Judging.{spaced_oldest, spaced_gap, spaced_by_lem}
use Rattle.std.proofs.Common.{arith, ◌∙◌, eq-eqb, ne_eqb}
use Rattle.graph.specs.Words.{bit}
use Rattle.machine.proofs.fitting.spaced.Goals as goal

pub returns-then-s-lt16 : goal.returns-then-s-lt16
returns-then-s-lt16 c = spaced_oldest _ _ _ _ (omega arith)

pub returns-else-live-before-eq1 : goal.returns-else-live-before-eq1
unfolding bit
returns-else-live-before-eq1 c = ne_eqb _ _ c.if-live-before-eq1.false ∙ spaced_gap c.args.live c.args.s _ _ (omega arith) (ne_eqb _ _ c.if-live-before-eq1.false)

pub returns-then-live-before-eq1 : goal.returns-then-live-before-eq1
unfolding bit
returns-then-live-before-eq1 c =
    let a = c.args in
    rw (c.from.ensures, c.from-then-live-before-eq1.ensures, c.from-then-live-before-eq1-2.ensures)
    (spaced_by_lem a.live a.s a.ticks.now a.period (omega arith) (eq-eqb _ _ c.if-live-before-eq1.true))
