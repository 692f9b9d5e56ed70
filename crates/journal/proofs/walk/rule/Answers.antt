use mathlib.Core.Path.{refl, ap}
use mathlib.Core.Bool.{Bool}
use borrow.Author.Tests.{eq-eqb, ne_eqb}
use Rattle.journal.specs.Judging.{ruling}
use Rattle.journal.proofs.walk.rule.Goals as goal

pub returns-then-p-eq0 : goal.returns-then-p-eq0
unfolding ruling
returns-then-p-eq0 c =
    let p = c.args.p in
    let e = eq-eqb p.number 0 c.if-p-eq0.true in
    rw e (ap (λ (b : Bool). record { number = 0; place = 0; row = 0; rows = p.rows; missed = b }) c.is_stopped.ensures)

pub returns-else-p-eq0 : goal.returns-else-p-eq0
unfolding ruling
returns-else-p-eq0 c =
    let p = c.args.p in
    let e = ne_eqb p.number 0 c.if-p-eq0.false in
    rw e refl
