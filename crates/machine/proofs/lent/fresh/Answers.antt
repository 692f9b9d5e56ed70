use Rattle.std.proofs.Common.{rules}
use Rattle.machine.specs.Rows.{is_new_by}
use Rattle.machine.proofs.Putting.{none_new}
use Rattle.machine.proofs.Gathering.{of_all}
use Rattle.machine.proofs.lent.fresh.Goals as goal

pub returns-then-named-eq0 : goal.returns-then-named-eq0
returns-then-named-eq0 c = none_new c.args.live c.args.named c.if-named-eq0.true

pub returns : goal.returns
returns c =
    let p = is_new_by c.args.live c.args.named in
    of_all p _ (c.passing.ensures p (λ s r b e. search rules))
