use Rattle.std.proofs.Common.{◌≡◌, ℕ, ◌+◌, ◌*◌, ◌-◌, ap, ◌∙◌, take, drop, arith, rules}
use Rattle.verdict.proofs.Figured.{costs_row, costs_none}
use Rattle.verdict.proofs.figuring.own_costs.Goals as goal

pub returns-then-i-lt16 : goal.returns-then-i-lt16
returns-then-i-lt16 c =
    let costs = c.args.costs.now in
    let i = c.args.i in
    let e : 16 * i + 16 - 16 * i ≡ 16 = omega arith in
    c.copy_from_slice.ensures.after ∙ ap (λ (n : ℕ). take n (drop (16 * i) costs)) e ∙ costs_row costs i c.told-costs c.if-i-lt16.true

pub returns-else-i-lt16 : goal.returns-else-i-lt16
returns-else-i-lt16 c = costs_none c.args.costs.now _ (search rules) (omega arith)
