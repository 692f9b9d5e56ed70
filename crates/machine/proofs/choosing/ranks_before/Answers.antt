use Rattle.std.proofs.Common.{ℕ, ◌&&◌, ◌||◌, eqb, ltb, get_or, ◌∙◌, ap₂}
use Rattle.machine.specs.Rows.{before_by}
use Rattle.machine.proofs.Leading.{pair_before}
use Rattle.machine.proofs.choosing.ranks_before.Goals as goal

pub returns : goal.returns
unfolding before_by
returns c =
    let a = c.args in
    let x = get_or a.ticks.now a.a 0 in
    let y = get_or a.ticks.now a.b 0 in
    c.lt.ensures
    ∙ pair_before (ltb x y) (eqb x y) (ltb c.order_of.result c.order_of-2.result) (eqb c.order_of.result c.order_of-2.result)
    ∙ ap₂ (λ (i j : ℕ). ltb x y || (eqb x y && ltb i j)) c.order_of.ensures c.order_of-2.ensures
