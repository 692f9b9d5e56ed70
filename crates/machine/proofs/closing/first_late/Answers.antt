use Rattle.std.proofs.Common.{Some, None, ◌∙◌, ◌&&◌, eqb, get_or, rules}
use Rattle.graph.specs.Words.{bit}
use Rattle.machine.proofs.Found.{lowest_same}
use Rattle.machine.proofs.Gathering.{tasks_with}
use Rattle.machine.proofs.closing.first_late.Goals as goal

pub returns : goal.returns
returns c =
    let a = c.args in
    c.lowest_in.ensures ∙ lowest_same 16 _ _ Some None (tasks_with _ c.tasks_in.result (λ s. bit a.live s && eqb (get_or a.deadlines.now s 0) a.clock)
    (c.passing-late.ensures (λ s. eqb (get_or a.deadlines.now s 0) a.clock) (λ s r b e. search rules)) c.tasks_in.ensures)
