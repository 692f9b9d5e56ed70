use Rattle.slots.proofs.Holding.{ready_set}
use Rattle.slots.proofs.ready.Goals as goal

pub returns : goal.returns
returns c =
    let a = c.args in
    ready_set a.succ a.v a.remaining.now a.s c.unfinished-unfinished.result c.held_back.result c.unfinished-unfinished.ensures c.held_back.ensures
