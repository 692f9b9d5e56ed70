-- Eight times the unused place is the list of the definition.
use Rattle.std.proofs.Common.{replicate, ap}
use Rattle.machine.specs.declared.Triple.{Triple}
use Rattle.graph.specs.Words.{row_from, row}
use Rattle.machine.specs.Ticking.{refuse}
use Rattle.machine.proofs.Ticked.refused.Goals as goal

pub returns : goal.returns
unfolding refuse row row_from
returns c =
    let a = c.args in
    ap (λ (p : Triple). record { answer = record { reply = a.reply; ran = replicate 8 p; finished = 0 }; state = a.state }) c.nobody.ensures
