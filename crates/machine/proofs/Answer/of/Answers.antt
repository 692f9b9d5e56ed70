use Rattle.std.proofs.Common.{List, ap₂}
use Rattle.machine.specs.declared.Triple.{Triple}
use Rattle.machine.specs.declared.Reply.{Reply}
use Rattle.machine.proofs.Answer.of.Goals as goal

pub returns : goal.returns
returns c =
    let a = c.args in
    ap₂ (λ (r : Reply) (l : List Triple). record { reply = r; ran = l; finished = a.finished }) c.of.ensures c.run_list.ensures
