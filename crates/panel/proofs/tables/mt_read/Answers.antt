-- `mt_read` meets its contract: the place, the number and the table of reading.
use mathlib.Core.Path.{sym}
use Rattle.panel.proofs.Answers.{answers_read}
use Rattle.panel.proofs.tables.mt_read.Goals as goal

pub returns : goal.returns
returns c =
    let l = c.read-loaded in
    sym (answers_read _ l.result _ _ _ l.ensures c.number.ensures c.place.ensures c.from.ensures)
