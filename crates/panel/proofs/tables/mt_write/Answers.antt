-- `mt_write` meets its contract: the place and the number of writing, and what it leaves in the buffer.
use mathlib.Core.Path.{sym, ap, ◌∙◌}
use Rattle.table.specs.declared.Table.{Table}
use Rattle.table.specs.Writing.{written}
use Rattle.panel.proofs.Answers.{answers_write}
use Rattle.panel.proofs.tables.mt_write.Goals as goal

pub returns : goal.returns
returns c =
    let w = c.write-w in
    let t = c.from in (
      sym (answers_write _ t.result _ w.result _ _ t.ensures w.ensures.0 c.number.ensures c.place.ensures),
      w.ensures.1 ∙ ap (λ (x : Table). written x c.args.buffer.now) t.ensures,
    )
