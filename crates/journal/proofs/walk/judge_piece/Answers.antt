use mathlib.Core.Path.{sym, ◌∙◌}
use Rattle.journal.proofs.Entries.{not_wide, piece_stop, piece_got}
use Rattle.journal.proofs.walk.judge_piece.Goals as goal

pub returns-then-is_too_wide : goal.returns-then-is_too_wide
returns-then-is_too_wide c = piece_stop _ _ _ _ (sym c.is_too_wide.ensures ∙ c.if-is_too_wide.true)

pub judge_rows-requires : goal.judge_rows-requires
judge_rows-requires c = not_wide _ (sym c.is_too_wide.ensures ∙ c.if-is_too_wide.false)

pub returns : goal.returns
returns c = piece_got _ _ _ _ c.judge_rows.result (sym c.is_too_wide.ensures ∙ c.if-is_too_wide.false) c.judge_rows.ensures
