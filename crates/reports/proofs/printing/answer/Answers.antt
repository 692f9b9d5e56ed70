use mathlib.Core.Path.{ap, ◌∙◌}
use mathlib.Core.List.{◌++◌}
use Prim.Native.Nat.{ℕ}
use Rattle.text.specs.Text.{text, decimal}
use Rattle.text.proofs.Pages.{same}
use Rattle.text.proofs.Putting.{said, said_not}
use Rattle.reports.proofs.printing.answer.Goals as goal

pub returns-then-number-eq0 : goal.returns-then-number-eq0
unfolding text
returns-then-number-eq0 g c = same c.words.ensures (said _ _ _ _ c.if-number-eq0.true)

pub returns-else-number-eq0 : goal.returns-else-number-eq0
unfolding text
returns-else-number-eq0 g c =
    same c.labelled.ensures (ap (λ (x : ℕ). text "refuse " ++ decimal x) c.from.ensures ∙ said_not _ _ _ _ c.if-number-eq0.false)
