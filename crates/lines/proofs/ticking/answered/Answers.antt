use mathlib.Core.Path.{ap}
use mathlib.Core.List.{◌++◌}
use Prim.Native.Nat.{ℕ}
use Rattle.text.specs.Text.{text, decimal}
use Rattle.text.proofs.Pages.{then, same}
use Rattle.lines.proofs.Parted.{answer_went, answer_missed, answer_refused}
use Rattle.lines.proofs.ticking.answered.Goals as goal

pub returns-then-reply-eq0 : goal.returns-then-reply-eq0
returns-then-reply-eq0 c = same c.went.ensures (answer_went _ _ _ c.if-reply-eq0.true)

pub returns-then-reply-eq34 : goal.returns-then-reply-eq34
unfolding text
returns-then-reply-eq34 c =
    let r = same c.labelled.ensures (ap (λ (x : ℕ). text " miss " ++ decimal x) c.from.ensures) in
    same (then c.went-then-reply-eq34.ensures r) (answer_missed _ _ _ c.if-reply-eq34.true)

pub returns-else-reply-eq34 : goal.returns-else-reply-eq34
returns-else-reply-eq34 c = same c.refusal.ensures (answer_refused _ _ _ c.if-reply-eq0.false c.if-reply-eq34.false)
