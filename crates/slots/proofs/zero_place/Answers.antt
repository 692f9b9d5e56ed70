-- Not live and with no work stored: what remains decides.
use mathlib.Core.Path.{ap, ◌∙◌}
use mathlib.Core.Logic.{⊎_elim}
use mathlib.Core.Bool.{not}
use borrow.Author.Tests.{ne_eqb}
use Rattle.graph.proofs.Facts.{clash}
use Rattle.slots.proofs.Cases.{zero_live, zero_work, zero_rest}
use Rattle.slots.proofs.zero_place.Goals as goal
use Rattle.slots.proofs.zero_place.Goals.{then-not-live, else-not-live}

pub returns-then-work-eq0 : goal.returns-then-work-eq0
returns-then-work-eq0 c = c.nothing_left.ensures ∙ zero_rest _ _ _ _ c.if-work-eq0.true.0 c.if-work-eq0.true.1

pub returns-else-work-eq0 : goal.returns-else-work-eq0
returns-else-work-eq0 c =
    elim c.if-not-live.branch [
      | then-not-live w ↦
          w.t-6-is ∙ ⊎_elim (λ p. ne_eqb _ _ p.1 ∙ zero_work _ _ _ _ p.0 p.1) (λ e. absurd (clash e w.if-not-live.true)) c.if-work-eq0.either
      | else-not-live w ↦ w.t-6-is ∙ ap not w.if-not-live.false ∙ zero_live _ _ _ _ w.if-not-live.false
    ]
