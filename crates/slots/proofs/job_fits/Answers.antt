-- A case for each clause that fails; where all but the last two hold, those decide.
use mathlib.Core.Path.{sym, ◌∙◌}
use Rattle.slots.proofs.Cases.{no_ticks, too_many, all_finished, differs, slot_past, above_cost, last_clause}
use Rattle.slots.proofs.job_fits.Goals as goal
use Rattle.slots.proofs.job_fits.Goals.{then-ticks-lt1-via-then-ticks-lt1, then-ticks-lt1-via-else-ticks-lt1+then-ticks-a, then-ticks-lt1-via-else-ticks-lt1+else-ticks-a+then-work-eq0, then-ticks-lt1-via-else-ticks-lt1+else-ticks-a+else-work-eq0+then-work-work_left, then-ticks-lt1-via-else-ticks-lt1+else-ticks-a+else-work-eq0+else-work-work_left+then-s-ge64}

pub returns-then-ticks-lt1 : goal.returns-then-ticks-lt1
returns-then-ticks-lt1 c =
    elim c.then-ticks-lt1.branch [
      | then-ticks-lt1-via-then-ticks-lt1 w ↦ no_ticks _ _ _ _ _ _ w.if-ticks-lt1.true
      | then-ticks-lt1-via-else-ticks-lt1+then-ticks-a w ↦ too_many _ _ _ _ _ _ w.if-ticks-lt1.false w.if-ticks-a.true
      | then-ticks-lt1-via-else-ticks-lt1+else-ticks-a+then-work-eq0 w ↦ all_finished _ _ _ _ _ _ w.if-ticks-lt1.false w.if-ticks-a.false w.if-work-eq0.true
      | then-ticks-lt1-via-else-ticks-lt1+else-ticks-a+else-work-eq0+then-work-work_left w ↦
          differs _ _ _ _ _ _ w.if-ticks-lt1.false w.if-ticks-a.false w.if-work-eq0.false (λ e. w.if-work-work_left.true (e ∙ sym w.work_left.ensures))
      | then-ticks-lt1-via-else-ticks-lt1+else-ticks-a+else-work-eq0+else-work-work_left+then-s-ge64 w ↦
          slot_past _ _ _ _ _ _ w.if-ticks-lt1.false w.if-ticks-a.false w.if-work-eq0.false (w.if-work-work_left.false ∙ w.work_left.ensures) w.if-s-ge64.true
    ]

pub returns-then-within_cost : goal.returns-then-within_cost
returns-then-within_cost c =
    c.whole_behind.ensures
    ∙ last_clause _ _ _ _ _ _ c.if-ticks-lt1.false c.if-ticks-a.false c.if-work-eq0.false (c.if-work-work_left.false ∙ c.work_left.ensures)
    (sym c.within_cost.ensures ∙ c.if-within_cost.true)

pub returns-else-within_cost : goal.returns-else-within_cost
returns-else-within_cost c =
    c.if-within_cost.false
    ∙ above_cost _ _ _ _ _ _ c.if-ticks-lt1.false c.if-ticks-a.false c.if-work-eq0.false (c.if-work-work_left.false ∙ c.work_left.ensures)
    (sym c.within_cost.ensures ∙ c.if-within_cost.false)
