use Rattle.machine.proofs.Judging.{running_waits, running_slots, stopped_past, stopped_waits, stopped_slots}
use Rattle.std.proofs.Common.{sym, ◌∙◌, le-ltb}
use Rattle.graph.proofs.Facts.{clash}
use Rattle.table.specs.Memory.{task}
use Rattle.machine.proofs.rows.Rows.fits.Goals as goal
use Rattle.machine.proofs.rows.Rows.fits.Goals.{then-at-t, else-at-t}

pub returns-then-waits_fit : goal.returns-then-waits_fit
unfolding task
returns-then-waits_fit c = c.slots_fit.ensures ∙ running_slots _ _ _ _ _ _ _ _ c.in-Running.is (sym c.waits_fit.ensures ∙ c.if-waits_fit.true)

pub returns-else-waits_fit : goal.returns-else-waits_fit
unfolding task
returns-else-waits_fit c = c.if-waits_fit.false ∙ running_waits _ _ _ _ _ _ _ _ c.in-Running.is (sym c.waits_fit.ensures ∙ c.if-waits_fit.false)

pub returns-then-no_waits : goal.returns-then-no_waits
returns-then-no_waits c = elim c.if-at-t.branch [
  | then-at-t w ↦ c.all_zero.ensures ∙ stopped_slots _ _ _ _ _ _ _ _ _ c.in-Stopped.is w.if-at-t.true (sym w.no_waits.ensures ∙ sym w.value-is ∙ c.if-no_waits.true)
  | else-at-t w ↦ absurd (clash c.if-no_waits.true (w.value-is ∙ le-ltb _ _ w.if-at-t.false))
]

pub returns-else-no_waits : goal.returns-else-no_waits
returns-else-no_waits c = c.if-no_waits.false ∙ elim c.if-at-t.branch [
  | then-at-t w ↦ stopped_waits _ _ _ _ _ _ _ _ _ c.in-Stopped.is w.if-at-t.true (sym w.no_waits.ensures ∙ sym w.value-is ∙ c.if-no_waits.false)
  | else-at-t w ↦ stopped_past _ _ _ _ _ _ _ _ _ c.in-Stopped.is w.if-at-t.false
]
