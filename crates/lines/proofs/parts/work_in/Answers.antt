use Rattle.text.specs.Text.{text}
use Rattle.text.proofs.Pages.{then, same, nothing}
use Rattle.lines.proofs.Parted.{work_shown, work_hidden}
use Rattle.lines.proofs.parts.work_in.Goals as goal

pub returns-then-jobs-slot-eq1 : goal.returns-then-jobs-slot-eq1
unfolding text
returns-then-jobs-slot-eq1 c =
    let r = then c.labelled.ensures (then c.labelled-then-jobs-slot-eq1.ensures c.labelled-then-jobs-slot-eq1-2.ensures) in
    same r (work_shown _ _ _ _ c.slot_in-slot.ensures.0 c.if-jobs-slot-eq1.true)

pub returns-else-jobs-slot-eq1 : goal.returns-else-jobs-slot-eq1
returns-else-jobs-slot-eq1 c = same (nothing _) (work_hidden _ _ _ _ c.slot_in-slot.ensures.0 c.if-jobs-slot-eq1.false)
