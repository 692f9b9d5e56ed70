use Rattle.lines.proofs.Steps.{tick_shown}
use Rattle.lines.proofs.showing.show_tick.Goals as goal

pub returns : goal.returns
returns c =
    let t = c.tick-ticked in
    tick_shown _ _ _ _ t.result _ c.tick_line.ensures c.live_slots-live.ensures t.ensures
