use Rattle.std.proofs.Common.{ℕ, List, refl, ap}
use Rattle.machine.specs.Rows.{state_after, rows_after}
use Rattle.machine.proofs.rows.Rows.run.Goals as goal

pub returns : goal.returns
unfolding rows_after
returns c =
    let r = c.args.self.now in (
      ap (λ (w : List ℕ). record { clock = r.clock; phase = r.phase; live = r.live; deadlines = r.deadlines; waits = r.waits; work = w }) (c.run.ensures.1 (state_after r c.args.remaining.now) refl),
      c.run.ensures.0,
    )
