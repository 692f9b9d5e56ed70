use Rattle.machine.proofs.Judging.{not_newest, not_spaced, its_job}
use Rattle.std.proofs.Common.{◌%◌, get_or, sym, ◌∙◌}
use Rattle.graph.proofs.Facts.{clash}
use Rattle.table.specs.Memory.{no_task}
use Rattle.machine.proofs.rows.Rows.live_fits.Goals as goal
use Rattle.machine.proofs.rows.Rows.live_fits.Goals.{then-newest, else-newest}

pub returns-then-spaced : goal.returns-then-spaced
unfolding no_task
returns-then-spaced c =
    let r = c.args.self.now in
    let s = c.args.s in
    let task = get_or c.args.t.now.tasks (s % 16) no_task in
    elim c.if-newest.branch [
      | then-newest w ↦ c.job_fits.ensures ∙ its_job task c.args.t.now.costs r.live c.args.ticks.now (get_or r.waits (s % 16) 0) (get_or r.work s 0) c.args.remaining.now s
          (sym c.newest.ensures ∙ w.if-newest.true) (sym w.spaced.ensures ∙ sym w.value-is ∙ c.if-spaced.true)
      | else-newest w ↦ absurd (clash c.if-spaced.true (w.value-is ∙ w.if-newest.false))
    ]

pub returns-else-spaced : goal.returns-else-spaced
unfolding no_task
returns-else-spaced c =
    let r = c.args.self.now in
    let s = c.args.s in
    let task = get_or c.args.t.now.tasks (s % 16) no_task in
    c.if-spaced.false ∙ elim c.if-newest.branch [
      | then-newest w ↦ not_spaced task c.args.t.now.costs r.live c.args.ticks.now (get_or r.waits (s % 16) 0) (get_or r.work s 0) c.args.remaining.now s
          (sym c.newest.ensures ∙ w.if-newest.true) (sym w.spaced.ensures ∙ sym w.value-is ∙ c.if-spaced.false)
      | else-newest w ↦ not_newest task c.args.t.now.costs r.live c.args.ticks.now (get_or r.waits (s % 16) 0) (get_or r.work s 0) c.args.remaining.now s (sym c.newest.ensures ∙ w.if-newest.false)
    ]
