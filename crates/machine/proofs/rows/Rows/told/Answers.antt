-- Steps 5 and 6 by rows: proofs/Ended.antt. Either every task is closed up, or the rows are tidy.
use Rattle.std.proofs.Common.{◌≡◌, ◌+◌, Bool, true, false, refl, sym, ap, ap₂, ◌∙◌, ⊎_elim}
use Rattle.graph.specs.Words.{pick}
use Rattle.graph.proofs.Facts.{clash}
use Rattle.machine.specs.declared.State.{State}
use Rattle.machine.specs.declared.Answer.{Answer}
use Rattle.machine.specs.States.{wrap}
use Rattle.machine.specs.Steps.{listed}
use Rattle.machine.specs.Rows.{Tidy}
use Rattle.machine.specs.Ticking.{ticked}
use Rattle.machine.proofs.Ended.{rows_miss, rows_go}
use Rattle.machine.proofs.rows.Rows.told.Goals as goal

pub returns-in-Some : goal.returns-in-Some
unfolding ticked wrap
returns-in-Some c =
    let a = c.args in
    let r = c.args.self.now in
    let o = c.tasks_in-over in
    let k = c.close-live in
    let m = c.first_late in
    let by : (every : Bool) → (every ≡ false → Tidy r.live a.remaining.now r.work) → a.gaps ≡ pick every 65535 o.result → _ = λ every tidy gaps.
    rows_miss r.clock r.phase r.live r.deadlines r.waits a.remaining.now r.work a.done o.result c.requires.ended o.ensures every tidy a.gaps gaps
    k.result k.new.deadlines k.new.remaining k.new.work k.ensures.0 k.ensures.1 k.ensures.2 k.ensures.3
    (listed a.chosen) _ m.result refl m.ensures c.in-Some.late c.in-Some.is
    _ (ap₂ (λ (x : Answer) (z : State). record { answer = x; state = z }) c.of.ensures c.zeros.ensures) in
    ⊎_elim (λ h. by true (λ e. absurd (clash refl e)) h) (λ h. by false (λ e. h.1) (h.0 ∙ sym o.ensures)) c.requires.closed

pub returns-in-None : goal.returns-in-None
unfolding ticked wrap
returns-in-None c =
    let a = c.args in
    let r = c.args.self.now in
    let o = c.tasks_in-over in
    let k = c.close-live in
    let m = c.first_late in
    let g = c.together in
    let by : (every : Bool) → (every ≡ false → Tidy r.live a.remaining.now r.work) → a.gaps ≡ pick every 65535 o.result → _ = λ every tidy gaps.
    rows_go r.clock r.phase r.live r.deadlines r.waits a.remaining.now r.work a.done o.result c.requires.ended o.ensures every tidy a.gaps gaps
    k.result k.new.deadlines k.new.remaining k.new.work k.ensures.0 k.ensures.1 k.ensures.2 k.ensures.3
    (listed a.chosen) _ m.result refl m.ensures c.in-None.is
    g.result g.ensures
    _ (ap (λ (x : Answer). record { answer = x; state = record { clock = wrap (r.clock + 1); phase = r.phase; tasks = g.result; remaining = k.new.remaining; work = k.new.work } }) c.of-in-None.ensures) in
    ⊎_elim (λ h. by true (λ e. absurd (clash refl e)) h) (λ h. by false (λ e. h.1) (h.0 ∙ sym o.ensures)) c.requires.closed
