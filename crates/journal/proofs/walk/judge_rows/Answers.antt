use mathlib.Core.Path.{◌≡◌, refl, sym, ◌∙◌}
use native.Mathlib.Omega.{arith}
use Rattle.machine.specs.Ticking.{advance}
use Rattle.journal.specs.Rows.{row_set, row_end, listed}
use Rattle.journal.specs.Judging.{start}
use Rattle.journal.proofs.Going.{over_end, rows_over, rows_refused, rows_passed}
use Rattle.journal.proofs.RowFaults.{number_some}
use Rattle.journal.proofs.walk.judge_rows.Goals as goal

pub loop-next-init : goal.loop-next-init
unfolding start
loop-next-init c = record { counted = omega arith; judged = refl }

pub returns-in-Err : goal.returns-in-Err
returns-in-Err c =
    let a = c.args in
    let l = c.loop-next in
    let n = c.number in
    rows_refused a.t a.bytes.now a.end l.state l.next l.rows c.loop-next-test.true n.result (n.ensures ∙ c.in-Err.ensures.number)
    (λ z. number_some c.in-Err.fault (sym n.ensures ∙ z))
    ∙ l.invariant.judged

pub loop-next-smaller : goal.loop-next-smaller
unfolding row_end
loop-next-smaller c = let e = c.in-Ok.ensures.row in omega (arith, c.end-next.ensures, e.1)

pub loop-next-preserved : goal.loop-next-preserved
unfolding row_end
loop-next-preserved c =
    let a = c.args in
    let l = c.loop-next in
    let e = c.in-Ok.ensures.row in
    let after : c.state_after-state.result ≡ (advance a.t l.state (row_set a.bytes.now l.next) (listed a.bytes.now l.next)).state = cc (e.0, e.1, c.state_after-state.ensures) in
    let end : c.end-next.result ≡ row_end a.bytes.now l.next = cc (e.0, e.1, c.end-next.ensures) in record {
      counted = omega (arith, end, l.invariant.counted);
      judged = rows_passed a.t a.bytes.now a.end l.state l.next l.rows c.loop-next-test.true c.state_after-state.result c.end-next.result (sym c.in-Ok.ensures.number) after end ∙ l.invariant.judged;
    }

pub returns : goal.returns
returns c =
    let a = c.args in
    sym (rows_over a.t a.bytes.now a.end _ (over_end a.end _ c.loop-next-test.false)) ∙ c.loop-next.invariant.judged
