use mathlib.Core.Path.{◌≡◌}
use Prim.Native.Nat.{◌-◌, ◌≤◌}
use Rattle.journal.specs.Judging.{judge_rows, start}
use Rattle.journal.proofs.walk.judge_rows.Given as goal

abbrev pub invariant-loop-next : goal.invariant-loop-next
invariant-loop-next l = record {
  counted : l.rows ≤ l.next;
  judged : judge_rows l.t l.bytes l.end (record { number = 0; next = l.next; rows = l.rows; state = l.state }) ≡ judge_rows l.t l.bytes l.end (start l.initial.state);
}

abbrev pub decreases-loop-next : goal.decreases-loop-next
decreases-loop-next l = l.end - l.next
