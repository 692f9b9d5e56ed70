use Rattle.std.proofs.Common.{ℕ, List, get_or}
use Rattle.table.specs.declared.Task.{Task}
use Rattle.table.specs.Memory.{no_task}
use Rattle.machine.proofs.Sweeping.{Swept}
use Rattle.machine.proofs.lent.wait_anew.Given as goal

abbrev pub wait_in : List Task → ℕ → ℕ
wait_in tasks i = (get_or tasks i no_task).t

abbrev pub invariant-loop-i : goal.invariant-loop-i
invariant-loop-i l = Swept 16 0 (wait_in l.t.tasks) l.initial.waits l.named l.i-iterator.rest l.waits
