use Rattle.std.proofs.Common.{ℕ, ◌+◌, ◌%◌, List, get_or}
use Rattle.table.specs.declared.Task.{Task}
use Rattle.table.specs.Memory.{no_task}
use Rattle.machine.specs.States.{wrap}
use Rattle.machine.proofs.Sweeping.{Swept}
use Rattle.machine.proofs.lent.begin.Given as goal

abbrev pub deadline_in : ℕ → List Task → ℕ → ℕ
deadline_in clock tasks s = wrap (clock + (get_or tasks (s % 16) no_task).d)

abbrev pub invariant-loop-s : goal.invariant-loop-s
invariant-loop-s l = Swept 64 0 (deadline_in l.clock l.t.tasks) l.initial.deadlines l.fresh l.s-iterator.rest l.deadlines
