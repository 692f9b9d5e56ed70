use mathlib.Core.Path.{◌≡◌}
use Prim.Native.Nat.{◌≤◌, ◌+◌, ◌-◌, ◌*◌}
use Rattle.checks.specs.Checking.{tasks_tested}
use Rattle.checks.proofs.checking.check_tasks.Given as goal

abbrev pub invariant-loop-i : goal.invariant-loop-i
invariant-loop-i l =
    (l.i-end ≡ l.table.n) × (l.at ≤ 4 + 316 * l.i) × (tasks_tested l.table (l.i-end - l.i) l.i l.at ≡ tasks_tested l.table l.table.n 0 4)
