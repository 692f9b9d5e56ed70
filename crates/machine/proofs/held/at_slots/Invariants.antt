-- At the members that were passed stands their value.
use Rattle.std.proofs.Common.{◌≡◌, ℕ, ◌<◌}
use Rattle.machine.proofs.Sweeping.{Swept}
use Rattle.machine.proofs.held.at_slots.Given as goal

abbrev pub invariant-loop-s : goal.invariant-loop-s
invariant-loop-s g l =
    (f : ℕ → g.row.T.Denot) → ((s : ℕ) (r : g.row.T.Denot) → s < 64 → goal.F-post g l.value s r → r ≡ f s) → Swept 64 l.fn.nothing f l.initial.row l.set l.s-iterator.rest l.row
