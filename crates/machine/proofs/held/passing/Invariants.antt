-- Of the members that were passed, those that pass the test are gathered.
use Rattle.std.proofs.Common.{◌≡◌, ℕ, ◌<◌, Bool}
use Rattle.machine.proofs.Gathering.{Gathered}
use Rattle.machine.proofs.held.passing.Given as goal

abbrev pub invariant-loop-s : goal.invariant-loop-s
invariant-loop-s g l =
    (p : ℕ → Bool) → ((s : ℕ) (r : Bool) → s < 64 → goal.F-post g l.test s r → r ≡ p s) → Gathered p l.set l.s-iterator.rest l.passing
