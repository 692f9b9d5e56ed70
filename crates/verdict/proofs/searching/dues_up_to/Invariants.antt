-- The loop's invariant: the figures of the tasks so far.
use Rattle.std.proofs.Common.{◌≡◌, ℕ, ◌<◌, min}
use Rattle.verdict.proofs.Figured.{Filled}
use Rattle.verdict.proofs.searching.dues_up_to.Given as goal

abbrev pub invariant-loop-k : goal.invariant-loop-k
invariant-loop-k g l = (f : ℕ → ℕ) → ((k : ℕ) → k < min l.n 16 → g.F.Figuring.due_of l.figures k ≡ f k) → Filled f l.k l.row
