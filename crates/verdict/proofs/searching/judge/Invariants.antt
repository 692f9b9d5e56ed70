-- The loop's invariant: `SoFar`, what the search over the margins has come to.
use Rattle.std.proofs.Common.{◌≡◌, ℕ, ◌<◌, ℤ, pos}
use Rattle.verdict.proofs.Walk.{SoFar}
use Rattle.verdict.proofs.searching.judge.Given as goal

abbrev pub invariant-loop-k : goal.invariant-loop-k
invariant-loop-k g l =
    (z : ℕ → ℤ) → ((k : ℕ) → k < l.n → g.F.Figuring.margin_of l.figures k ≡ z k) → SoFar z (pos 9223372036854775807) l.k l.task l.best
