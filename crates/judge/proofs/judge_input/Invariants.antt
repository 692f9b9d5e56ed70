-- `judge_input` is safe: what a piece leaves unjudged lies within the page.
use Rattle.std.proofs.Common.{◌≡◌, ◌≤◌, length}
use Rattle.judge.proofs.judge_input.Given as goal

abbrev pub invariant-loop : goal.invariant-loop
invariant-loop g l = (length l.page ≡ 8192) × (l.held ≤ 8192)
