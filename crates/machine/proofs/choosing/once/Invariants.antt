-- The loop's invariant: of the first j each is there once.
use Rattle.std.proofs.Common.{ℕ, ◌%◌, List, get_or}
use Rattle.graph.specs.Words.{row}
use Rattle.machine.proofs.Once.{Once}
use Rattle.machine.proofs.choosing.once.Given as goal

-- the numbers that the given choice lists
abbrev pub numbers : ℕ → List ℕ → List ℕ
numbers many given = row many (λ j. get_or given j 0 % 1024)

abbrev pub invariant-loop-j : goal.invariant-loop-j
invariant-loop-j l = Once (numbers l.j-end l.chosen.keys) l.j l.keys l.count
