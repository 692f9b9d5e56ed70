-- Document 02, M-103, by hand: fork and join marks that cost nothing, played by the machine and judged in a journal.
use Rattle.std.specs.Prelude.{false, ◌&&◌, List, [], ◌∷◌, ◌++◌, ℕ, T, eqb}
use Rattle.machine.specs.States.{opening}
use Rattle.machine.specs.Ticking.{tick}
use Rattle.journal.specs.Examples as J
use Rattle.examples.specs.Examples.{Example, playing, hold, on, goes}

-- m 3; one task with D = T = 9: a start mark 0, branches 1 and 2 of one tick and of two, a join mark 3 behind both, and 4 of one tick
unfoldable pub file_marks : List ℕ
file_marks =
    0x54 ∷ 0x42 ∷ 3 ∷ 1
    ∷ 0x54 ∷ 0x4B ∷ 5 ∷ 5 ∷ 9 ∷ 0 ∷ 0 ∷ 0 ∷ 9 ∷ 0 ∷ 0 ∷ 0
    ∷ 0 ∷ 0 ∷ 0 ∷ 0 ∷ 1 ∷ 0 ∷ 0 ∷ 0 ∷ 2 ∷ 0 ∷ 0 ∷ 0 ∷ 0 ∷ 0 ∷ 0 ∷ 0 ∷ 1 ∷ 0 ∷ 0 ∷ 0
    ∷ 0 ∷ 1 ∷ 0 ∷ 2 ∷ 1 ∷ 3 ∷ 2 ∷ 3 ∷ 3 ∷ 4 ∷ []

-- m 1; one task with D = T = 1 of two marks, the second behind the first
unfoldable pub file_nothing : List ℕ
file_nothing = 0x54 ∷ 0x42 ∷ 1 ∷ 1 ∷ 0x54 ∷ 0x4B ∷ 2 ∷ 1 ∷ 1 ∷ 0 ∷ 0 ∷ 0 ∷ 1 ∷ 0 ∷ 0 ∷ 0 ∷ 0 ∷ 0 ∷ 0 ∷ 0 ∷ 0 ∷ 0 ∷ 0 ∷ 0 ∷ 0 ∷ 1 ∷ []

unfoldable pub played : List Example
played =
    -- the start is done when it is released; the join is done when both branches are, so 4 waits for the longer
    playing file_marks 0 (goes 1 (on 0 1 ∷ on 0 2 ∷ []) ∷ goes 0 (on 0 2 ∷ []) ∷ goes 0 (on 0 4 ∷ []) ∷ goes 0 [] ∷ [])
    -- "one whose costs are all 0 finishes in its release tick", so it misses nothing, and may be released again in the next
    ∷ playing file_nothing 0 (goes 1 [] ∷ goes 1 [] ∷ [])
    ∷ []

unfoldable pub journals : List J.Example
journals =
    J.accepts file_marks (J.line 1 2 (0 ∷ 0 ∷ 1 ∷ 0 ∷ 0 ∷ 2 ∷ []) ++ J.line 0 1 (0 ∷ 0 ∷ 2 ∷ []) ++ J.line 0 1 (0 ∷ 0 ∷ 4 ∷ []) ++ J.line 0 0 []) 4 false
    -- a branch before the join still runs
    ∷ J.refuses file_marks (J.line 1 3 (0 ∷ 0 ∷ 1 ∷ 0 ∷ 0 ∷ 2 ∷ 0 ∷ 0 ∷ 4 ∷ [])) 44 0
    ∷ J.refuses file_marks (J.line 1 2 (0 ∷ 0 ∷ 1 ∷ 0 ∷ 0 ∷ 2 ∷ []) ++ J.line 0 2 (0 ∷ 0 ∷ 2 ∷ 0 ∷ 0 ∷ 4 ∷ [])) 44 1
    -- a mark does not run
    ∷ J.refuses file_marks (J.line 1 1 (0 ∷ 0 ∷ 0 ∷ [])) 44 0
    ∷ []

-- THE STATEMENT: they all hold, and the task of two marks is named as finished in its release tick
abbrev pub MarksHold : Type 0
MarksHold = T (hold played && J.hold journals && eqb (tick file_nothing (opening file_nothing 0).state 1).answer.finished 1)
