-- Document 02, M-109, by hand: four live jobs of one task, played; the rule for deadlines; what both verdicts say of the table.
use Rattle.std.specs.Prelude.{◌≡◌, List, [], ◌∷◌, ◌++◌, ℕ, T, pos, negsuc}
use Rattle.verdict.specs.Verdicts.{in_places}
use Rattle.sharp.specs.Sharp.{sharp}
use Rattle.machine.specs.declared.Triple.{Triple}
use Rattle.examples.specs.Examples.{Example, Row, judging, reading, playing, hold, goes}

-- m 8; one task of one vertex of cost 13, with T 4 and some D
unfoldable pub file_d : ℕ → List ℕ
file_d d = 0x54 ∷ 0x42 ∷ 8 ∷ 1 ∷ 0x54 ∷ 0x4B ∷ 1 ∷ 0 ∷ d ∷ 0 ∷ 0 ∷ 0 ∷ 4 ∷ 0 ∷ 0 ∷ 0 ∷ 13 ∷ 0 ∷ 0 ∷ 0 ∷ []

-- the vertex of its job at age place p
unfoldable pub aged : ℕ → Triple
aged p = record { task = 0; age = p; vertex = 0 }

-- a release, and three ticks without one, in which the same run
unfoldable pub four_ticks : List Triple → List Row
four_ticks ran = goes 1 ran ∷ goes 0 ran ∷ goes 0 ran ∷ goes 0 ran ∷ []

-- released every 4 ticks: each time a job more, until in tick 12 four are live. There the first ends, so in tick 13 those after it have moved up a place. The
-- task keeps its wait apart from its jobs: named in tick 13, it is refused.
unfoldable pub every_four : List Row
every_four =
    four_ticks (aged 0 ∷ []) ++ four_ticks (aged 0 ∷ aged 1 ∷ []) ++ four_ticks (aged 0 ∷ aged 1 ∷ aged 2 ∷ [])
    ++ (goes 1 (aged 0 ∷ aged 1 ∷ aged 2 ∷ aged 3 ∷ [])
    ∷ record { named = 1; number = 33; task = 0; ran = [] }
    ∷ goes 0 (aged 0 ∷ aged 1 ∷ aged 2 ∷ [])
    ∷ [])

unfoldable pub several : List Example
several =
    -- "Allow D up to four times T"; "5 now means D above four times T", at the place of T
    reading (file_d 16) 0 0
    ∷ reading (file_d 17) 5 12
    -- from a clock that wraps when four are live
    ∷ playing (file_d 16) 4294967284 every_four
    -- the old verdict counts each of four jobs in whole
    ∷ judging (file_d 16) 20 0 0 (negsuc 14) (0 ∷ [])
    ∷ []

-- THE STATEMENT: they all hold, and the sharp verdict accepts the table with nothing to spare
pub record SeveralHold : Type 0 where
  pub examples : T (hold several)
  pub accepted : sharp (file_d 16) ≡ record { number = 0; place = 0; task = 0; margin = pos 0; count = 1; chain = in_places (0 ∷ []) }
