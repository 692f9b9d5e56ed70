-- Document 01, "Errors that look right": "Accepting because a simulation with all releases at once went well; a later release can cause a
-- miss." A table of which both hold, and what the verdict says of it.
use Rattle.std.specs.Prelude.{◌≡◌, List, [], ◌∷◌, ℕ, T, negsuc}
use Rattle.machine.specs.declared.State.{State}
use Rattle.machine.specs.States.{opening}
use Rattle.machine.specs.Ticking.{tick}
use Rattle.examples.specs.Examples.{Example, Row, judging, playing, hold, on, goes}

-- m 2; task 0 with D = T = 2, costs 1 1 1, edges 2-0 and 2-1; task 1 with D 1, T 6, cost 1
unfoldable pub file_later : List ℕ
file_later =
    0x54 ∷ 0x42 ∷ 2 ∷ 2
    ∷ 0x54 ∷ 0x4B ∷ 3 ∷ 2 ∷ 2 ∷ 0 ∷ 0 ∷ 0 ∷ 2 ∷ 0 ∷ 0 ∷ 0 ∷ 1 ∷ 0 ∷ 0 ∷ 0 ∷ 1 ∷ 0 ∷ 0 ∷ 0 ∷ 1 ∷ 0 ∷ 0 ∷ 0 ∷ 2 ∷ 0 ∷ 2 ∷ 1
    ∷ 0x54 ∷ 0x4B ∷ 1 ∷ 0 ∷ 1 ∷ 0 ∷ 0 ∷ 0 ∷ 6 ∷ 0 ∷ 0 ∷ 0 ∷ 1 ∷ 0 ∷ 0 ∷ 0 ∷ []

-- both released at once, and each again as soon as its period allows: six ticks
unfoldable pub at_once : List Row
at_once =
    goes 3 (on 1 0 ∷ on 0 2 ∷ []) ∷ goes 0 (on 0 0 ∷ on 0 1 ∷ [])
    ∷ goes 1 (on 0 2 ∷ []) ∷ goes 0 (on 0 0 ∷ on 0 1 ∷ [])
    ∷ goes 1 (on 0 2 ∷ []) ∷ goes 0 (on 0 0 ∷ on 0 1 ∷ []) ∷ []

-- the state after some ticks, by their release sets
unfoldable pub after : List ℕ → State → List Row → State
after s st [] = st
after s st (r ∷ rs) = after s (tick s st r.named).state rs

unfoldable pub later : List Example
later =
    playing file_later 0 at_once
    -- task 1 one tick after task 0: three vertices with one tick left on two processors
    ∷ playing file_later 0 (goes 1 (on 0 2 ∷ []) ∷ record { named = 2; number = 34; task = 1; ran = on 0 0 ∷ on 0 1 ∷ [] } ∷ [])
    ∷ judging file_later 20 0 0 (negsuc 1) (2 ∷ 0 ∷ [])
    ∷ []

-- THE STATEMENT: they all hold, and the six ticks end in a state just opened: a longer simulation sees no more
pub record LaterHolds : Type 0 where
  pub examples : T (hold later)
  pub round : after file_later (opening file_later 0).state at_once ≡ (opening file_later 6).state
