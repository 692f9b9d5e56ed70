-- Document 02, M-107: tables of which the sharp verdict says what the old one does not, and each of its numbers.
use Rattle.std.specs.Prelude.{◌≡◌, List, [], ◌∷◌, ℕ, pos, negsuc}
use Rattle.verdict.specs.Verdicts.{in_places, verdict}
use Rattle.sharp.specs.Sharp.{sharp}
use Rattle.examples.specs.Examples.{file_a}

-- tables/sharp_only: m 2; task 0 with D = T = 4, cost 1; task 1 with D = T = 20, costs 6 8, edge 0-1. Of task 1 the old verdict counts all 14 as due
-- within the 4 ticks of task 0; the sharp one 4 of its last vertex, and of the first none, since 8 are behind it.
unfoldable pub file_only : List ℕ
file_only =
    0x54 ∷ 0x42 ∷ 2 ∷ 2
    ∷ 0x54 ∷ 0x4B ∷ 1 ∷ 0 ∷ 4 ∷ 0 ∷ 0 ∷ 0 ∷ 4 ∷ 0 ∷ 0 ∷ 0 ∷ 1 ∷ 0 ∷ 0 ∷ 0
    ∷ 0x54 ∷ 0x4B ∷ 2 ∷ 1 ∷ 20 ∷ 0 ∷ 0 ∷ 0 ∷ 20 ∷ 0 ∷ 0 ∷ 0 ∷ 6 ∷ 0 ∷ 0 ∷ 0 ∷ 8 ∷ 0 ∷ 0 ∷ 0 ∷ 0 ∷ 1 ∷ []

-- tables/sharp_wide: m 8; a fork into six steps of 10 and a join of 9, D 60, T 80; four steps of 5, D = T = 12
unfoldable pub file_wide : List ℕ
file_wide =
    0x54 ∷ 0x42 ∷ 8 ∷ 2
    ∷ 0x54 ∷ 0x4B ∷ 8 ∷ 12 ∷ 60 ∷ 0 ∷ 0 ∷ 0 ∷ 80 ∷ 0 ∷ 0 ∷ 0
    ∷ 2 ∷ 0 ∷ 0 ∷ 0 ∷ 10 ∷ 0 ∷ 0 ∷ 0 ∷ 10 ∷ 0 ∷ 0 ∷ 0 ∷ 10 ∷ 0 ∷ 0 ∷ 0 ∷ 10 ∷ 0 ∷ 0 ∷ 0 ∷ 10 ∷ 0 ∷ 0 ∷ 0 ∷ 10 ∷ 0 ∷ 0 ∷ 0 ∷ 9 ∷ 0 ∷ 0 ∷ 0
    ∷ 0 ∷ 1 ∷ 0 ∷ 2 ∷ 0 ∷ 3 ∷ 0 ∷ 4 ∷ 0 ∷ 5 ∷ 0 ∷ 6 ∷ 1 ∷ 7 ∷ 2 ∷ 7 ∷ 3 ∷ 7 ∷ 4 ∷ 7 ∷ 5 ∷ 7 ∷ 6 ∷ 7
    ∷ 0x54 ∷ 0x4B ∷ 4 ∷ 0 ∷ 12 ∷ 0 ∷ 0 ∷ 0 ∷ 12 ∷ 0 ∷ 0 ∷ 0
    ∷ 5 ∷ 0 ∷ 0 ∷ 0 ∷ 5 ∷ 0 ∷ 0 ∷ 0 ∷ 5 ∷ 0 ∷ 0 ∷ 0 ∷ 5 ∷ 0 ∷ 0 ∷ 0 ∷ []

-- m 1; task 0 with D = T = 2, costs 1 1 1 and no edges, so its margin is negative; task 1 with D = T = 2, costs 2 1, edge 0-1, so its chain is
-- longer than its D: that goes before
unfoldable pub file_both : List ℕ
file_both =
    0x54 ∷ 0x42 ∷ 1 ∷ 2
    ∷ 0x54 ∷ 0x4B ∷ 3 ∷ 0 ∷ 2 ∷ 0 ∷ 0 ∷ 0 ∷ 2 ∷ 0 ∷ 0 ∷ 0 ∷ 1 ∷ 0 ∷ 0 ∷ 0 ∷ 1 ∷ 0 ∷ 0 ∷ 0 ∷ 1 ∷ 0 ∷ 0 ∷ 0
    ∷ 0x54 ∷ 0x4B ∷ 2 ∷ 1 ∷ 2 ∷ 0 ∷ 0 ∷ 0 ∷ 2 ∷ 0 ∷ 0 ∷ 0 ∷ 2 ∷ 0 ∷ 0 ∷ 0 ∷ 1 ∷ 0 ∷ 0 ∷ 0 ∷ 0 ∷ 1 ∷ []

-- THE STATEMENT
pub record SharpHolds : Type 0 where
  -- table A, accepted by both
  pub a : sharp file_a ≡ record { number = 0; place = 0; task = 1; margin = pos 0; count = 1; chain = in_places (0 ∷ []) }
  -- two that only the sharp verdict accepts, the second on the wide model
  pub only_old : (verdict file_only).number ≡ 20
  pub only : sharp file_only ≡ record { number = 0; place = 0; task = 0; margin = pos 2; count = 1; chain = in_places (0 ∷ []) }
  pub wide_old : (verdict file_wide).number ≡ 20
  pub wide : sharp file_wide ≡ record { number = 0; place = 0; task = 1; margin = pos 14; count = 1; chain = in_places (0 ∷ []) }
  -- 22 of task 1, though task 0 has a negative margin; due for task 1 are 3 of task 0, and of its own 1 of each vertex
  pub both : sharp file_both ≡ record { number = 22; place = 0; task = 1; margin = negsuc 2; count = 2; chain = in_places (0 ∷ 1 ∷ []) }
  -- the empty file
  pub unread : sharp [] ≡ record { number = 1; place = 0; task = 255; margin = pos 0; count = 0; chain = in_places [] }
