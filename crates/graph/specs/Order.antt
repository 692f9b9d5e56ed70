-- How the code finds the longest chain, for the contracts of its parts: vertices are taken out in an order in which each
-- comes after those that lead to it. `starts` has for each vertex the largest sum so far along a chain that ends in an edge
-- to it, without its own time.
use Rattle.std.specs.Prelude.{List, [], ◌∷◌, ℕ, ◌+◌, max, get_or, set}
use Rattle.graph.specs.Words.{members}

-- each vertex of a list starts at `end` or later
unfoldable pub raised : List ℕ → ℕ → List ℕ → List ℕ
raised starts end [] = starts
raised starts end (w ∷ ws) = raised (set starts w (max (get_or starts w 0) end)) end ws

-- u is taken out: its end is its start and its time, and its successors start there or later
unfoldable pub passed : List ℕ → List ℕ → List ℕ → ℕ → List ℕ
passed succ times starts u = raised starts (get_or starts u 0 + get_or times u 0) (members (get_or succ u 0))

-- each of a list is taken out, one after the other
unfoldable pub passed_all : List ℕ → List ℕ → List ℕ → List ℕ → List ℕ
passed_all succ times starts [] = starts
passed_all succ times starts (u ∷ us) = passed_all succ times (passed succ times starts u) us

-- the largest of `best` and the ends of those that are taken out
unfoldable pub best_all : List ℕ → List ℕ → List ℕ → ℕ → List ℕ → ℕ
best_all succ times starts best [] = best
best_all succ times starts best (u ∷ us) = best_all succ times (passed succ times starts u) (max best (get_or starts u 0 + get_or times u 0)) us
