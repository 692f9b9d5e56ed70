-- How the code finds the tails, for the contracts of its parts. A descent from u visits u and all that it leads to, unless they have been
-- visited. `left` is the set of those that have not been; a vertex counts as visited from the moment when the descent comes to it, and its
-- tail is in the row `tails` when the descent leaves it.
use Rattle.std.specs.Prelude.{◌≡◌, ◌⊎◌, true, false, List, ℕ, ◌<◌, ◌^◌, get_or}
use Rattle.graph.specs.Words.{bit}
use Rattle.graph.specs.Graph.{edge, Path, acyclic}
use Rattle.chains.specs.Tails.{tail}

-- what is said of the successors and the times: no path leads back, a set of successors has sixteen bits and a time thirty-two
pub record Sound (succ times : List ℕ) : Type 0 where
  pub passes : acyclic succ ≡ true
  pub bits : (u : ℕ) → get_or succ u 0 < 2 ^ 16
  pub brief : (u : ℕ) → get_or times u 0 < 2 ^ 32

-- k is u, or a path leads there from u
unfoldable pub Within : List ℕ → ℕ → ℕ → Type 0
Within succ u k = (k ≡ u) ⊎ Path (edge succ) u k

-- What a descent from u may rely on: of u and those that it leads to, each that was visited has its tail in the row. (Those on the way to u
-- were visited too and have none yet; u leads to none of them, as no path leads from a vertex back to itself.)
unfoldable pub Known : List ℕ → List ℕ → ℕ → ℕ → List ℕ → Type 0
Known succ times u left tails =
    (k : ℕ) → k < 16 → bit left k ≡ false → Within succ u k → get_or tails k 0 ≡ tail 16 (edge succ) (λ w. get_or times w 0) k

-- What it leaves: `before` and `after` are the rows, `left` and `now` those that are not visited.
pub record Visited (succ times : List ℕ) (u left : ℕ) (before : List ℕ) (now : ℕ) (after : List ℕ) : Type 0 where
  -- u has been visited, and so have all that were
  pub here : bit now u ≡ false
  pub still : (k : ℕ) → bit left k ≡ false → bit now k ≡ false
  -- none is visited but u and those that it leads to
  pub new : (k : ℕ) → bit now k ≡ false → (bit left k ≡ false) ⊎ Within succ u k
  -- they have their tails, and those that were visited before have what they had
  pub known : Known succ times u now after
  pub kept : (k : ℕ) → bit left k ≡ false → get_or after k 0 ≡ get_or before k 0
