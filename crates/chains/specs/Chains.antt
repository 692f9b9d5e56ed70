-- The longest chain by name (document 02, M-102): which of the chains with the largest sum is listed.
use Rattle.std.specs.Prelude.{◌≡◌, Bool, true, false, ◌&&◌, ◌||◌, List, [], ◌∷◌, ℕ, zero, suc, ◌-◌, length, get_or, ltb, eqb}
use Rattle.graph.specs.Words.{pick, row, lowest}
use Rattle.chains.specs.declared.ChainFound.{ChainFound}
use Rattle.graph.specs.Graph.{edge, acyclic, Chain, sum_along, longest_from, longest, longest_of}

-- "first when compared number by number, a list that ends first counting as smaller"
unfoldable pub list_less : List ℕ → List ℕ → Bool
list_less l [] = false
list_less [] (y ∷ m) = true
list_less (x ∷ l) (y ∷ m) = ltb x y || (eqb x y && list_less l m)

-- WHAT THE ANSWER IS TO BE: a chain, with the largest sum, "and of equal chains the one whose list is first"
pub record LongestByName (v : ℕ) (E : ℕ → ℕ → Bool) (f : ℕ → ℕ) (c : List ℕ) : Type 0 where
  pub chain : Chain v E c
  pub sum : sum_along f c ≡ longest v E f
  pub first : (d : List ℕ) → Chain v E d → sum_along f d ≡ longest v E f → list_less d c ≡ false

-- HOW IT IS FOUND. `sums` has for each vertex the largest sum along a chain that starts there (`longest_from`).
-- the lowest vertex that passes a test and has just what is left for its sum; 255 if there is none
unfoldable pub first_with : ℕ → List ℕ → (ℕ → Bool) → ℕ → ℕ
first_with v sums p left = lowest 255 v (λ u. p u && eqb (get_or sums u 0) left)

-- what is listed after u: nothing if nothing is left to sum; otherwise the lowest successor with just what is left, and
-- what is listed after that; k vertices at most
unfoldable pub listed_after : ℕ → (ℕ → ℕ → Bool) → (ℕ → ℕ) → List ℕ → ℕ → ℕ → ℕ → List ℕ
listed_after v E f sums zero u left = []
listed_after v E f sums (suc k) u zero = []
listed_after v E f sums (suc k) u (suc left) =
    let w = first_with v sums (E u) (suc left) in
    w ∷ listed_after v E f sums k w (suc left - f w)

-- the lowest vertex of those that pass a test and have just what is left, and what is listed after it
unfoldable pub listed_from : ℕ → (ℕ → ℕ → Bool) → (ℕ → ℕ) → List ℕ → ℕ → (ℕ → Bool) → ℕ → List ℕ
listed_from v E f sums k p left = let u = first_with v sums p left in u ∷ listed_after v E f sums k u (left - f u)

-- The chain begins at the lowest vertex from which some chain has the whole sum. For 1 to 16 vertices with no cycle it
-- is what the answer is to be, and nothing else is: theorems `first_chain_lem` and `first_only`, proofs/Chains.antt.
unfoldable pub first_chain : ℕ → (ℕ → ℕ → Bool) → (ℕ → ℕ) → List ℕ
first_chain v E f = listed_from v E f (longest_from v E f 16) 15 (λ u. true) (longest v E f)

-- The chain of successors and times as they lie in memory, sixteen a task; no vertex where there is a cycle.
unfoldable pub chain_of : List ℕ → List ℕ → List ℕ
chain_of succ times = pick (acyclic succ) (first_chain 16 (edge succ) (λ u. get_or times u 0)) []

-- "The longest-chain answer is to carry its vertices in path order": places from the chain's end on are 255.
unfoldable pub answered : ℕ → List ℕ → ChainFound
answered sum c = record { sum = sum; count = length c; vertices = row 16 (λ i. get_or c i 255) }

-- the answer for successors and times as they lie in memory: what `longest_chain` returns
unfoldable pub longest_chain : List ℕ → List ℕ → ChainFound
longest_chain succ times = answered (longest_of succ times) (chain_of succ times)
