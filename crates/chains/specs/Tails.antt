-- The tail of a vertex: document 02, M-107.
use Rattle.std.specs.Prelude.{◌≡◌, ◌⊎◌, Bool, true, false, List, ◌∷◌, ℕ, ◌≤◌, ◌<◌, get_or}
use Rattle.graph.specs.Words.{pick, row, largest}
use Rattle.graph.specs.Graph.{edge, acyclic, Chain, sum_along, longest_from}

-- "the tail of a vertex is the longest chain after it, itself left out": the largest sum along a chain that begins at one of its
-- successors, 0 where it has none. For up to sixteen vertices with no cycle `tail_means`, proofs/Tails.antt, says so of chains of any length.
unfoldable pub tail : ℕ → (ℕ → ℕ → Bool) → (ℕ → ℕ) → ℕ → ℕ
tail v E f u = largest v (λ w. pick (E u w) (get_or (longest_from v E f 16) w 0) 0)

-- a chain after u: an edge leads from u to its first vertex
pub data After (v : ℕ) (E : ℕ → ℕ → Bool) (u : ℕ) : List ℕ → Type 0 where
  after : {w : ℕ} {c : List ℕ} → E u w ≡ true → Chain v E (w ∷ c) → After v E u (w ∷ c)

-- what a tail is: no chain after u has more, and one has as much, or u has no successor and its tail is 0
pub record IsTail (v : ℕ) (E : ℕ → ℕ → Bool) (f : ℕ → ℕ) (u x : ℕ) : Type 0 where
  pub bounds : (c : List ℕ) → After v E u c → sum_along f c ≤ x
  pub reached : ((x ≡ 0) × ((w : ℕ) → w < v → E u w ≡ false)) ⊎ ((c : List ℕ) × After v E u c × (sum_along f c ≡ x))

-- The tails of successors and times as they lie in memory, sixteen a task; 0 where there is a cycle.
unfoldable pub tails_of : List ℕ → List ℕ → List ℕ
tails_of succ times = row 16 (λ u. pick (acyclic succ) (tail 16 (edge succ) (λ w. get_or times w 0) u) 0)
