-- Bytes laid into a buffer: what each function of this crate does to the buffer that it is lent.
use Rattle.std.specs.Prelude.{Bool, ◌&&◌, List, ℕ, ◌+◌, ◌-◌, leb, ltb, length, get_or}
use Rattle.graph.specs.Words.{pick, row}

-- whether place k is one of the n places from `at` on
unfoldable pub within : ℕ → ℕ → ℕ → Bool
within at n k = leb at k && ltb k (at + n)

-- the buffer with the list l laid into it from place `at` on; what falls outside the buffer is cut off
unfoldable pub laid : List ℕ → ℕ → List ℕ → List ℕ
laid buf at l = row (length buf) (λ k. pick (within at (length l) k) (get_or l (k - at) 0) (get_or buf k 0))
