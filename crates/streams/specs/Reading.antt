-- What reading takes from an input, whose bytes are known or not.
use Rattle.std.specs.Prelude.{◌≡◌, ℕ, ◌-◌, ◌<◌, ◌≤◌, min, List, length, take, drop, replicate, MatchOption}
use Rattle.std.specs.declared.option.Option.{Option}
use Rattle.std.specs.Io.KnownBytes.{Consumes, IsAtEnd}

-- the input had fewer than n bytes left, and has none now
abbrev pub Ended : Option (List ℕ) → Option (List ℕ) → ℕ → Type 0
Ended old new n = (rest : List ℕ) × (length rest < n) × Consumes old new rest × IsAtEnd new

-- the next n bytes, which the input has lost; none where it had fewer
abbrev pub NextBytes : Option (List ℕ) → Option (List ℕ) → ℕ → Option (List ℕ) → Type 0
NextBytes old new n found = MatchOption found (Ended old new n) (λ bytes. (length bytes ≡ n) × Consumes old new bytes)

-- the number that the next n bytes stand for
abbrev pub NextNumber : Option (List ℕ) → Option (List ℕ) → ℕ → (List ℕ → ℕ) → Option ℕ → Type 0
NextNumber old new n value found = MatchOption found (Ended old new n) (λ x. (bytes : List ℕ) × (length bytes ≡ n) × (x ≡ value bytes) × Consumes old new bytes)

-- the next n bytes, which the input has lost; from where it ends zeros
abbrev pub PaddedBytes : Option (List ℕ) → Option (List ℕ) → ℕ → List ℕ → Type 0
PaddedBytes old new n bytes = (count : ℕ) × (count ≤ n) × Consumes old new (take count bytes) × (drop count bytes ≡ replicate (n - count) 0) × (count < n → IsAtEnd new)

-- count bytes stand at a buffer's front, which the input has lost: as many as were wanted, or those that it had, as far as the buffer holds them
abbrev pub FilledFront : Option (List ℕ) → Option (List ℕ) → ℕ → List ℕ → ℕ → Type 0
FilledFront old new wanted buf count =
    (count ≤ min wanted (length buf)) × Consumes old new (take count buf) × (count < min wanted (length buf) → IsAtEnd new)

-- a length in two bytes, and then as many bytes as `FilledFront` says; none where the input had no two bytes left
abbrev pub FilledSized : Option (List ℕ) → Option (List ℕ) → (List ℕ → ℕ) → List ℕ → Option ℕ → Type 0
FilledSized old new value buf found = MatchOption found (Ended old new 2) (λ count. (head : List ℕ) × (between : Option (List ℕ)) × (length head ≡ 2) × Consumes old between head × FilledFront between new (value head) buf count)
