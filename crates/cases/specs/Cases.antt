-- What the crate's contracts cite.
use Rattle.std.specs.Prelude.{◌≡◌, ℕ, ◌*◌, ◌%◌, ◌^◌, ◌<◌, ◌≤◌, Bool, true, false, List, length, fold, bit_xor}
use Rattle.std.specs.declared.option.Option.{Option}
use Rattle.std.specs.Int.{w16, from_le_bytes}
use Rattle.std.specs.Io.KnownBytes.{Consumes, IsAtEnd, Keeps}
use Rattle.streams.specs.Reading.{Ended}

-- one byte more in a checksum: 32-bit FNV-1a
abbrev pub with_byte : ℕ → ℕ → ℕ
with_byte sum b = (bit_xor sum b * 16777619) % 2 ^ 32

-- the checksum of some bytes, on from one of those before them
abbrev pub with_bytes : ℕ → List ℕ → ℕ
with_bytes sum bytes = fold with_byte sum bytes

-- where a checksum begins
abbrev pub first_sum : ℕ
first_sum = 2166136261

-- the file after a length was read: the one before where that is 0, else as many of the next bytes, or those that there are
abbrev pub FileOf : Option (List ℕ) → Option (List ℕ) → ℕ → List ℕ → List ℕ → Type 0
FileOf before after wanted held file =
    (wanted ≡ 0 → (file ≡ held) × Keeps before after)
    × (0 < wanted → (length file ≤ wanted) × Consumes before after file × (length file < wanted → IsAtEnd after))

-- the next case's file, its length in two bytes before it; the one before, at the input's end
abbrev pub NextFile : Option (List ℕ) → Option (List ℕ) → List ℕ → List ℕ → Bool → Type 0
NextFile old new held file true = (head : List ℕ) × (between : Option (List ℕ)) × (length head ≡ 2) × Consumes old between head × FileOf between new (from_le_bytes w16 head) held file
NextFile old new held file false = Ended old new 2 × (file ≡ held)
