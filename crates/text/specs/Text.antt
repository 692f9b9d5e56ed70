-- Text as bytes: document 01, "Examples by hand".
use Rattle.std.specs.Prelude.{List, [], ◌∷◌, ℕ, zero, suc, ◌+◌, ◌/◌, ◌%◌, ltb, ℤ, pos, negsuc}
use Prim.Native.Char.{code}
use Prim.Native.String.{String, [] as none, ◌∷◌ as then}
use Rattle.graph.specs.Words.{pick}

-- the bytes of a text
unfoldable pub text : String → List ℕ
text none = []
text (then c s) = code c ∷ text s

-- "each line ends with byte 10"
unfoldable pub newline : List ℕ
newline = 10 ∷ []

-- a number in decimal: its digits put before what is there already, k of them at most
unfoldable pub digits_before : ℕ → ℕ → List ℕ → List ℕ
digits_before zero x later = later
digits_before (suc k) x later = pick (ltb x 10) ((48 + x) ∷ later) (digits_before k (x / 10) ((48 + x % 10) ∷ later))

-- at most twenty digits, which is every number of 64 bits (`decimal_numeral`, `decimal_value`, `decimal_only`, proofs/Decimal.antt)
unfoldable pub decimal : ℕ → List ℕ
decimal x = digits_before 20 x []

-- "margin -4": with a minus sign, byte 45, where it is negative (`signed_value_lem`); `negsuc n` is the number -(n + 1)
unfoldable pub signed : ℤ → List ℕ
signed (pos n) = decimal n
signed (negsuc n) = 45 ∷ decimal (suc n)
