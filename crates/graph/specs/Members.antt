-- A step over the members of a set of bits.
use Rattle.std.specs.Prelude.{◌≡◌, ◌-◌, ◌<◌, ℕ, Option, MatchOption, bit_and}
use Rattle.std.specs.Int.Count.{count_trailing_zeros}
use Rattle.graph.specs.declared.set.Members.{Members}

-- the lowest that is still to come is taken, or none is left now or later
abbrev pub TakesLowest : Members → Option ℕ → Members → Type 0
TakesLowest old taken new =
    MatchOption taken
    ((old.rest ≡ 0) × (new.rest ≡ 0))
    (λ lowest. (0 < old.rest)
    × (lowest ≡ count_trailing_zeros 64 old.rest)
    × (lowest < 64)
    × (new.rest ≡ bit_and old.rest (old.rest - 1)))
