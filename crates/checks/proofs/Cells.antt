-- A field at a place, from what stands there: the reader's test of a number is the test of the number that was put there.
use mathlib.Core.Path.{◌≡◌}
use mathlib.Core.Bool.{◌&&◌, not, and-true}
use mathlib.Core.List.{List, ◌∷◌, ◌++◌}
use Prim.Native.Nat.{ℕ, ◌+◌, ◌*◌, ◌/◌, ◌%◌, ◌^◌, ◌≤◌, ◌<◌}
use native.Mathlib.Omega.{arith}
use lib.ListN.{length, drop}
use lib.Dec.{ltb, eqb}
use borrow.Author.Tests.{le-leb, lt-ltb}
use Rattle.table.specs.declared.Outcome.TheVariants.{Range, Ticks}
use Rattle.table.specs.Reading.{field, ranged, byte_at, ticks_at, edge_ok, edge_at}
use Rattle.table.specs.Writing.{bytes4}
use Rattle.checks.specs.Checking.{edge_tested}
use Rattle.table.proofs.FieldForth.{cell, cell_in, cell_next, four_in, four_value}

pub byte_as : (lo hi : ℕ) (s : List ℕ) (at x : ℕ) (r : List ℕ) → drop at s ≡ x ∷ r → byte_at lo hi s at ≡ ranged Range lo hi at x
unfolding byte_at field
byte_as lo hi s at x r e =
    let i = cell_in s at x r e in
    rw (le-leb (at + 1) (length s) (omega arith), cell s at x r e)

pub ticks_as : (lo : ℕ) (s : List ℕ) (at x : ℕ) (r : List ℕ) → x < 2 ^ 32 → drop at s ≡ bytes4 x ++ r → ticks_at lo s at ≡ ranged Ticks lo 1000000 at x
unfolding ticks_at field
ticks_as lo s at x r h e = rw (le-leb (at + 4) (length s) (four_in s at x r e), four_value s at x r h e)

-- an edge whose key is at least `low` and has its from below v
pub edge_as : (v low : ℕ) (s : List ℕ) (at k : ℕ) (r : List ℕ) → low ≤ k → k < 16 * v → drop at s ≡ k / 16 ∷ k % 16 ∷ r
    → edge_at v low s at ≡ edge_tested v k at
unfolding edge_at edge_ok field edge_tested
edge_as v low s at k r l h e =
    let n = cell_next s at (k / 16) (k % 16 ∷ r) e in
    let i = cell_in s (at + 1) (k % 16) r n in
    let q : 16 * (k / 16) + k % 16 ≡ k = omega arith in
    rw (
      le-leb (at + 2) (length s) (omega arith),
      cell s at (k / 16) (k % 16 ∷ r) e,
      cell s (at + 1) (k % 16) r n,
      lt-ltb (k / 16) v (omega arith),
      q,
      le-leb low k l,
      and-true (ltb (k % 16) v && not (eqb (k / 16) (k % 16))),
    )
