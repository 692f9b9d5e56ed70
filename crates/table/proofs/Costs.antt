-- "costs lie in one row of 256 numbers, sixteen a task": the row after a task's own sixteen costs were put into it.
use mathlib.Core.Path.{◌≡◌, sym, ap, ◌∙◌}
use mathlib.Core.Bool.{Bool}
use mathlib.Core.List.{List}
use Prim.Native.Nat.{ℕ, ◌+◌, ◌*◌, ◌/◌, ◌%◌, ◌<◌}
use native.Mathlib.Omega.{arith}
use native.Mathlib.Decide.{dec_lt}
use lib.ListN.{length, get_or}
use lib.Dec.{eqb}
use borrow.Author.Tests.{eq-eqb, ne_eqb}
use Rattle.graph.specs.Words.{pick}
use Rattle.graph.proofs.Facts.{length_row, row_at, past_end}
use Rattle.table.specs.Reading.{put_costs}

-- the row keeps its length
pub put_length : (costs : List ℕ) (i : ℕ) (own : List ℕ) → length (put_costs costs i own) ≡ 256
unfolding put_costs
put_length costs i own = length_row 256 _

pub put_at : (costs : List ℕ) (i : ℕ) (own : List ℕ) (k : ℕ) → k < 256
    → get_or (put_costs costs i own) k 0 ≡ pick (eqb (k / 16) i) (get_or own (k % 16) 0) (get_or costs k 0)
unfolding put_costs
put_at costs i own k h = row_at 256 _ k 0 h

-- task i has its own costs
pub put_own : (costs : List ℕ) (i : ℕ) (own : List ℕ) (u : ℕ) → i < 16 → u < 16 → get_or (put_costs costs i own) (16 * i + u) 0 ≡ get_or own u 0
put_own costs i own u hi hu =
    let q : (16 * i + u) / 16 ≡ i = omega arith in
    let r : (16 * i + u) % 16 ≡ u = omega arith in
    put_at costs i own (16 * i + u) (omega arith)
    ∙ ap (λ (b : Bool). pick b (get_or own ((16 * i + u) % 16) 0) (get_or costs (16 * i + u) 0)) (eq-eqb ((16 * i + u) / 16) i q)
    ∙ ap (λ (x : ℕ). get_or own x 0) r

-- the other tasks keep theirs
pub put_other : (costs : List ℕ) (i : ℕ) (own : List ℕ) (k : ℕ) → length costs ≡ 256 → (k / 16 ≡ i → ⊥) → get_or (put_costs costs i own) k 0 ≡ get_or costs k 0
put_other costs i own k n d = elim (dec_lt k 256) [
  | yes h ↦ put_at costs i own k h ∙ ap (λ (b : Bool). pick b (get_or own (k % 16) 0) (get_or costs k 0)) (ne_eqb (k / 16) i d)
  | no h ↦ past_end (put_costs costs i own) k 0 (omega (arith, put_length costs i own)) ∙ sym (past_end costs k 0 (omega arith))
]
