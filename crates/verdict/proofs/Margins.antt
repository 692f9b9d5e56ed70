-- M-109: "The margin's low end is now minus 240,000,168,000,000"; document 01: "up to at most 8,000,000". Proved for every good table, so
-- for every file that is read. Where a margin is not negative, len is within D.
use mathlib.Core.Path.{◌≡◌, refl, sym, ap, ◌∙◌}
use mathlib.Core.Bool.{Bool, true, false, cond}
use mathlib.Core.List.{List}
use Prim.Native.Nat.{ℕ, zero, suc, ◌+◌, ◌*◌, ◌-◌, ◌≤◌, ◌<◌}
use native.Mathlib.Omega.{arith}
use native.Mathlib.Nat.{mul-suc, mul-add, mul_comm, mul-le-mul_left, mul-le-mul_right}
use native.Mathlib.Decide.{dec_le}
use lib.Dec.{T, ltb, le→leb}
use lib.IntN.{ℤ, pos, negsuc, neg_ℤ, ◌+ℤ◌, ◌-ℤ◌, -ℤ-+ℤ_cancel}
use lib.Signed.{le_z, ◌≤ℤ◌}
use borrow.Author.Tests.{ltb-true, ltb-false}
use Rattle.table.specs.declared.Table.{Table}
use Rattle.table.specs.declared.Outcome.TheVariants.{Read}
use Rattle.table.specs.Memory.{D}
use Rattle.table.specs.Reading.{read}
use Rattle.table.specs.Good.{GoodTable}
use Rattle.table.proofs.Sound.{read_good}
use Rattle.verdict.specs.Verdicts.{len, due, margin}
use Rattle.verdict.proofs.Amounts.{vol_high, len_vol, vol_due, due_high, allowance_high}

-- ---- a difference of two numbers, and its order
pub minus_low : (a b l : ℕ) → b ≤ a + suc l → negsuc l ≤ℤ (pos a -ℤ pos b)
minus_low a zero l h = record { le = tt }
minus_low a (suc b) l h = record { le = go (ltb a (suc b)) refl }
  where
    go : (c : Bool) → ltb a (suc b) ≡ c → T (le_z (negsuc l) (cond c (negsuc (suc b - suc a)) (pos (a - suc b))))
    go true e = le→leb (suc b - suc a) l (omega arith)
    go false e = tt

pub minus_high : (a b h : ℕ) → a ≤ b + h → (pos a -ℤ pos b) ≤ℤ pos h
minus_high a zero h k = record { le = le→leb (a + 0) h (omega arith) }
minus_high a (suc b) h k = record { le = go (ltb a (suc b)) refl }
  where
    go : (c : Bool) → ltb a (suc b) ≡ c → T (le_z (cond c (negsuc (suc b - suc a)) (pos (a - suc b))) (pos h))
    go true e = tt
    go false e = le→leb (a - suc b) h (omega arith)

-- a difference that is not negative
pub not_negative : (a b : ℕ) → pos 0 ≤ℤ (pos a -ℤ pos b) → b ≤ a
not_negative a zero h = omega arith
not_negative a (suc b) h = go (ltb a (suc b)) refl h.le
  where
    go : (c : Bool) → ltb a (suc b) ≡ c → T (le_z (pos 0) (cond c (negsuc (suc b - suc a)) (pos (a - suc b)))) → suc b ≤ a
    go true e h = absurd h
    go false e h = ltb-false a (suc b) e

-- and one of what is not more
pub not_less : (a b : ℕ) → b ≤ a → pos 0 ≤ℤ (pos a -ℤ pos b)
not_less a zero h = record { le = le→leb 0 (a + 0) (omega arith) }
not_less a (suc b) h = record { le = go (ltb a (suc b)) refl }
  where
    go : (c : Bool) → ltb a (suc b) ≡ c → T (le_z (pos 0) (cond c (negsuc (suc b - suc a)) (pos (a - suc b))))
    go true e = absurd (omega (arith, ltb-true a (suc b) e))
    go false e = le→leb 0 (a - suc b) (omega arith)

-- ---- THE MARGIN with what it was lessened by is m times D
pub margin_is : (t : Table) (k : ℕ) → margin t k +ℤ pos ((t.m - 1) * len t k + due t k) ≡ pos (t.m * D t k)
unfolding margin
margin_is t k = -ℤ-+ℤ_cancel (pos (t.m * D t k)) (pos ((t.m - 1) * len t k + due t k))

-- ---- the same bounds in natural numbers
module _ (t : Table) (good : GoodTable t) (k : ℕ) (b : k < t.n) where
  -- m · 16,000,000 + 8 · D ≤ m · D + 8 · 16,000,000, since m ≤ 8 and D ≤ 16,000,000
  crossed : t.m * 16000000 + 8 * D t k ≤ t.m * D t k + 128000000
  crossed =
      let d = (good.each k b).D_high in
      let f : ℕ = 16000000 - D t k in
      let e : D t k + f ≡ 16000000 = omega arith in
      omega (arith, sym (ap (λ (x : ℕ). t.m * x) e) ∙ mul-add t.m (D t k) f, mul-le-mul_right f good.m_high)

  pub spent_most : (t.m - 1) * len t k + due t k ≤ t.m * D t k + 240000168000000
  spent_most =
      let l : len t k ≤ 16000000 = omega (arith, len_vol t good k b, vol_high t good k b) in
      let m = good.m_low in
      omega (arith, mul-le-mul_left (t.m - 1) l, due_high t good k b, vol_high t good k b, crossed, (good.each k b).D_high)

  -- m · D alone is at most 8,000,000; where every cost is 0 nothing is spent of it
  pub spent_least : t.m * D t k ≤ (t.m - 1) * len t k + due t k + 8000000
  spent_least = omega (arith, allowance_high t good k b)

  -- m · len ≤ (m - 1) · len + due, since len ≤ vol ≤ due
  pub chain_spent : t.m * len t k ≤ (t.m - 1) * len t k + due t k
  chain_spent =
      let m = good.m_low in
      let e : t.m ≡ suc (t.m - 1) = omega arith in
      omega (
        arith,
        mul_comm t.m (len t k),
        ap (λ (x : ℕ). len t k * x) e ∙ mul-suc (len t k) (t.m - 1),
        mul_comm (len t k) (t.m - 1),
        len_vol t good k b,
        vol_due t good k b,
      )

  -- so where what is spent is within m · D, no chain is longer than D
  pub chain_fits : (t.m - 1) * len t k + due t k ≤ t.m * D t k → len t k ≤ D t k
  chain_fits h = elim (dec_le (len t k) (D t k)) [
    | yes l ↦ l
    | no l ↦
        let w : suc (D t k) ≤ len t k = omega arith in
        let m = good.m_low in
        absurd (omega (arith, chain_spent, mul-le-mul_left t.m w, mul-suc t.m (D t k)))
  ]

-- ---- THE MARGIN'S RANGE, both ends
unfoldable pub low_end : ℤ
low_end = neg_ℤ (pos 240000168000000)

unfoldable pub high_end : ℤ
high_end = pos 8000000

pub record InRange (z : ℤ) : Type 0 where
  pub low : low_end ≤ℤ z
  pub high : z ≤ℤ high_end

pub margin_range : (t : Table) → GoodTable t → (k : ℕ) → k < t.n → InRange (margin t k)
unfolding margin low_end high_end
margin_range t good k b = record {
  low = minus_low (t.m * D t k) ((t.m - 1) * len t k + due t k) 240000167999999 (omega (arith, spent_most t good k b));
  high = minus_high (t.m * D t k) ((t.m - 1) * len t k + due t k) 8000000 (spent_least t good k b);
}

-- so for every file that is read
pub file_range : (s : List ℕ) → (read s).outcome ≡ Read → (k : ℕ) → k < (read s).table.n → InRange (margin (read s).table k)
file_range s e k b = margin_range (read s).table (read_good s e) k b
