-- THE SHARP MARGIN'S RANGE, for every good table, so for every file that is read: from minus 120,000,226,500,000 up to 8,000,000. The high end is m · D. For
-- the low end the others' due work is at most 15 · 8 · D · (D + 1), and what is due of its own jobs with four times len is at most two and a half times D
-- and 64,000,000.
use mathlib.Core.Path.{◌≡◌, sym, ap, ◌∙◌}
use mathlib.Core.List.{List}
use Prim.Native.Nat.{ℕ, suc, ◌+◌, ◌*◌, ◌-◌, ◌≤◌, ◌<◌}
use native.Mathlib.Omega.{arith}
use native.Mathlib.Nat.{mul-add, add-mul, mul-le-mul_left, mul-le-mul_right}
use native.Mathlib.Decide.{dec_le}
use lib.IntN.{ℤ, pos, neg_ℤ, ◌+ℤ◌, -ℤ-+ℤ_cancel}
use lib.Signed.{◌≤ℤ◌}
use Rattle.table.specs.declared.Table.{Table}
use Rattle.table.specs.declared.Outcome.TheVariants.{Read}
use Rattle.table.specs.Memory.{D}
use Rattle.table.specs.Reading.{read}
use Rattle.table.specs.Good.{GoodTable}
use Rattle.table.proofs.Sound.{read_good}
use Rattle.verdict.specs.Verdicts.{len}
use Rattle.verdict.proofs.Amounts.{vol_high, len_vol, allowance_high}
use Rattle.verdict.proofs.Margins.{minus_low, minus_high, high_end}
use Rattle.sharp.specs.Sharp.{due_from, sharp_due, sharp_margin}
use Rattle.sharp.proofs.Due.{own_high, sharp_high}

-- ---- THE SHARP MARGIN with what it was lessened by is m times D
pub sharp_margin_is : (t : Table) (k : ℕ) → sharp_margin t k +ℤ pos ((t.m - 1) * len t k + sharp_due t k) ≡ pos (t.m * D t k)
unfolding sharp_margin
sharp_margin_is t k = -ℤ-+ℤ_cancel (pos (t.m * D t k)) (pos ((t.m - 1) * len t k + sharp_due t k))

module _ (t : Table) (good : GoodTable t) (k : ℕ) (b : k < t.n) where
  -- (m - 1) · len and what is due of its own jobs, both twice: len four times with those jobs, and m - 5 times 16,000,000 at most;
  -- (m - 5) · (16,000,000 - D) grows with m
  own_spent : (m : ℕ) → m ≤ 7 → 2 * (m * len t k + due_from t k k) + 16 * D t k ≤ 2 * (suc m * D t k) + 5 * D t k + 224000000
  own_spent m h = elim (dec_le m 4) [
    | yes l ↦ let d = (good.each k b).D_high in omega (arith, own_high t good k b, mul-le-mul_right (len t k) l)
    | no l ↦
        let d = (good.each k b).D_high in
        let j : ℕ = m - 4 in
        let few : j ≤ 3 = omega arith in
        let e : m ≡ 4 + j = omega arith in
        let s : suc m ≡ 5 + j = omega arith in
        let f : ℕ = 16000000 - D t k in
        let w : D t k + f ≡ 16000000 = omega arith in
        let c : len t k ≤ 16000000 = omega (arith, len_vol t good k b, vol_high t good k b) in
        omega (
          arith,
          own_high t good k b,
          ap (λ (x : ℕ). x * len t k) e ∙ add-mul 4 j (len t k),
          ap (λ (x : ℕ). x * D t k) s ∙ add-mul 5 j (D t k),
          mul-le-mul_left j c,
          sym (ap (λ (x : ℕ). j * x) w) ∙ mul-add j (D t k) f,
          mul-le-mul_right {m = j} {n = 3} f few,
        )
  ]

  pub sharp_spent_most : (t.m - 1) * len t k + sharp_due t k ≤ t.m * D t k + 120000226500000
  sharp_spent_most =
      let m = good.m_low in
      let h = good.m_high in
      let d = (good.each k b).D_high in
      let e : suc (t.m - 1) ≡ t.m = omega arith in
      let l : D t k + 1 ≤ 1000001 = omega arith in
      omega (arith, own_spent (t.m - 1) (omega arith), ap (λ (x : ℕ). x * D t k) e, sharp_high t good k b, mul-le-mul_left (D t k) l)

  pub sharp_spent_least : t.m * D t k ≤ (t.m - 1) * len t k + sharp_due t k + 8000000
  sharp_spent_least = omega (arith, allowance_high t good k b)

-- ---- BOTH ENDS
unfoldable pub sharp_low_end : ℤ
sharp_low_end = neg_ℤ (pos 120000226500000)

pub record SharpInRange (z : ℤ) : Type 0 where
  pub low : sharp_low_end ≤ℤ z
  pub high : z ≤ℤ high_end

pub sharp_range : (t : Table) → GoodTable t → (k : ℕ) → k < t.n → SharpInRange (sharp_margin t k)
unfolding sharp_margin sharp_low_end high_end
sharp_range t good k b = record {
  low = minus_low (t.m * D t k) ((t.m - 1) * len t k + sharp_due t k) 120000226499999 (omega (arith, sharp_spent_most t good k b));
  high = minus_high (t.m * D t k) ((t.m - 1) * len t k + sharp_due t k) 8000000 (sharp_spent_least t good k b);
}

-- so for every file that is read
pub sharp_file_range : (s : List ℕ) → (read s).outcome ≡ Read → (k : ℕ) → k < (read s).table.n → SharpInRange (sharp_margin (read s).table k)
sharp_file_range s e k b = sharp_range (read s).table (read_good s e) k b
