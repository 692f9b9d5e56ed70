-- What sharp number 0 says of a file, in natural numbers: it is read, as a good table, no chain is longer than its deadline and no sharp margin is
-- negative. And EACH FILE THAT THE OLD VERDICT ACCEPTS, THE SHARP ONE ACCEPTS: no more is due, and a len above its D would have shown in the old margin.
use mathlib.Core.Path.{◌≡◌, ap, ◌∙◌}
use mathlib.Core.Logic.{⊎_elim}
use mathlib.Core.List.{List}
use Prim.Native.Nat.{ℕ, ◌+◌, ◌*◌, ◌-◌, ◌≤◌, ◌<◌}
use native.Mathlib.Omega.{arith}
use lib.Signed.{clash_ℤ}
use Rattle.table.specs.declared.Table.{Table}
use Rattle.table.specs.declared.Outcome.TheVariants.{Read}
use Rattle.table.specs.Memory.{D}
use Rattle.table.specs.Reading.{read}
use Rattle.table.specs.Good.{GoodTable}
use Rattle.table.proofs.Sound.{read_good}
use Rattle.verdict.specs.declared.Verdict.{Verdict}
use Rattle.verdict.specs.Verdicts.{len, verdict}
use Rattle.verdict.proofs.Margins.{not_negative, not_less, chain_fits}
use Rattle.verdict.proofs.Accepts.{accepted}
use Rattle.sharp.specs.Sharp.{sharp_due, sharp_margin, sharp_on, sharp}
use Rattle.sharp.proofs.Due.{sharp_within}
use Rattle.sharp.proofs.Says.{Soon, sharp_table_says, sharp_got, says_0}

-- every task's sharp due work, and (m - 1) times its longest chain, within m times its deadline
abbrev pub SharpEnough : Table → Type 0
SharpEnough t = (k : ℕ) → k < t.n → (t.m - 1) * len t k + sharp_due t k ≤ t.m * D t k

pub record SharpAccepted (s : List ℕ) : Type 0 where
  pub read_well : (read s).outcome ≡ Read
  pub good : GoodTable (read s).table
  pub soon : Soon (read s).table
  pub margins : SharpEnough (read s).table

pub sharp_accepted : (s : List ℕ) → (sharp s).number ≡ 0 → SharpAccepted s
unfolding sharp_margin
sharp_accepted s h =
    let r = says_0 s h in
    record { read_well = r.0; good = read_good s r.0; soon = r.1.soon; margins = λ k b. not_negative _ _ (r.1.passes k b) }

-- ---- and the other way, of a good table
pub enough_accepts : (t : Table) → GoodTable t → Soon t → SharpEnough t → (sharp_on t).number ≡ 0
unfolding sharp_margin
enough_accepts t good soon enough = ⊎_elim
    (λ q. absurd (omega (arith, q.1.longer, soon (sharp_on t).task q.1.below)))
    (⊎_elim
    (λ q. absurd (clash_ℤ q.1.negative (rw q.1.its_margin (not_less _ _ (enough (sharp_on t).task q.1.below)))))
    (λ q. q.0))
    (sharp_table_says t good)

-- ---- THE OLD YES IS A SHARP YES
pub sharp_accepts : (s : List ℕ) → (verdict s).number ≡ 0 → (sharp s).number ≡ 0
sharp_accepts s h =
    let a = accepted s h in
    let t = (read s).table in
    ap (λ (v : Verdict). v.number) (sharp_got s a.read_well)
    ∙ enough_accepts t a.good (λ k b. chain_fits t a.good k b (a.margins k b)) (λ k b. omega (arith, a.margins k b, sharp_within t k))
