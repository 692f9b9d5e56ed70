-- WHY THERE IS NO 21 (M-106). Document 01 had it: "no margin is negative but some len exceeds its D; lowest such task and its
-- margin". No table gets that far, so taking the number out changes no answer.
use mathlib.Core.Path.{◌≡◌, sym, ap, ◌∙◌}
use mathlib.Core.Logic.{⊎_elim}
use mathlib.Core.Bool.{false}
use mathlib.Core.List.{List}
use Prim.Native.Nat.{ℕ, ◌+◌, ◌*◌, ◌-◌, ◌≤◌, ◌<◌}
use native.Mathlib.Omega.{arith}
use lib.Dec.{ltb}
use lib.IntN.{pos}
use lib.Signed.{lt_z, le_z, ◌≤ℤ◌}
use borrow.Author.Tests.{le-ltb}
use Rattle.graph.specs.Words.{all, lowest, lowest_or}
use Rattle.graph.proofs.Facts.{lowest_or_none}
use Rattle.table.specs.declared.Table.{Table}
use Rattle.table.specs.declared.Outcome.TheVariants.{Read}
use Rattle.table.specs.Memory.{D}
use Rattle.table.specs.Reading.{read}
use Rattle.table.specs.Good.{GoodTable}
use Rattle.table.proofs.Sound.{read_good}
use Rattle.verdict.specs.declared.Verdict.{Verdict}
use Rattle.verdict.specs.Verdicts.{len, due, margin, naming, verdict_on, verdict}
use Rattle.verdict.proofs.Margins.{not_negative, chain_fits}
use Rattle.verdict.proofs.Orders.{le_yes, not_lt, search_low, lowest_or_is}
use Rattle.verdict.proofs.Says.{Says, unreadable, refused, accepted, verdict_says}

module _ (t : Table) (good : GoodTable t) where
  -- a task whose margin is not negative has no chain longer than its D: (m - 1) · len + due is at least m · len
  pub len_within : (k : ℕ) → k < t.n → pos 0 ≤ℤ margin t k → len t k ≤ D t k
  unfolding margin
  len_within k b h = chain_fits t good k b (not_negative (t.m * D t k) ((t.m - 1) * len t k + due t k) h)

  -- document 01's verdict, with its 21
  unfoldable pub with21 : Verdict
  with21 =
      lowest_or t.n (λ k. lt_z (margin t k) (pos 0)) (naming 20 t)
      (lowest_or t.n (λ k. ltb (D t k) (len t k)) (naming 21 t)
      (naming 0 t (lowest 255 t.n (λ k. all t.n (λ i. le_z (margin t k) (margin t i))))))

  -- THE SAME ANSWER, for every good table
  pub same_with_21 : with21 ≡ verdict_on t
  unfolding with21 verdict_on
  same_with_21 = ⊎_elim
      (λ r. lowest_or_is t.n (λ k. lt_z (margin t k) (pos 0)) (naming 20 t) _ r.0 r.1
      ∙ sym (lowest_or_is t.n (λ k. lt_z (margin t k) (pos 0)) (naming 20 t) _ r.0 r.1))
      (λ h. ap (lowest_or t.n (λ k. lt_z (margin t k) (pos 0)) (naming 20 t))
      (lowest_or_none t.n (λ k. ltb (D t k) (len t k)) (naming 21 t) _ (λ k b. le-ltb (D t k) (len t k) (len_within k b (passing h k b)))))
      (search_low t.n (λ k. lt_z (margin t k) (pos 0)))
    where
      passing : ((j : ℕ) → j < t.n → lt_z (margin t j) (pos 0) ≡ false) → (k : ℕ) → k < t.n → pos 0 ≤ℤ margin t k
      passing h k b = le_yes (pos 0) (margin t k) (not_lt (margin t k) (pos 0) (h k b))

-- so for every file that is read: no margin negative and a len above its D do not go together
pub file_len_within : (s : List ℕ) → (read s).outcome ≡ Read → (k : ℕ) → k < (read s).table.n → pos 0 ≤ℤ margin (read s).table k
    → len (read s).table k ≤ D (read s).table k
file_len_within s e = len_within (read s).table (read_good s e)

-- NO FILE YIELDS 21
pub never_21 : (s : List ℕ) → (verdict s).number ≡ 21 → ⊥
never_21 s h = go (verdict s) (verdict_says s) h
  where
    go : (v : Verdict) → Says s v → v.number ≡ 21 → ⊥
    go v (unreadable u) h = omega arith
    go v (refused e n r) h = omega arith
    go v (accepted e n r) h = omega arith
