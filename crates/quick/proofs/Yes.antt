-- No at a task that spends more than it may, yes where no task does: that is whether the verdict is 0.
use mathlib.Core.Path.{◌≡◌, refl, sym, ap, ap₂, ◌∙◌}
use mathlib.Core.Logic.{⊎_elim}
use mathlib.Core.Bool.{Bool, true, false}
use mathlib.Core.List.{List}
use Prim.Native.Nat.{ℕ, ◌+◌, ◌*◌, ◌-◌, ◌≤◌, ◌<◌}
use native.Mathlib.Omega.{arith}
use native.Mathlib.Decide.{ℕ_discrete}
use lib.Dec.{ltb, eqb}
use lib.ListN.{length, get_or, set, take}
use lib.Seq.{get_or-set_same, get_or-set_other, get_or-take, length-take-le}
use lib.Signed.{clash_ℤ}
use borrow.Author.Tests.{ltb-true, ltb-false, ne_eqb}
use Rattle.graph.specs.Words.{sum, row}
use Rattle.graph.proofs.Facts.{sum_same}
use Rattle.graph.specs.Graph.{longest_of}
use Rattle.table.specs.declared.Table.{Table}
use Rattle.table.specs.declared.Outcome.TheVariants.{Read}
use Rattle.table.specs.declared.Loaded.{Loaded}
use Rattle.table.specs.Memory.{D, T, succ}
use Rattle.table.specs.Reading.{read}
use Rattle.table.specs.Good.{GoodTable}
use Rattle.table.proofs.PartLaws.{told_other}
use Rattle.table.proofs.Prefix.{read_prefix}
use Rattle.verdict.specs.declared.Verdict.{Verdict}
use Rattle.verdict.specs.Verdicts.{vol, len, rounded_up, due, margin, verdict_on, verdict_read, verdict}
use Rattle.verdict.proofs.Amounts.{vol_high, len_vol, allowance_high}
use Rattle.verdict.proofs.Margins.{not_negative, not_less}
use Rattle.verdict.proofs.Says.{Says, unreadable, refused, accepted, table_says, verdict_says}
use Rattle.verdict.proofs.Figured.{len_found}
use Rattle.verdict.proofs.Judged.{good_read, verdict_got}
use Rattle.quick.specs.declared.sums.Load.{Load}
use Rattle.quick.specs.Quick.{quick}
use Rattle.quick.specs.Loads.{no_load, load, Loads, owed}

-- what task k spends, and that it is within what it may
abbrev pub Spent : Table → ℕ → ℕ
Spent t k = (t.m - 1) * len t k + due t k

abbrev pub Passes : Table → ℕ → Type 0
Passes t k = Spent t k ≤ t.m * D t k

-- ---- the loads: none yet, one more, and the first n of the sixteen
pub loads_none : (t : Table) (l : List Load) → Loads t 0 l
loads_none t l = record { period_is = λ i b. absurd (omega arith); vol_is = λ i b. absurd (omega arith) }

pub loads_next : (t : Table) (i : ℕ) (l : List Load) (x : Load) → i < length l → x.period ≡ T t i → x.vol ≡ vol t i → Loads t i l → Loads t (i + 1) (set l i x)
loads_next t i l x b p v r = record {
  period_is = λ j c. elim (ℕ_discrete j i) [
    | yes q ↦ rw q (ap (λ (y : Load). y.period) (get_or-set_same l i x no_load b) ∙ p)
    | no q ↦ ap (λ (y : Load). y.period) (get_or-set_other l i j x no_load q) ∙ r.period_is j (omega arith)
  ];
  vol_is = λ j c. elim (ℕ_discrete j i) [
    | yes q ↦ rw q (ap (λ (y : Load). y.vol) (get_or-set_same l i x no_load b) ∙ v)
    | no q ↦ ap (λ (y : Load). y.vol) (get_or-set_other l i j x no_load q) ∙ r.vol_is j (omega arith)
  ];
}

pub loads_taken : (t : Table) (n : ℕ) (l : List Load) → n ≡ t.n → t.n ≤ length l → Loads t t.n l
    → (length (take n l) ≡ t.n) × Loads t (length (take n l)) (take n l)
loads_taken t n l e h r = (
  whole,
  record {
    period_is = λ i b. ap (λ (y : Load). y.period) (get_or-take n l i no_load (omega (arith, whole))) ∙ r.period_is i (omega (arith, whole));
    vol_is = λ i b. ap (λ (y : Load). y.vol) (get_or-take n l i no_load (omega (arith, whole))) ∙ r.vol_is i (omega (arith, whole));
  },
)
  where
    whole : length (take n l) ≡ t.n
    whole = length-take-le n l (omega arith) ∙ e

-- ---- a good table
module _ (t : Table) (good : GoodTable t) where
  pub no_at : (k : ℕ) → k < t.n → t.m * D t k < Spent t k → false ≡ eqb (verdict_on t).number 0
  unfolding margin
  no_at k b h = ⊎_elim
      (λ r. rw r.0)
      (λ r. absurd (omega (arith, not_negative (t.m * D t k) (Spent t k) (r.1.passes k b))))
      (table_says t good)

  pub yes_all : ((k : ℕ) → k < t.n → Passes t k) → true ≡ eqb (verdict_on t).number 0
  unfolding margin
  yes_all h = ⊎_elim
      (λ r. absurd (clash_ℤ r.1.negative (rw r.1.its_margin (not_less _ _ (h (verdict_on t).task r.1.below)))))
      (λ r. rw r.0)
      (table_says t good)

  -- ---- one task, over the loads of all
  module _ (k : ℕ) (b : k < t.n) (l : List Load) (n : ℕ) (whole : n ≡ t.n) (h : Loads t n l) where
    owed_is : owed l n (D t k) ≡ due t k
    unfolding owed due
    owed_is =
        ap (λ (x : ℕ). sum x (λ i. rounded_up (D t k) (load l i).period * (load l i).vol)) whole
        ∙ sum_same t.n _ _ (λ i c. ap₂ (λ (x y : ℕ). rounded_up (D t k) x * y) (h.period_is i (omega arith)) (h.vol_is i (omega arith)))

    -- what `due_within` requires
    pub within_ready : (D t k ≤ 1000000) × (t.m * D t k ≤ 8000000) × ((i : ℕ) → i < n → (1 ≤ (load l i).period) × ((load l i).vol ≤ 16000000))
    within_ready = (
      (good.each k b).D_high,
      allowance_high t good k b,
      λ i c.
          let d : i < t.n = omega arith in
          (omega (arith, (good.each i d).T_low, h.period_is i c), omega (arith, vol_high t good i d, h.vol_is i c)),
    )

    -- what it then gives
    pub over_due : (y : ℕ) → (t.m * D t k < y → t.m * D t k < owed l n (D t k)) → t.m * D t k < y → false ≡ eqb (verdict_on t).number 0
    over_due y f c = no_at k b (omega (arith, f c, owed_is))

    pub due_is : (y : ℕ) → (y ≤ t.m * D t k → y ≡ owed l n (D t k)) → y ≤ t.m * D t k → y ≡ due t k
    due_is y f c = f c ∙ owed_is

    -- the longest chain, as `chain_exceeds` finds it
    abbrev pub Longest : ℕ
    Longest = longest_of (succ t k) (row 16 (λ u. get_or t.costs (16 * k + u) 0))

    is_len : Longest ≡ len t k
    is_len = len_found t good k b Longest refl

    -- what it requires
    pub chain_ready : (k < 16) × (t.m - 1 ≤ 7) × ((load l k).vol ≤ 16000000) × (Longest ≤ (load l k).vol)
    chain_ready =
        let high = good.n_high in
        let m = good.m_high in
        let v = h.vol_is k (omega arith) in
        (omega arith, omega arith, omega (arith, vol_high t good k b), omega (arith, is_len, len_vol t good k b))

    -- what it then gives, where the due work y alone is not too much
    module _ (y : ℕ) (d : y ≡ due t k) (within : y ≤ t.m * D t k) where
      spent : (t.m - 1) * Longest + y ≡ Spent t k
      spent = ap₂ (λ (x z : ℕ). (t.m - 1) * x + z) is_len d

      pub over_spent : ltb (t.m * D t k - y) ((t.m - 1) * Longest) ≡ true → false ≡ eqb (verdict_on t).number 0
      over_spent e = no_at k b (omega (arith, spent, ltb-true (t.m * D t k - y) ((t.m - 1) * Longest) e))

      pub one_more_lem : ltb (t.m * D t k - y) ((t.m - 1) * Longest) ≡ false → ((j : ℕ) → j < k → Passes t j) → (j : ℕ) → j < k + 1 → Passes t j
      one_more_lem e r j l = elim (ℕ_discrete j k) [
        | yes i ↦ rw i (omega (arith, spent, ltb-false (t.m * D t k - y) ((t.m - 1) * Longest) e))
        | no i ↦ r j (omega arith)
      ]

-- ---- a file
module _ (s : List ℕ) (l : Loaded) (h : l ≡ read s) where
  pub quick_stop : (l.outcome ≡ Read → ⊥) → false ≡ quick s
  unfolding quick
  quick_stop n = go (verdict s) (verdict_says s)
    where
      go : (v : Verdict) → Says s v → false ≡ eqb v.number 0
      go v (unreadable u) = sym (ne_eqb v.number 0 (λ e. omega (arith, u.low)))
      go v (refused e q r) = rw q
      go v (accepted e q r) = absurd (n (ap (λ (x : Loaded). x.outcome) h ∙ e))

  pub quick_got : (r : Bool) → l.outcome ≡ Read → r ≡ eqb (verdict_on l.table).number 0 → r ≡ quick s
  unfolding quick
  quick_got r e q = q ∙ ap (λ (v : Verdict). eqb v.number 0) (verdict_got s l h (verdict_on l.table) e refl)

-- the first 5,061 bytes are enough
pub quick_prefix : (s : List ℕ) → quick (take 5061 s) ≡ quick s
unfolding quick verdict
quick_prefix s = ap (λ (r : Loaded). eqb (verdict_read r).number 0) (read_prefix s)

pub ruleset file-laws = (told_other, good_read, quick_stop, quick_got)
