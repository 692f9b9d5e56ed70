-- A slot as the code marks it in a set, `1 << s`; the source of a slot as an option.
use Rattle.std.proofs.Common.{◌≡◌, ℕ, ◌*◌, ◌%◌, ◌^◌, ◌<◌, ◌≤◌, Bool, true, false, ltb, sym, refl, ap, ◌∙◌, one-mul, mod-eq_of_lt, arith, le-ltb, lt-ltb}
use native.Mathlib.Decide.{dec_lt}
use lib.Pow.{pow-lt}
use Rattle.std.specs.declared.option.Option.{Option}
use Rattle.std.specs.declared.option.Option.TheVariants.{Some, None}
use Rattle.std.proofs.lemmas.Option.{none-some, same_Some}
use Rattle.graph.specs.Words.{pick}
use Rattle.machine.specs.Rows.{source_by}

-- ---- one slot
pub one_slot : (s : ℕ) → s < 64 → 1 * 2 ^ s % 18446744073709551616 ≡ 2 ^ s
one_slot s b = ap (λ (n : ℕ). n % 18446744073709551616) (one-mul (2 ^ s)) ∙ mod-eq_of_lt (pow-lt b)

-- ---- the source of a slot
module _ (going s : ℕ) where
  abbrev pub origin : Option ℕ
  origin = pick (ltb (source_by going s) 64) (Some (source_by going s)) None

  pub is_source : (q : ℕ) → q < 64 → q ≡ source_by going s → Some q ≡ origin
  is_source q b e = rw (sym e, lt-ltb q 64 b) refl

  pub no_source : 64 ≡ source_by going s → None ≡ origin
  no_source e = rw (sym e) refl

  -- as the caller has it
  chosen : (b : Bool) → ltb (source_by going s) 64 ≡ b → origin ≡ pick b (Some (source_by going s)) None
  chosen b e = ap (λ (c : Bool). pick c (Some (source_by going s)) None) e

  pub source_there : (q : ℕ) → Some q ≡ origin → (q ≡ source_by going s) × (q < 64)
  source_there q e = elim (dec_lt (source_by going s) 64) [
    | yes b ↦ let z = same_Some q (source_by going s) (e ∙ chosen true (lt-ltb (source_by going s) 64 b)) in (z, omega (arith, z, b))
    | no b ↦ absurd (none-some q (sym (e ∙ chosen false (le-ltb (source_by going s) 64 (omega arith)))))
  ]

  pub source_missing : None ≡ origin → 64 ≤ source_by going s
  source_missing e = elim (dec_lt (source_by going s) 64) [
    | yes b ↦ absurd (none-some (source_by going s) (e ∙ chosen true (lt-ltb (source_by going s) 64 b)))
    | no b ↦ omega arith
  ]
