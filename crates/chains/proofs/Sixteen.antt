-- There is a sum for each vertex, the set of all sixteen holds each, and a set without one of its members is smaller as a number.
use mathlib.Core.Path.{◌≡◌, refl, sym, ap, ◌∙◌}
use mathlib.Core.Logic.{◌⊎◌, inl, inr}
use mathlib.Core.Bool.{Bool, true, false, not, ◌&&◌}
use Prim.Native.Nat.{ℕ, suc, ◌-◌, ◌*◌, ◌/◌, ◌%◌, ◌^◌, ◌<◌}
use native.Mathlib.Omega.{arith}
use native.Mathlib.Nat.{mod-lt}
use native.Mathlib.Decide.{ℕ_discrete, dec_lt}
use lib.ListN.{length}
use lib.Bits.{bit_and, and_le_l}
use borrow.Author.Tests.{eq-eqb, ne_eqb}
use Rattle.graph.specs.Words.{bit, is_in}
use Rattle.graph.specs.Graph.{one_more, longest_from}
use Rattle.graph.proofs.Facts.{clash, length_row, row_in}
use Rattle.graph.proofs.Bits.{bit_and_lem, bit_past, one_less}
use Rattle.graph.proofs.Members.{members_full, in_members}

pub from_many : (v : ℕ) (E : ℕ → ℕ → Bool) (f : ℕ → ℕ) (n : ℕ) → length (longest_from v E f (suc n)) ≡ v
unfolding longest_from one_more
from_many v E f n = length_row v _

pub full : (k : ℕ) → k < 16 → bit 65535 k ≡ true
full k h = sym (in_members 65535 k h) ∙ ap (is_in k) members_full ∙ row_in 16 k h

-- whether u is in a set, as the code says it
pub not_in : (left u : ℕ) → left / 2 ^ u % 2 ≡ 0 → bit left u ≡ false
unfolding bit
not_in left u h = ne_eqb (left / 2 ^ u % 2) 1 (λ e. omega arith)

pub is_in_lem : (left u : ℕ) → (left / 2 ^ u % 2 ≡ 0 → ⊥) → bit left u ≡ true
unfolding bit
is_in_lem left u h = let d : left / 2 ^ u % 2 ≡ 1 = omega (arith, mod-lt (left / 2 ^ u) {m = 2} (omega arith)) in eq-eqb (left / 2 ^ u % 2) 1 d

-- the set without u, as the code says it
abbrev pub without : ℕ → ℕ → ℕ
without left u = bit_and left (65535 - 1 * 2 ^ u % 65536)

module _ (left u : ℕ) (b : u < 16) where
  pub without_here : bit (without left u) u ≡ false
  without_here = one_less left u u b b ∙ ap (λ (d : Bool). bit left u && not d) (eq-eqb u u refl) ∙ none (bit left u)
    where
      none : (d : Bool) → (d && false) ≡ false
      none true = refl
      none false = refl

  pub without_still : (k : ℕ) → bit left k ≡ false → bit (without left u) k ≡ false
  without_still k s = bit_and_lem left (65535 - 1 * 2 ^ u % 65536) k ∙ ap (λ (d : Bool). d && bit (65535 - 1 * 2 ^ u % 65536) k) s

  pub without_new : left < 2 ^ 16 → (k : ℕ) → bit (without left u) k ≡ false → (bit left k ≡ false) ⊎ (k ≡ u)
  without_new small k i = elim (ℕ_discrete k u) [
    | yes e ↦ inr e
    | no d ↦ elim (dec_lt k 16) [
      | yes c ↦ inl (sym (out (bit left k)) ∙ sym (one_less left u k b c ∙ ap (λ (n : Bool). bit left k && not n) (ne_eqb k u d)) ∙ i)
      | no c ↦ inl (bit_past left 16 k small (omega arith))
    ]
  ]
    where
      out : (n : Bool) → (n && true) ≡ n
      out true = refl
      out false = refl

  pub without_less : bit left u ≡ true → without left u < left
  without_less here =
      let d : without left u ≡ left → ⊥ = λ e. clash (ap (λ (n : ℕ). bit n u) e ∙ here) without_here in
      omega (arith, and_le_l left (65535 - 1 * 2 ^ u % 65536))
