-- Step 2 in code: what remains of a slot and what holds its vertices back, as sets, give the set of its ready ones.
use mathlib.Core.Path.{◌≡◌, refl, ap, ◌∙◌}
use mathlib.Core.Bool.{Bool, ◌&&◌, not}
use mathlib.Core.List.{List}
use Prim.Native.Nat.{ℕ, ◌-◌, ◌^◌, ◌≤◌, ◌<◌, min}
use native.Mathlib.Omega.{arith}
use native.Mathlib.Decide.{dec_lt}
use lib.Bits.{bit_and, and_le_r}
use borrow.Author.Tests.{le-ltb}
use Rattle.graph.specs.Words.{flag, bit, set_of}
use Rattle.graph.specs.Graph.{edge, held_back}
use Rattle.graph.proofs.Members.{bit_without}
use Rattle.graph.proofs.Sets.{set_small, bit_set, set_is}
use Rattle.graph.proofs.Held.{held_by_set}
use Rattle.slots.specs.Slots.{at, something_left, is_ready}
use Rattle.slots.proofs.Behind.{left_in_lem}

module _ (succs : List ℕ) (v : ℕ) (rest : List ℕ) (s unfinished behind : ℕ) (o : unfinished ≡ set_of 16 (something_left rest s))
    (q : behind ≡ set_of 16 (held_back (min v 16) (edge succs) (λ u. flag (bit unfinished u)))) where
  small : behind < 2 ^ 16
  small = rw q (set_small (held_back (min v 16) (edge succs) (λ u. flag (bit unfinished u))) 16)

  held : s < 64 → (u : ℕ) → u < 16 → bit behind u ≡ held_back (min v 16) (edge succs) (at rest s) u
  held h u b =
      ap (λ (x : ℕ). bit x u) q
      ∙ bit_set 16 (held_back (min v 16) (edge succs) (λ u. flag (bit unfinished u))) u b
      ∙ held_by_set (min v 16) (edge succs) (at rest s) unfinished (omega arith) (left_in_lem rest s h unfinished o) u

  past : 64 ≤ s → (u : ℕ) → (something_left rest s u && not (bit behind u)) ≡ (something_left rest s u && not (held_back (min v 16) (edge succs) (at rest s) u))
  unfolding something_left
  past h u = rw (le-ltb s 64 h) refl

  -- of any slot: past the sixty-fourth nothing remains
  behind_at : (u : ℕ) → u < 16 → (something_left rest s u && not (bit behind u)) ≡ is_ready succs v rest s u
  unfolding is_ready
  behind_at u b = elim (dec_lt s 64) [
    | yes h ↦ ap (λ (c : Bool). something_left rest s u && not c) (held h u b)
    | no h ↦ past (omega arith) u
  ]

  pub ready_set : bit_and unfinished (65535 - behind) ≡ set_of 16 (is_ready succs v rest s)
  ready_set =
      let n = and_le_r unfinished (65535 - behind) in
      set_is 16 (bit_and unfinished (65535 - behind)) (is_ready succs v rest s) (omega arith)
      (λ u b.
      bit_without unfinished behind small u b
      ∙ ap (λ (c : Bool). c && not (bit behind u)) (ap (λ (x : ℕ). bit x u) o ∙ bit_set 16 (something_left rest s) u b)
      ∙ behind_at u b)
