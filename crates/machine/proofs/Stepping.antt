-- A loop `for s in Members::of(set)`: what Sweeping.antt and Gathering.antt say of the members still to come, at one step of the iterator.
use Rattle.std.proofs.Common.{◌≡◌, ℕ, Bool, true, false, List, set}
use mathlib.Core.Path.{subst⁻¹}
use Rattle.std.specs.declared.option.Option.TheVariants.{Some}
use Rattle.graph.specs.declared.set.Members.{Members}
use Rattle.graph.specs.Members.{TakesLowest}
use Rattle.machine.proofs.Sweeping.{Swept, swept_at}
use Rattle.machine.proofs.Gathering.{Gathered, gathered_one, gathered_skip}
use lib.Bits.{bit_or}
use Rattle.std.proofs.Common.{◌^◌}

module _ {old new : Members} {s : ℕ} (t : TakesLowest old (Some s) new) where
  pub swept_next {ℓ} : {X : Type ℓ} (m : ℕ) (d : X) (f : ℕ → X) (before : List X) (all : ℕ) (now : List X) → Swept m d f before all old.rest now → (x : X) → x ≡ f s
      → Swept m d f before all new.rest (set now s x)
  swept_next m d f before all now r x e = subst⁻¹ (λ (n : ℕ). Swept m d f before all n (set now s x)) t.3 (swept_at m d f before all old.rest now r t.0 s t.1 x e)

  module _ (test : ℕ → Bool) (from now : ℕ) (r : Gathered test from old.rest now) where
    pub gathered_next : test s ≡ true → Gathered test from new.rest (bit_or now (2 ^ s))
    gathered_next e = subst⁻¹ (λ (n : ℕ). Gathered test from n (bit_or now (2 ^ s))) t.3 (gathered_one test from old.rest now r t.0 s t.1 e)

    pub gathered_past : test s ≡ false → Gathered test from new.rest now
    gathered_past e = subst⁻¹ (λ (n : ℕ). Gathered test from n now) t.3 (gathered_skip test from old.rest now r t.0 s t.1 e)
