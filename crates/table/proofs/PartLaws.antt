-- What the costs and the edges of a task give, field by field; and what those that were read say of the input.
use mathlib.Core.Path.{◌≡◌, refl, sym, ◌∙◌}
use mathlib.Core.Logic.{◌⊎◌, inl, inr, ⊎_elim}
use mathlib.Core.List.{List, [], ◌∷◌}
use Prim.Native.Nat.{ℕ, zero, suc, ◌+◌, ◌*◌, ◌≤◌}
use native.Mathlib.Omega.{arith}
use lib.ListN.{length, set}
use types.Run.{OneOf, miss}
use denote.Enum.Declared.{tag_of}
use Rattle.table.specs.declared.Outcome.{Outcome}
use Rattle.table.specs.contracts.Outcome.{the_type}
use Rattle.table.specs.declared.Outcome.TheVariants.{Read, Short, Mark, Range, Ticks, Order, Edge, Cycle, Extra}
use Rattle.std.specs.Prelude.{⊤, Result, Ok, Err}
use Rattle.table.specs.Numbers.{number}
use Rattle.table.specs.Reading.{CostsRead, onward, when_read, ticks_at, edge_at, costs_at, add_edge, edges_at}
use Rattle.table.specs.Parts.{told}
use Rattle.table.proofs.FieldLaws.{ticks_read}
use Rattle.table.proofs.FieldViews.{Bad, halted, bad_by, ticks_view}

-- ---- costs
pub costs_end : (s : List ℕ) (k at u : ℕ) (costs : List ℕ) → k ≡ 0 → record { outcome = Read; costs = costs } ≡ costs_at s k at u costs
unfolding costs_at
costs_end s k at u costs h = rw h

module _ (s : List ℕ) (k at u : ℕ) (costs : List ℕ) (j : ℕ) (more : k ≡ suc j) where
  pub costs_stop : (o : Outcome) → Err o ≡ ticks_at 0 s at → record { outcome = o; costs = costs } ≡ costs_at s k at u costs
  unfolding costs_at
  costs_stop o h = rw (more, ← h)

  pub costs_got : (x : ℕ) → Ok x ≡ ticks_at 0 s at → costs_at s j (at + 4) (u + 1) (set costs u x) ≡ costs_at s k at u costs
  unfolding costs_at
  costs_got x h = rw (more, ← h)

-- ---- edges
pub edges_end : (v : ℕ) (s : List ℕ) (k at low : ℕ) (succ : List ℕ) → k ≡ 0 → record { outcome = Read; succ = succ } ≡ edges_at v s k at low succ
unfolding edges_at
edges_end v s k at low succ h = rw h

module _ (v : ℕ) (s : List ℕ) (k at low : ℕ) (succ : List ℕ) (j : ℕ) (more : k ≡ suc j) where
  pub edges_stop : (o : Outcome) → Err o ≡ edge_at v low s at → record { outcome = o; succ = succ } ≡ edges_at v s k at low succ
  unfolding edges_at
  edges_stop o h = rw (more, ← h)

  pub edges_got : (key : ℕ) (next : List ℕ) → Ok key ≡ edge_at v low s at → next ≡ add_edge succ key → edges_at v s j (at + 2) (key + 1) next ≡ edges_at v s k at low succ
  unfolding edges_at
  edges_got key next h q = rw (more, ← h, q)

-- ---- an outcome that is not success is handed on as it stands
pub not_read {ℓ} : {X : Type ℓ} (o : Outcome) (stop : Outcome → X) (go : Unit {0} → X) → (o ≡ Read → ⊥) → stop o ≡ when_read o stop go
not_read Read stop go n = absurd (n refl)
not_read (Short p) stop go n = refl
not_read (Mark p) stop go n = refl
not_read (Range p) stop go n = refl
not_read (Ticks p) stop go n = refl
not_read (Order p) stop go n = refl
not_read (Edge p) stop go n = refl
not_read (Cycle p) stop go n = refl
not_read (Extra p) stop go n = refl

-- a part's answer: a refusal, which is never success, or what was read
pub read_or : (q : Outcome) → (q ≡ Read) ⊎ (q ≡ Read → ⊥)
unfolding Bad number
read_or Read = inl refl
read_or (Short p) = inr (bad_by (Short p) 0 refl)
read_or (Mark p) = inr (bad_by (Mark p) 1 refl)
read_or (Range p) = inr (bad_by (Range p) 2 refl)
read_or (Ticks p) = inr (bad_by (Ticks p) 3 refl)
read_or (Order p) = inr (bad_by (Order p) 4 refl)
read_or (Edge p) = inr (bad_by (Edge p) 5 refl)
read_or (Cycle p) = inr (bad_by (Cycle p) 6 refl)
read_or (Extra p) = inr (bad_by (Extra p) 7 refl)

module _ {T : Type 0} (q : Outcome) (y : T) where
  pub answer_err : (o : Outcome) → ◌≡◌ {A = Result T Outcome} (Err o) (when_read q Err (λ _. Ok y)) → (q ≡ o) × (o ≡ Read → ⊥)
  answer_err o h = ⊎_elim
      (λ e. let k : ◌≡◌ {A = Result T Outcome} (Err o) (Ok y) = rw e at h in let z : ◌≡◌ {A = ℕ} 0 1 = cc in absurd (omega arith))
      (λ n.
      let k : ◌≡◌ {A = Result T Outcome} (Err o) (Err q) = h ∙ sym (not_read q Err (λ _. Ok y) n) in
      let z : q ≡ o = cc in
      (z, λ e. n (z ∙ e))) (read_or q)

  pub answer_ok : (x : T) → ◌≡◌ {A = Result T Outcome} (Ok x) (when_read q Err (λ _. Ok y)) → (q ≡ Read) × (x ≡ y)
  answer_ok x h = ⊎_elim
      (λ e. let k : ◌≡◌ {A = Result T Outcome} (Ok x) (Ok y) = rw e at h in (e, cc))
      (λ n.
      let k : ◌≡◌ {A = Result T Outcome} (Ok x) (Err q) = h ∙ sym (not_read q Err (λ _. Ok y) n) in
      let z : ◌≡◌ {A = ℕ} 0 1 = cc in absurd (omega arith)) (read_or q)

-- a match that found another of the nine cases than the first found no success
pub told_other : (o : Outcome) → OneOf (1 ∷ 2 ∷ 3 ∷ 4 ∷ 5 ∷ 6 ∷ 7 ∷ 8 ∷ []) (tag_of the_type o) → o ≡ Read → ⊥
told_other o k e = miss (1 ∷ 2 ∷ 3 ∷ 4 ∷ 5 ∷ 6 ∷ 7 ∷ 8 ∷ []) 0 tt (rw e at k)

pub told_ok : (o : Outcome) (x : ⊤) → Ok x ≡ told o → o ≡ Read
unfolding told
told_ok o x h = (answer_ok o tt x h).0

pub told_stop : (o : Outcome) → (o ≡ Read → ⊥) → Err o ≡ told o
unfolding told
told_stop o n = not_read o Err _ n

-- ---- costs that were read lie within the input
after_ticks : (s : List ℕ) (k at : ℕ) (f : Result ℕ Outcome) (costs : List ℕ) (go : ℕ → CostsRead) → ticks_at 0 s at ≡ f
    → ((x : ℕ) → at + 4 ≤ length s → (go x).outcome ≡ Read → at + 4 + 4 * k ≤ length s)
    → (onward f (λ o. record { outcome = o; costs = costs }) go).outcome ≡ Read → at + 4 + 4 * k ≤ length s
after_ticks s k at (Err o) costs go h step e = absurd (halted (ticks_at 0 s at) (ticks_view 0 s at) o (sym h) e)
after_ticks s k at (Ok x) costs go h step e = step x (ticks_read 0 s at x (sym h)).0 e

pub costs_within : (s : List ℕ) (k at u : ℕ) (costs : List ℕ) → at ≤ length s → (costs_at s k at u costs).outcome ≡ Read → at + 4 * k ≤ length s
unfolding costs_at
costs_within s zero at u costs h e = omega arith
costs_within s (suc k) at u costs h e =
    let l = after_ticks s k at (ticks_at 0 s at) costs (λ x. costs_at s k (at + 4) (u + 1) (set costs u x)) refl
    (λ x w r. costs_within s k (at + 4) (u + 1) (set costs u x) w r) e in
    omega arith
