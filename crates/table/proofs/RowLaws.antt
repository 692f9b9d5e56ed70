-- A task's costs read straight into the row are those read beside it and then put there.
use mathlib.Core.Path.{◌≡◌, refl, sym, ap, ap₂, ◌∙◌}
use mathlib.Core.Bool.{Bool, true, false}
use mathlib.Core.List.{List}
use Prim.Native.Nat.{ℕ, zero, suc, ◌+◌, ◌*◌, ◌/◌, ◌%◌, ◌≤◌, ◌<◌}
use native.Mathlib.Omega.{arith}
use native.Mathlib.Decide.{ℕ_discrete}
use borrow.Author.Tests.{eq-eqb, eqb-true}
use lib.ListN.{length, get_or, set, length-set, replicate}
use lib.Seq.{get_or-set_same, get_or-set_other, ext_get_or}
use lib.Dec.{eqb}
use Rattle.table.specs.declared.Outcome.{Outcome}
use Rattle.std.specs.Prelude.{Result, Ok, Err}
use Rattle.graph.specs.Words.{pick}
use Rattle.table.specs.Memory.{no_costs}
use Rattle.table.specs.Reading.{CostsRead, onward, ticks_at, costs_at, put_costs}
use Rattle.table.specs.Parts.{ZeroFrom}
use Rattle.table.proofs.Bits.{zeros_at}
use Rattle.table.proofs.Costs.{put_length, put_at, put_other}

-- no costs in places that are zero change nothing
pub put_nothing : (row : List ℕ) (i : ℕ) → length row ≡ 256 → ZeroFrom (16 * i) row → row ≡ put_costs row i no_costs
unfolding no_costs
put_nothing row i n z = ext_get_or 0 row _ (n ∙ sym (put_length row i no_costs)) (λ k h. go k (eqb (k / 16) i) refl ∙ sym (put_at row i no_costs k (omega arith)))
  where
    go : (k : ℕ) (b : Bool) → eqb (k / 16) i ≡ b → get_or row k 0 ≡ pick (eqb (k / 16) i) (get_or no_costs (k % 16) 0) (get_or row k 0)
    go k true e =
        let q = eqb-true (k / 16) i e in
        z k (omega arith) ∙ rw e (sym (zeros_at 16 (k % 16)))
    go k false e = rw e refl

-- a cost set in the row is one set in the task's own
pub put_set : (row : List ℕ) (i : ℕ) (own : List ℕ) (u x : ℕ) → i < 16 → u < 16 → length own ≡ 16
    → set (put_costs row i own) (16 * i + u) x ≡ put_costs row i (set own u x)
put_set row i own u x hi hu n =
    ext_get_or 0 _ _ (length-set (put_costs row i own) (16 * i + u) x ∙ put_length row i own ∙ sym (put_length row i (set own u x)))
    (λ k h. let l : k < 256 = omega (arith, length-set (put_costs row i own) (16 * i + u) x, put_length row i own) in at k l ∙ sym (put_at row i (set own u x) k l))
  where
    other : (k : ℕ) → (k ≡ 16 * i + u → ⊥) → (b : Bool) → eqb (k / 16) i ≡ b
        → pick b (get_or own (k % 16) 0) (get_or row k 0) ≡ pick b (get_or (set own u x) (k % 16) 0) (get_or row k 0)
    other k d true e = let q = eqb-true (k / 16) i e in sym (get_or-set_other own u (k % 16) x 0 (λ w. d (omega arith)))
    other k d false e = refl

    at : (k : ℕ) → k < 256 → get_or (set (put_costs row i own) (16 * i + u) x) k 0 ≡ pick (eqb (k / 16) i) (get_or (set own u x) (k % 16) 0) (get_or row k 0)
    at k h = elim (ℕ_discrete k (16 * i + u)) [
      | yes e ↦
          let a : k / 16 ≡ i = omega arith in
          let b : k % 16 ≡ u = omega arith in
          ap (λ (j : ℕ). get_or (set (put_costs row i own) (16 * i + u) x) j 0) e
          ∙ get_or-set_same (put_costs row i own) (16 * i + u) x 0 (omega (arith, put_length row i own))
          ∙ sym (get_or-set_same own u x 0 (omega arith)) ∙ ap (λ (j : ℕ). get_or (set own u x) j 0) (sym b)
          ∙ ap (λ (c : Bool). pick c (get_or (set own u x) (k % 16) 0) (get_or row k 0)) (sym (eq-eqb (k / 16) i a))
      | no d ↦
          get_or-set_other (put_costs row i own) (16 * i + u) k x 0 d ∙ put_at row i own k h ∙ other k d (eqb (k / 16) i) refl
    ]

-- what is read into the row, by what is read beside it
abbrev placed : List ℕ → ℕ → CostsRead → CostsRead
placed row i c = record { outcome = c.outcome; costs = put_costs row i c.costs }

after_field : (row : List ℕ) (i : ℕ) (own : List ℕ) (f : Result ℕ Outcome) (there here : ℕ → CostsRead) → ((x : ℕ) → there x ≡ placed row i (here x))
    → onward f (λ o. record { outcome = o; costs = put_costs row i own }) there ≡ placed row i (onward f (λ o. record { outcome = o; costs = own }) here)
after_field row i own (Err o) there here h = refl
after_field row i own (Ok x) there here h = h x

into_row : (s : List ℕ) (k at u i : ℕ) (row own : List ℕ) → i < 16 → u + k ≤ 16 → length own ≡ 16
    → costs_at s k at (16 * i + u) (put_costs row i own) ≡ placed row i (costs_at s k at u own)
unfolding costs_at
into_row s zero at u i row own hi hu n = refl
into_row s (suc k) at u i row own hi hu n =
    let e : 16 * i + u + 1 ≡ 16 * i + (u + 1) = omega arith in
    after_field row i own (ticks_at 0 s at) (λ x. costs_at s k (at + 4) (16 * i + u + 1) (set (put_costs row i own) (16 * i + u) x))
    (λ x. costs_at s k (at + 4) (u + 1) (set own u x))
    (λ x. ap₂ (λ (j : ℕ) (r : List ℕ). costs_at s k (at + 4) j r) e (put_set row i own u x hi (omega arith) n)
    ∙ into_row s k (at + 4) (u + 1) i row (set own u x) hi (omega arith) (length-set own u x ∙ n))

pub costs_in_row : (s : List ℕ) (k at i : ℕ) (row : List ℕ) → i < 16 → k ≤ 16 → length row ≡ 256 → ZeroFrom (16 * i) row
    → costs_at s k at (16 * i) row ≡ placed row i (costs_at s k at 0 no_costs)
unfolding no_costs
costs_in_row s k at i row hi hk n z =
    let e : 16 * i ≡ 16 * i + 0 = omega arith in
    ap₂ (λ (j : ℕ) (r : List ℕ). costs_at s k at j r) e (put_nothing row i n z) ∙ into_row s k at 0 i row (replicate 16 0) hi (omega arith) refl

-- ---- the row after a task: the places of the later ones are still zero
pub zero_after : (row : List ℕ) (i : ℕ) (own after : List ℕ) → length row ≡ 256 → ZeroFrom (16 * i) row → after ≡ put_costs row i own
    → ZeroFrom (16 * (i + 1)) after
zero_after row i own after n z h =
    λ k l. ap (λ (r : List ℕ). get_or r k 0) h ∙ put_other row i own k n (λ e. omega arith) ∙ z k (omega arith)
