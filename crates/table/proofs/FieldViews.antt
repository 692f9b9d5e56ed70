-- A field that is read is a value that keeps its rules, or a refusal; what follows a field, and a part, where all went well.
use mathlib.Core.Path.{◌≡◌, refl, sym, ap, ◌∙◌}
use mathlib.Core.Logic.{◌⊎◌, inl, inr, ⊎_elim}
use mathlib.Core.Bool.{Bool, true, false, ◌&&◌, not}
use mathlib.Core.List.{List}
use Prim.Native.Nat.{ℕ, suc, ◌+◌, ◌*◌, ◌/◌, ◌%◌, ◌≤◌, ◌<◌}
use native.Mathlib.Omega.{arith}
use native.Mathlib.Decide.{dec_le}
use lib.ListN.{length, get_or}
use lib.Dec.{ltb, leb, eqb}
use borrow.Author.Tests.{leb-true, le-leb, ltb-true, lt-leb, eqb-false, not-true}
use Rattle.table.specs.declared.Outcome.{Outcome}
use Rattle.table.specs.declared.Outcome.TheVariants.{Read, Short, Mark, Range, Ticks, Order, Edge, Cycle, Extra}
use Rattle.std.specs.Prelude.{Result, Ok, Err}
use Rattle.graph.specs.Words.{pick}
use Rattle.graph.proofs.Facts.{both_true}
use Rattle.table.specs.Numbers.{number}
use Rattle.table.specs.Reading.{onward, when_read, field, mark_at, ranged, byte_at, value4, ticks_at, not_under, period_at, edge_ok, edge_at}

unfoldable pub Bad : Outcome → Type 0
Bad o = o ≡ Read → ⊥

pub data View (f : Result ℕ Outcome) (P : ℕ → Type 0) : Type 0 where
  value : (x : ℕ) → f ≡ Ok x → P x → View f P
  halt : (o : Outcome) → f ≡ Err o → Bad o → View f P

pub halted : {P : ℕ → Type 0} (f : Result ℕ Outcome) → View f P → (o : Outcome) → Err o ≡ f → o ≡ Read → ⊥
unfolding Bad
halted f (value x e q) o h = let z : ◌≡◌ {A = ℕ} 0 1 = cc in absurd (omega arith)
halted f (halt p e n) o h = let z : o ≡ p = cc in λ r. n (sym z ∙ r)

pub bad_by : (o : Outcome) (k : ℕ) → number o ≡ suc k → Bad o
unfolding Bad number
bad_by o k e q = let z : number o ≡ 0 = ap number q in absurd (omega arith)

-- "For each field 1 is tested first": it lies within the input, or is refused at its first byte
pub field_cases : (size : ℕ) (s : List ℕ) (at : ℕ) (rules : Result ℕ Outcome)
    → ((at + size ≤ length s) × (field size s at rules ≡ rules)) ⊎ ((length s < at + size) × (field size s at rules ≡ Err (Short at)))
unfolding field
field_cases size s at rules = cases (at + size) (length s) rules (Err (Short at))
  where
    cases : (k n : ℕ) (f g : Result ℕ Outcome) → ((k ≤ n) × (pick (leb k n) f g ≡ f)) ⊎ ((n < k) × (pick (leb k n) f g ≡ g))
    cases k n f g = elim (dec_le k n) [ yes h ↦ inl (h, rw (le-leb k n h)) | no h ↦ inr (omega arith, rw (lt-leb k n (omega arith))) ]

module _ (P : ℕ → Type 0) where
  field_view : (size : ℕ) (s : List ℕ) (at : ℕ) (rules : Result ℕ Outcome) → View rules P → View (field size s at rules) P
  unfolding number
  field_view size s at rules v =
      ⊎_elim (λ z. rw z.1 v) (λ z. rw z.1 (halt (Short at) refl (bad_by (Short at) 0 refl))) (field_cases size s at rules)

  pick_view : (b : Bool) (x : ℕ) (o : Outcome) → Bad o → (b ≡ true → P x) → View (pick b (Ok x) (Err o)) P
  pick_view true x o h p = value x refl (p refl)
  pick_view false x o h p = halt o refl h

abbrev pub Between : ℕ → ℕ → ℕ → Type 0
Between lo hi x = (lo ≤ x) × (x ≤ hi)

ranged_view : (outside : ℕ → Outcome) (lo hi at x : ℕ) → Bad (outside at) → View (ranged outside lo hi at x) (Between lo hi)
unfolding ranged
ranged_view outside lo hi at x h = pick_view (Between lo hi) (leb lo x && leb x hi) x (outside at) h
    (λ e. let b = both_true (leb lo x) (leb x hi) e in (leb-true lo x b.0, leb-true x hi b.1))

pub mark_view : (b : ℕ) (s : List ℕ) (at : ℕ) → View (mark_at b s at) (λ x. Unit {0})
unfolding mark_at number
mark_view b s at = field_view (λ x. Unit {0}) 2 s at _ (pick_view (λ x. Unit {0}) (eqb (get_or s at 0) 0x54 && eqb (get_or s (at + 1) 0) b) 0 (Mark at) (bad_by (Mark at) 1 refl) (λ e. tt))

pub byte_view : (lo hi : ℕ) (s : List ℕ) (at : ℕ) → View (byte_at lo hi s at) (Between lo hi)
unfolding byte_at number
byte_view lo hi s at = field_view (Between lo hi) 1 s at _ (ranged_view Range lo hi at (get_or s at 0) (bad_by (Range at) 2 refl))

pub ticks_view : (lo : ℕ) (s : List ℕ) (at : ℕ) → View (ticks_at lo s at) (Between lo 1000000)
unfolding ticks_at number
ticks_view lo s at = field_view (Between lo 1000000) 4 s at _ (ranged_view Ticks lo 1000000 at (value4 s at) (bad_by (Ticks at) 3 refl))

abbrev pub Period : ℕ → ℕ → Type 0
Period d t = (1 ≤ t) × (t ≤ 1000000) × (d ≤ 4 * t)

pub period_view : (d : ℕ) (s : List ℕ) (at : ℕ) → View (period_at d s at) (Period d)
unfolding period_at not_under number
period_view d s at = go (ticks_at 1 s at) (ticks_view 1 s at)
  where
    go : (f : Result ℕ Outcome) → View f (Between 1 1000000) → View (not_under d at f) (Period d)
    go f (value x e b) = rw e (pick_view (Period d) (leb d (4 * x)) x (Order at) (bad_by (Order at) 4 refl) (λ h. (b.0, b.1, leb-true d (4 * x) h)))
    go f (halt o e h) = rw e (halt o refl h)

-- the edge with a key: ends below v, from differs from to
abbrev pub Ends : ℕ → ℕ → Type 0
Ends v key = (key / 16 < v) × (key % 16 < v) × (key / 16 ≡ key % 16 → ⊥)

pub edge_view : (v low : ℕ) (s : List ℕ) (at : ℕ) → v ≤ 16 → View (edge_at v low s at) (Ends v)
unfolding edge_at edge_ok number
edge_view v low s at h =
    let f = get_or s at 0 in
    let t = get_or s (at + 1) 0 in
    field_view (Ends v) 2 s at _ (pick_view (Ends v) (edge_ok v low f t) (16 * f + t) (Edge at) (bad_by (Edge at) 5 refl) (λ e. ends f t e))
  where
    ends : (f t : ℕ) → ltb f v && ltb t v && not (eqb f t) && leb low (16 * f + t) ≡ true → Ends v (16 * f + t)
    ends f t e =
        let a = both_true (ltb f v && ltb t v && not (eqb f t)) (leb low (16 * f + t)) e in
        let b = both_true (ltb f v && ltb t v) (not (eqb f t)) a.0 in
        let c = both_true (ltb f v) (ltb t v) b.0 in
        let p = ltb-true f v c.0 in
        let q = ltb-true t v c.1 in
        let d = eqb-false f t (not-true _ b.1) in
        let x : (16 * f + t) / 16 ≡ f = omega arith in
        let y : (16 * f + t) % 16 ≡ t = omega arith in
        (omega arith, omega arith, λ z. d (sym x ∙ z ∙ y))

-- ---- what follows a field, and a part, where all went well
module _ {X : Type 0} (out : X → Outcome) (bad : Outcome → X) (same : (o : Outcome) → out (bad o) ≡ o) where
  pub on_field : {P : ℕ → Type 0} (f : Result ℕ Outcome) → View f P → (go : ℕ → X) (r : X) → out r ≡ Read → r ≡ onward f bad go
      → (x : ℕ) × (f ≡ Ok x) × P x × (r ≡ go x)
  unfolding Bad
  on_field f (value x e q) go r h k = (x, e, q, k ∙ ap (λ (z : Result ℕ Outcome). onward z bad go) e)
  on_field f (halt o e q) go r h k =
      absurd (q (sym (same o) ∙ ap out (sym (k ∙ ap (λ (z : Result ℕ Outcome). onward z bad go) e)) ∙ h))

  pub went : (o : Outcome) (go : Unit {0} → X) (r : X) → out r ≡ Read → r ≡ when_read o bad go → (o ≡ Read) × (r ≡ go tt)
  unfolding Bad number
  went Read go r h k = (refl, k)
  went (Short q) go r h k = absurd (bad_by (Short q) 0 refl (sym (same (Short q)) ∙ ap out (sym k) ∙ h))
  went (Mark q) go r h k = absurd (bad_by (Mark q) 1 refl (sym (same (Mark q)) ∙ ap out (sym k) ∙ h))
  went (Range q) go r h k = absurd (bad_by (Range q) 2 refl (sym (same (Range q)) ∙ ap out (sym k) ∙ h))
  went (Ticks q) go r h k = absurd (bad_by (Ticks q) 3 refl (sym (same (Ticks q)) ∙ ap out (sym k) ∙ h))
  went (Order q) go r h k = absurd (bad_by (Order q) 4 refl (sym (same (Order q)) ∙ ap out (sym k) ∙ h))
  went (Edge q) go r h k = absurd (bad_by (Edge q) 5 refl (sym (same (Edge q)) ∙ ap out (sym k) ∙ h))
  went (Cycle q) go r h k = absurd (bad_by (Cycle q) 6 refl (sym (same (Cycle q)) ∙ ap out (sym k) ∙ h))
  went (Extra q) go r h k = absurd (bad_by (Extra q) 7 refl (sym (same (Extra q)) ∙ ap out (sym k) ∙ h))

  pub passed : (b : Bool) (x : X) (o : Outcome) → Bad o → (r : X) → out r ≡ Read → r ≡ pick b x (bad o) → (b ≡ true) × (r ≡ x)
  unfolding Bad
  passed true x o h r e k = (refl, k)
  passed false x o h r e k = absurd (h (sym (same o) ∙ ap out (sym k) ∙ e))
