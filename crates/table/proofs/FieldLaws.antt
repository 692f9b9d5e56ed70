-- What each field's reading gives, by what its tests found; and what a field that was read says of the input.
use mathlib.Core.Path.{◌≡◌, refl, sym, ap, ◌∙◌}
use mathlib.Core.Logic.{◌⊎◌, ⊎_elim}
use mathlib.Core.Bool.{Bool, true, false, ◌&&◌, not}
use mathlib.Core.List.{List}
use Prim.Native.Nat.{ℕ, ◌+◌, ◌*◌, ◌≤◌, ◌<◌}
use native.Mathlib.Omega.{arith}
use native.Mathlib.Decide.{ℕ_discrete}
use borrow.Author.Tests.{le-leb, lt-leb, leb-true, lt-ltb, ltb-true, eq-eqb, ne_eqb}
use lib.ListN.{length, get_or}
use lib.Dec.{ltb, leb, eqb}
use Rattle.table.specs.declared.Outcome.{Outcome}
use Rattle.table.specs.declared.Outcome.TheVariants.{Short, Mark, Range, Ticks, Order, Edge}
use Rattle.std.specs.Prelude.{⊤, Result, Ok, Err, IsErrAnd}
use Rattle.std.proofs.lemmas.Result.{err_from_is_err_and}
use Rattle.graph.specs.Words.{pick}
use Rattle.table.specs.Parts.{marked}
use Rattle.table.specs.Reading.{onward, field, mark_at, ranged, byte_at, value4, ticks_at, not_under, period_at, edge_ok, edge_at}

-- ---- a refusal that is handed on
pub handed : {T : Type 0} (r : Result T Outcome) (o : Outcome) → IsErrAnd r (λ q. q ≡ o) → r ≡ Err o
handed r o h = let p = err_from_is_err_and r h in p.1 ∙ ap Err p.2

-- what follows a field or a part went well: so did that
pub past : {T : Type 0} (f : Result ℕ Outcome) (go : ℕ → Result T Outcome) (y : T) → Ok y ≡ onward f Err go → (x : ℕ) × (Ok x ≡ f) × (Ok y ≡ go x)
past (Ok x) go y h = (x, refl, h)
past (Err o) go y h = let z : ◌≡◌ {A = ℕ} 0 1 = cc in absurd (omega arith)

-- ---- any field: 1 first, then its own rules
module _ (size : ℕ) (s : List ℕ) (at : ℕ) where
  pub field_short : (rules : Result ℕ Outcome) → length s < at + size → Err (Short at) ≡ field size s at rules
  unfolding field
  field_short rules h = simp (lt-leb _ _ h)

  pub field_within : (rules f : Result ℕ Outcome) → at + size ≤ length s → f ≡ rules → f ≡ field size s at rules
  unfolding field
  field_within rules f h e = simp (le-leb _ _ h) e

  -- one that was read lies within the input, and its rules gave the value
  pub field_read : (rules : Result ℕ Outcome) (x : ℕ) → field size s at rules ≡ Ok x → (at + size ≤ length s) × (rules ≡ Ok x)
  unfolding field
  field_read rules x e = go (leb (at + size) (length s)) refl e
    where
      go : (b : Bool) → leb (at + size) (length s) ≡ b → pick b rules (Err (Short at)) ≡ Ok x → (at + size ≤ length s) × (rules ≡ Ok x)
      go true h e = (leb-true _ _ h, e)
      go false h e = let z : ◌≡◌ {A = ℕ} 0 1 = cc in absurd (omega arith)

-- ---- a number held to its range
module _ (outside : ℕ → Outcome) (lo hi at x : ℕ) where
  pub ranged_low : x < lo → Err (outside at) ≡ ranged outside lo hi at x
  unfolding ranged
  ranged_low h = simp (lt-leb lo x h)

  pub ranged_high : lo ≤ x → hi < x → Err (outside at) ≡ ranged outside lo hi at x
  unfolding ranged
  ranged_high h k = simp (le-leb lo x h, lt-leb x hi k)

  pub ranged_out : (x < lo) ⊎ ((lo ≤ x) × (hi < x)) → Err (outside at) ≡ ranged outside lo hi at x
  ranged_out h = ⊎_elim (λ k. ranged_low k) (λ k. ranged_high k.0 k.1) h

  pub ranged_got : lo ≤ x → x ≤ hi → Ok x ≡ ranged outside lo hi at x
  unfolding ranged
  ranged_got h k = simp (le-leb lo x h, le-leb x hi k)

  pub ranged_read : (y : ℕ) → ranged outside lo hi at x ≡ Ok y → (x ≡ y) × (lo ≤ y) × (y ≤ hi)
  unfolding ranged
  ranged_read y e = go (leb lo x) refl (leb x hi) refl e
    where
      go : (a : Bool) → leb lo x ≡ a → (b : Bool) → leb x hi ≡ b → pick (a && b) (Ok x) (Err (outside at)) ≡ Ok y → (x ≡ y) × (lo ≤ y) × (y ≤ hi)
      go true ha true hb e =
          let q : x ≡ y = cc in
          let la = leb-true lo x ha in
          let lb = leb-true x hi hb in
          (q, omega arith, omega arith)
      go true ha false hb e = let z : ◌≡◌ {A = ℕ} 0 1 = cc in absurd (omega arith)
      go false ha b hb e = let z : ◌≡◌ {A = ℕ} 0 1 = cc in absurd (omega arith)

-- ---- a mark
module _ (b : ℕ) (s : List ℕ) (at : ℕ) where
  rules : Result ℕ Outcome
  rules = pick (eqb (get_or s at 0) 0x54 && eqb (get_or s (at + 1) 0) b) (Ok 0) (Err (Mark at))

  other : Dec (get_or s at 0 ≡ 0x54) → Dec (get_or s (at + 1) 0 ≡ b) → (get_or s at 0 ≡ 0x54 → get_or s (at + 1) 0 ≡ b → ⊥) → rules ≡ Err (Mark at)
  unfolding rules
  other (yes p) (yes q) n = absurd (n p q)
  other (yes p) (no q) n = simp (eq-eqb _ _ p, ne_eqb _ _ q)
  other (no p) d n = simp (ne_eqb _ _ p)

  pub mark_short : length s < at + 2 → Err (Short at) ≡ marked b s at
  unfolding mark_at marked
  mark_short h = rw (← field_short 2 s at _ h)

  pub mark_got : at + 2 ≤ length s → get_or s at 0 ≡ 0x54 → get_or s (at + 1) 0 ≡ b → Ok tt ≡ marked b s at
  unfolding mark_at marked rules
  mark_got h p q = let e : rules ≡ Ok 0 = simp (eq-eqb _ _ p, eq-eqb _ _ q) in rw (← field_within 2 s at rules rules h refl, e)

  pub mark_other : at + 2 ≤ length s → (get_or s at 0 ≡ 0x54 → get_or s (at + 1) 0 ≡ b → ⊥) → Err (Mark at) ≡ marked b s at
  unfolding mark_at marked rules
  mark_other h n = let e = other (ℕ_discrete (get_or s at 0) 0x54) (ℕ_discrete (get_or s (at + 1) 0) b) n in rw (← field_within 2 s at rules rules h refl, e)

  -- what follows it, whatever its value
  pub on_mark : {X : Type 0} (stop : Outcome → X) (r : X) (x : ⊤) → Ok x ≡ marked b s at → onward (mark_at b s at) stop (λ _. r) ≡ r
  unfolding marked
  on_mark stop r x h = go (mark_at b s at) h
    where
      go : (f : Result ℕ Outcome) → ◌≡◌ {A = Result ⊤ Outcome} (Ok x) (onward f Err (λ _. Ok tt)) → onward f stop (λ _. r) ≡ r
      go (Ok y) k = refl
      go (Err o) k = let z : ◌≡◌ {A = ℕ} 0 1 = cc in absurd (omega arith)

  pub mark_stops : (o : Outcome) → Err o ≡ marked b s at → mark_at b s at ≡ Err o
  unfolding marked
  mark_stops o h = go (mark_at b s at) h
    where
      go : (f : Result ℕ Outcome) → ◌≡◌ {A = Result ⊤ Outcome} (Err o) (onward f Err (λ _. Ok tt)) → f ≡ Err o
      go (Ok y) k = let z : ◌≡◌ {A = ℕ} 0 1 = cc in absurd (omega arith)
      go (Err q) k = let z : o ≡ q = cc in ap Err (sym z)

  pub mark_read : (x : ⊤) → Ok x ≡ marked b s at → at + 2 ≤ length s
  unfolding mark_at marked
  mark_read x h = go (mark_at b s at) refl h
    where
      go : (f : Result ℕ Outcome) → mark_at b s at ≡ f → ◌≡◌ {A = Result ⊤ Outcome} (Ok x) (onward f Err (λ _. Ok tt)) → at + 2 ≤ length s
      go (Ok y) k q = (field_read 2 s at _ y k).0
      go (Err o) k q = let z : ◌≡◌ {A = ℕ} 0 1 = cc in absurd (omega arith)

-- ---- m, n, v or e
module _ (lo hi : ℕ) (s : List ℕ) (at : ℕ) where
  pub byte_short : length s < at + 1 → Err (Short at) ≡ byte_at lo hi s at
  unfolding byte_at
  byte_short h = field_short 1 s at _ h

  pub byte_within : (x : ℕ) (f : Result ℕ Outcome) → at + 1 ≤ length s → x ≡ get_or s at 0 → f ≡ ranged Range lo hi at x → f ≡ byte_at lo hi s at
  unfolding byte_at
  byte_within x f h q e = field_within 1 s at _ f h (e ∙ ap (ranged Range lo hi at) q)

  pub byte_read : (x : ℕ) → Ok x ≡ byte_at lo hi s at → (at + 1 ≤ length s) × (lo ≤ x) × (x ≤ hi)
  unfolding byte_at
  byte_read x h =
      let r = field_read 1 s at _ x (sym h) in
      let q = ranged_read Range lo hi at (get_or s at 0) x r.1 in
      (r.0, q.1, q.2)

-- ---- D, T or a cost
module _ (lo : ℕ) (s : List ℕ) (at : ℕ) where
  pub ticks_short : length s < at + 4 → Err (Short at) ≡ ticks_at lo s at
  unfolding ticks_at
  ticks_short h = field_short 4 s at _ h

  pub ticks_within : (x : ℕ) (f : Result ℕ Outcome) → at + 4 ≤ length s → x ≡ value4 s at → f ≡ ranged Ticks lo 1000000 at x → f ≡ ticks_at lo s at
  unfolding ticks_at
  ticks_within x f h q e = field_within 4 s at _ f h (e ∙ ap (ranged Ticks lo 1000000 at) q)

  pub ticks_read : (x : ℕ) → Ok x ≡ ticks_at lo s at → (at + 4 ≤ length s) × (lo ≤ x) × (x ≤ 1000000)
  unfolding ticks_at
  ticks_read x h =
      let r = field_read 4 s at _ x (sym h) in
      let q = ranged_read Ticks lo 1000000 at (value4 s at) x r.1 in
      (r.0, q.1, q.2)

-- ---- T, by what its ticks gave
module _ (d : ℕ) (s : List ℕ) (at : ℕ) where
  pub period_stop : (o : Outcome) → Err o ≡ ticks_at 1 s at → Err o ≡ period_at d s at
  unfolding period_at not_under
  period_stop o h = rw (← h)

  pub period_got : (t : ℕ) → Ok t ≡ ticks_at 1 s at → d ≤ 4 * t → Ok t ≡ period_at d s at
  unfolding period_at not_under
  period_got t h k = rw (← h, le-leb d (4 * t) k)

  pub period_under : (t : ℕ) → Ok t ≡ ticks_at 1 s at → 4 * t < d → Err (Order at) ≡ period_at d s at
  unfolding period_at not_under
  period_under t h k = rw (← h, lt-leb d (4 * t) k)

under_read : (d at t : ℕ) (f : Result ℕ Outcome) → not_under d at f ≡ Ok t → (f ≡ Ok t) × (d ≤ 4 * t)
unfolding not_under
under_read d at t (Err o) e = let z : ◌≡◌ {A = ℕ} 0 1 = cc in absurd (omega arith)
under_read d at t (Ok x) e = go (leb d (4 * x)) refl e
  where
    go : (b : Bool) → leb d (4 * x) ≡ b → pick b (Ok x) (Err (Order at)) ≡ Ok t → ◌≡◌ {A = Result ℕ Outcome} (Ok x) (Ok t) × (d ≤ 4 * t)
    go true h e = let q : x ≡ t = cc in let l = leb-true d (4 * x) h in (e, omega arith)
    go false h e = let z : ◌≡◌ {A = ℕ} 0 1 = cc in absurd (omega arith)

pub period_read : (d : ℕ) (s : List ℕ) (at t : ℕ) → Ok t ≡ period_at d s at → (at + 4 ≤ length s) × (t ≤ 1000000) × (d ≤ 4 * t)
unfolding period_at
period_read d s at t h =
    let u = under_read d at t (ticks_at 1 s at) (sym h) in
    let r = ticks_read 1 s at t (sym u.0) in
    (r.0, r.2, u.1)

-- ---- an edge
module _ (v low from to : ℕ) where
  pub ok_within : from < v → to < v → (from ≡ to → ⊥) → low ≤ 16 * from + to → edge_ok v low from to ≡ true
  unfolding edge_ok
  ok_within g h e k = simp (lt-ltb from v g, lt-ltb to v h, ne_eqb from to e, le-leb low (16 * from + to) k)

  pub ok_read : edge_ok v low from to ≡ true → (from < v) × (to < v) × (from ≡ to → ⊥) × (low ≤ 16 * from + to)
  unfolding edge_ok
  ok_read e = go (ltb from v) refl (ltb to v) refl (ℕ_discrete from to) e
    where
      go : (a : Bool) → ltb from v ≡ a → (b : Bool) → ltb to v ≡ b → Dec (from ≡ to) → (a && b && not (eqb from to) && leb low (16 * from + to)) ≡ true
          → (from < v) × (to < v) × (from ≡ to → ⊥) × (low ≤ 16 * from + to)
      go true ha true hb (no d) e = (ltb-true from v ha, ltb-true to v hb, d, leb-true _ _ (rw (ne_eqb from to d) at e))
      go true ha true hb (yes d) e = let k = rw (eq-eqb from to d) at e in let z : ◌≡◌ {A = ℕ} 0 1 = cc in absurd (omega arith)
      go true ha false hb d e = let z : ◌≡◌ {A = ℕ} 0 1 = cc in absurd (omega arith)
      go false ha b hb d e = let z : ◌≡◌ {A = ℕ} 0 1 = cc in absurd (omega arith)

module _ (v low : ℕ) (s : List ℕ) (at : ℕ) where
  pub edge_short : length s < at + 2 → Err (Short at) ≡ edge_at v low s at
  unfolding edge_at
  edge_short h = field_short 2 s at _ h

  pub edge_got : (from to : ℕ) → at + 2 ≤ length s → from ≡ get_or s at 0 → to ≡ get_or s (at + 1) 0 → from < v → to < v → (from ≡ to → ⊥) → low ≤ 16 * from + to
      → Ok (16 * from + to) ≡ edge_at v low s at
  unfolding edge_at
  edge_got from to h p q a b c d = field_within 2 s at _ _ h (simp (← p, ← q, ok_within v low from to a b c d))

  pub edge_bad : (from to : ℕ) → at + 2 ≤ length s → from ≡ get_or s at 0 → to ≡ get_or s (at + 1) 0
      → (from < v → to < v → (from ≡ to → ⊥) → low ≤ 16 * from + to → ⊥) → Err (Edge at) ≡ edge_at v low s at
  unfolding edge_at
  edge_bad from to h p q n =
      let e = not_true (edge_ok v low from to) (λ e. let r = ok_read v low from to e in n r.0 r.1 r.2 r.3) in
      field_within 2 s at _ _ h (simp (← p, ← q, e))
    where
      not_true : (b : Bool) → (b ≡ true → ⊥) → b ≡ false
      not_true true n = absurd (n refl)
      not_true false n = refl

  pub edge_read : (key : ℕ) → Ok key ≡ edge_at v low s at → (at + 2 ≤ length s) × (low ≤ key) × (v ≤ 16 → key < 256)
  unfolding edge_at
  edge_read key h = let r = field_read 2 s at _ key (sym h) in go (edge_ok v low (get_or s at 0) (get_or s (at + 1) 0)) refl r.0 r.1
    where
      go : (b : Bool) → edge_ok v low (get_or s at 0) (get_or s (at + 1) 0) ≡ b → at + 2 ≤ length s
          → pick b (Ok (16 * get_or s at 0 + get_or s (at + 1) 0)) (Err (Edge at)) ≡ Ok key → (at + 2 ≤ length s) × (low ≤ key) × (v ≤ 16 → key < 256)
      go true h l e =
          let k : 16 * get_or s at 0 + get_or s (at + 1) 0 ≡ key = cc in
          let o = ok_read v low (get_or s at 0) (get_or s (at + 1) 0) h in
          (l, omega arith, λ g. omega arith)
      go false h l e = let z : ◌≡◌ {A = ℕ} 0 1 = cc in absurd (omega arith)
