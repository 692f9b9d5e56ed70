-- The bytes of a field that was read.
use mathlib.Core.Path.{◌≡◌, refl, sym, ap, ◌∙◌}
use mathlib.Core.Logic.{⊎_elim}
use mathlib.Core.Bool.{Bool, true, false, ◌&&◌, not}
use mathlib.Core.List.{List, ◌∷◌, ◌++◌}
use Prim.Native.Nat.{ℕ, ◌+◌, ◌*◌, ◌/◌, ◌%◌, ◌≤◌, ◌<◌}
use native.Mathlib.Omega.{arith}
use native.Mathlib.Numerals.{add-one}
use lib.ListN.{length, get_or, drop}
use lib.Seq.{drop-cons}
use lib.Dec.{ltb, leb, eqb}
use borrow.Author.Tests.{leb-true, ltb-true, eqb-true}
use Rattle.table.specs.declared.Outcome.{Outcome}
use Rattle.table.specs.declared.Outcome.TheVariants.{Short, Mark, Range, Ticks, Order, Edge}
use Rattle.std.specs.Prelude.{Result, Ok, Err}
use Rattle.graph.specs.Words.{pick}
use Rattle.graph.proofs.Facts.{both_true}
use Rattle.table.specs.Reading.{field, mark_at, ranged, byte_at, value4, ticks_at, not_under, period_at, edge_ok, edge_at}
use Rattle.table.specs.Writing.{bytes4}
use Rattle.table.proofs.FieldViews.{field_cases}

-- each number is a byte
abbrev pub Bytes : List ℕ → Type 0
Bytes s = (i : ℕ) → get_or s i 0 < 256

-- ---- a field that was read, and its bytes
next : (s : List ℕ) (at : ℕ) → at < length s → drop at s ≡ get_or s at 0 ∷ drop (at + 1) s
next s at h = drop-cons s at 0 h ∙ ap (λ (k : ℕ). get_or s at 0 ∷ drop k s) (sym (add-one at))

pub stop_got : {X : Type 0} (o : Outcome) (x : ℕ) → Err o ≡ Ok x → X
stop_got o x e = let z : ◌≡◌ {A = ℕ} 0 1 = cc in absurd (omega arith)

pub field_got : (size : ℕ) (s : List ℕ) (at : ℕ) (rules : Result ℕ Outcome) (x : ℕ) → field size s at rules ≡ Ok x → (at + size ≤ length s) × (rules ≡ Ok x)
field_got size s at rules x e = ⊎_elim (λ z. (z.0, sym z.1 ∙ e)) (λ z. stop_got (Short at) x (sym z.1 ∙ e)) (field_cases size s at rules)

pub pick_got : (b : Bool) (y : ℕ) (o : Outcome) (x : ℕ) → pick b (Ok y) (Err o) ≡ Ok x → (b ≡ true) × (y ≡ x)
pick_got true y o x e = (refl, cc)
pick_got false y o x e = stop_got o x e

pub at_sum : (s : List ℕ) (a b : ℕ) → a ≡ b → drop a s ≡ drop b s
at_sum s a b e = ap (λ (k : ℕ). drop k s) e

pub mark_bytes : (b : ℕ) (s : List ℕ) (at x : ℕ) → mark_at b s at ≡ Ok x → drop at s ≡ 0x54 ∷ b ∷ drop (at + 2) s
unfolding mark_at
mark_bytes b s at x e =
    let f = field_got 2 s at _ x e in
    let l = f.0 in
    let p = both_true (eqb (get_or s at 0) 0x54) (eqb (get_or s (at + 1) 0) b) (pick_got (eqb (get_or s at 0) 0x54 && eqb (get_or s (at + 1) 0) b) 0 (Mark at) x f.1).0 in
    let a = eqb-true (get_or s at 0) 0x54 p.0 in
    let c = eqb-true (get_or s (at + 1) 0) b p.1 in
    let n₁ = next s at (omega arith) in
    let n₂ = next s (at + 1) (omega arith) in
    let q = at_sum s (at + 1 + 1) (at + 2) (omega arith) in
    n₁ ∙ cc

pub byte_bytes : (lo hi : ℕ) (s : List ℕ) (at x : ℕ) → byte_at lo hi s at ≡ Ok x → drop at s ≡ x ∷ drop (at + 1) s
unfolding byte_at ranged
byte_bytes lo hi s at x e =
    let f = field_got 1 s at _ x e in
    let l = f.0 in
    let p = (pick_got (leb lo (get_or s at 0) && leb (get_or s at 0) hi) (get_or s at 0) (Range at) x f.1).1 in
    let n₁ = next s at (omega arith) in
    n₁ ∙ cc

digit : (q g h : ℕ) → g < 256 → q ≡ g + 256 * h → g ≡ q % 256
digit q g h b e = omega arith

over₁ : (q g h : ℕ) → g < 256 → q ≡ g + 256 * h → q / 256 ≡ h
over₁ q g h b e = omega arith

over₂ : (q g h : ℕ) → g < 65536 → q ≡ g + 65536 * h → q / 65536 ≡ h
over₂ q g h b e = omega arith

over₃ : (q g h : ℕ) → g < 16777216 → q ≡ g + 16777216 * h → q / 16777216 ≡ h
over₃ q g h b e = omega arith

digits : (x a b c d : ℕ) → a < 256 → b < 256 → c < 256 → d < 256 → x ≡ a + 256 * b + 65536 * c + 16777216 * d
    → (a ≡ x % 256) × (b ≡ x / 256 % 256) × (c ≡ x / 65536 % 256) × (d ≡ x / 16777216 % 256)
digits x a b c d ha hb hc hd e =
    let q₁ = over₁ x a (b + 256 * c + 65536 * d) ha (omega arith) in
    let q₂ = over₂ x (a + 256 * b) (c + 256 * d) (omega arith) (omega arith) in
    let q₃ = over₃ x (a + 256 * b + 65536 * c) d (omega arith) (omega arith) in
    (digit x a (b + 256 * c + 65536 * d) ha (omega arith), digit (x / 256) b (c + 256 * d) hb (omega arith), digit (x / 65536) c d hc (omega arith), digit (x / 16777216) d 0 hd (omega arith))

pub ticks_bytes : (lo : ℕ) (s : List ℕ) (at x : ℕ) → Bytes s → ticks_at lo s at ≡ Ok x → drop at s ≡ bytes4 x ++ drop (at + 4) s
unfolding ticks_at ranged value4 bytes4
ticks_bytes lo s at x b e =
    let f = field_got 4 s at _ x e in
    let l = f.0 in
    let a₀ = get_or s at 0 in
    let a₁ = get_or s (at + 1) 0 in
    let a₂ = get_or s (at + 2) 0 in
    let a₃ = get_or s (at + 3) 0 in
    let y : ℕ = a₀ + 256 * a₁ + 65536 * a₂ + 16777216 * a₃ in
    let p : y ≡ x = (pick_got (leb lo y && leb y 1000000) y (Ticks at) x f.1).1 in
    let h₀ = b at in
    let h₁ = b (at + 1) in
    let h₂ = b (at + 2) in
    let h₃ = b (at + 3) in
    let d = digits x a₀ a₁ a₂ a₃ h₀ h₁ h₂ h₃ (sym p) in
    let d₀ = d.0 in
    let d₁ = d.1 in
    let d₂ = d.2 in
    let d₃ = d.3 in
    let n₀ = next s at (omega arith) in
    let n₁ = next s (at + 1) (omega arith) ∙ ap (λ (z : List ℕ). a₁ ∷ z) (at_sum s (at + 1 + 1) (at + 2) (omega arith)) in
    let n₂ = next s (at + 2) (omega arith) ∙ ap (λ (z : List ℕ). a₂ ∷ z) (at_sum s (at + 2 + 1) (at + 3) (omega arith)) in
    let n₃ = next s (at + 3) (omega arith) ∙ ap (λ (z : List ℕ). a₃ ∷ z) (at_sum s (at + 3 + 1) (at + 4) (omega arith)) in
    n₀ ∙ cc

pub period_is : (d : ℕ) (s : List ℕ) (at t : ℕ) → period_at d s at ≡ Ok t → ticks_at 1 s at ≡ Ok t
unfolding period_at not_under
period_is d s at t e = go (ticks_at 1 s at) e
  where
    go : (f : Result ℕ Outcome) → not_under d at f ≡ Ok t → f ≡ Ok t
    go (Err o) e = stop_got o t e
    go (Ok x) e = ap Ok (pick_got (leb d (4 * x)) x (Order at) t e).1

pub record EdgeIs (v low : ℕ) (s : List ℕ) (at key : ℕ) : Type 0 where
  pub low_is : low ≤ key
  pub under : key < 16 * v
  pub bytes : drop at s ≡ key / 16 ∷ key % 16 ∷ drop (at + 2) s

pub edge_is : (v low : ℕ) (s : List ℕ) (at key : ℕ) → v ≤ 16 → edge_at v low s at ≡ Ok key → EdgeIs v low s at key
unfolding edge_at edge_ok
edge_is v low s at key hv e =
    let f = field_got 2 s at _ key e in
    let l = f.0 in
    let x = get_or s at 0 in
    let y = get_or s (at + 1) 0 in
    let p = pick_got (ltb x v && ltb y v && not (eqb x y) && leb low (16 * x + y)) (16 * x + y) (Edge at) key f.1 in
    let q = both_true (ltb x v && ltb y v && not (eqb x y)) (leb low (16 * x + y)) p.0 in
    let r = both_true (ltb x v && ltb y v) (not (eqb x y)) q.0 in
    let w = both_true (ltb x v) (ltb y v) r.0 in
    let k₁ = ltb-true x v w.0 in
    let k₂ = ltb-true y v w.1 in
    let k₃ = leb-true low (16 * x + y) q.1 in
    let k₄ = p.1 in
    let a : x ≡ key / 16 = omega arith in
    let c : y ≡ key % 16 = omega arith in
    let n₁ = next s at (omega arith) in
    let n₂ = next s (at + 1) (omega arith) ∙ ap (λ (z : List ℕ). y ∷ z) (at_sum s (at + 1 + 1) (at + 2) (omega arith)) in
    record { low_is = omega arith; under = omega arith; bytes = n₁ ∙ cc }
