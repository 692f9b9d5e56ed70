-- A page: text behind text is one text; a page that began blank holds what was put on it.
use mathlib.Core.Path.{◌≡◌, refl, sym, ap, ap₂, subst, ◌∙◌}
use mathlib.Core.Bool.{Bool, true, false}
use mathlib.Core.List.{List, [], ◌++◌}
use Prim.Native.Nat.{ℕ, ◌+◌, ◌-◌, ◌≤◌, min}
use native.Mathlib.Omega.{arith}
use lib.Dec.{ltb}
use lib.ListN.{length, replicate, take, length-append, length-replicate}
use lib.Seq.{take-append_seam}
use borrow.Author.Tests.{ltb-true, ltb-false}
use Rattle.graph.specs.Words.{in_order}
use Rattle.text.specs.declared.page.Page.{Page}
use Rattle.text.specs.Laid.{laid}
use Rattle.text.specs.Page.{blank, Adds}
use Rattle.text.specs.Written.{written}
use Rattle.text.proofs.Laying.{length_laid, laid_none, laid_then, laid_outside, laid_cut}
use Rattle.text.proofs.Putting.{zeros_behind, none_before, one_more_lem}

-- ---- a list laid, and another behind it, where the place stops at the buffer's end
laid_on : (buf : List ℕ) (at : ℕ) (l m : List ℕ) → laid (laid buf at l) (at + min (length l) (length buf - at)) m ≡ laid buf at (l ++ m)
laid_on buf at l m = go (ltb (at + length l) (length buf)) refl
  where
    go : (b : Bool) → ltb (at + length l) (length buf) ≡ b → laid (laid buf at l) (at + min (length l) (length buf - at)) m ≡ laid buf at (l ++ m)
    go true e =
        let h = ltb-true (at + length l) (length buf) e in
        let n : at + min (length l) (length buf - at) ≡ at + length l = omega arith in
        ap (λ (k : ℕ). laid (laid buf at l) k m) n ∙ laid_then buf at l m
    go false e =
        let h = ltb-false (at + length l) (length buf) e in
        laid_outside (laid buf at l) _ m (omega (arith, length_laid buf at l)) ∙ ap (laid buf at) (sym (take-append_seam l m)) ∙ laid_cut buf at (length l) (l ++ m) (omega arith)

module _ {n : ℕ} where
  -- bytes laid, and the text longer by as many
  pub grown : {a b : Page n} {l mid : List ℕ} {k : ℕ} → mid ≡ laid a.bytes a.len l → k ≡ length l → b.bytes ≡ mid → b.len ≡ a.len + min k (length mid - a.len) → Adds a b l
  grown {a} {l = l} e f x y = record { bytes = x ∙ e; len = omega (arith, f, y, ap length e, length_laid a.bytes a.len l) }

  -- one text, and another behind it
  pub then : {a b c : Page n} {l m : List ℕ} → Adds a b l → Adds b c m → Adds a c (l ++ m)
  then {a} {b} {c} {l} {m} x y = record {
    bytes = y.bytes ∙ ap₂ (λ (z : List ℕ) (k : ℕ). laid z k m) x.bytes x.len ∙ laid_on a.bytes a.len l m;
    len = omega (arith, x.len, y.len, ap length x.bytes, length_laid a.bytes a.len l, length-append l m);
  }

  -- the same text in other words
  pub same : {a b : Page n} {l m : List ℕ} → Adds a b l → l ≡ m → Adds a b m
  same {a} {b} x e = subst (λ (z : List ℕ). Adds a b z) e x

  -- on a page that is full nothing more shows
  pub still : {a b c : Page n} {l m : List ℕ} → Adds a b l → Adds b c m → length a.bytes ≤ a.len → Adds a c l
  still {a} {b} {c} {l} {m} x y h =
      let full : length b.bytes ≤ b.len = omega (arith, x.len, ap length x.bytes, length_laid a.bytes a.len l) in
      record { bytes = y.bytes ∙ laid_outside b.bytes b.len m full ∙ x.bytes; len = omega (arith, x.len, y.len) }

  -- nothing yet
  pub nothing : (p : Page n) → Adds p p []
  nothing p = record { bytes = sym (laid_none p.bytes p.len); len = omega arith }

  -- ---- text after text
  pub none_yet : (p : Page n) (f : ℕ → List ℕ) → Adds p p (in_order 0 f)
  none_yet p f = same (nothing p) (none_before f)

  pub one_more : {a b c : Page n} (k : ℕ) (f : ℕ → List ℕ) → Adds a b (in_order k f) → Adds b c (f k) → Adds a c (in_order (k + 1) f)
  one_more k f x y = same (then x y) (one_more_lem k f)

-- ---- what began blank
pub written_by : {n : ℕ} {a b : Page n} {l : List ℕ} → a ≡ blank n → Adds a b l → length l ≤ n → b ≡ written n l
unfolding blank written
written_by {n} {a} {b} {l} e y h =
    let x : Adds (blank n) b l = subst (λ (p : Page n). Adds p b l) e y in
    ap₂ (λ (z : List ℕ) (k : ℕ). record { bytes = z; len = k }) (x.bytes ∙ zeros_behind n l h) (omega (arith, x.len, length-replicate {A = ℕ} n 0))

module _ {n : ℕ} (l : List ℕ) (most : length l ≤ n) (p : Page n) (h : p ≡ written n l) where
  pub written_len : p.len ≡ length l
  unfolding written
  written_len = ap (λ (x : Page n). x.len) h

  pub written_long : length p.bytes ≡ n
  unfolding written
  written_long =
      ap (λ (x : Page n). length x.bytes) h ∙ length-append l (replicate (n - length l) 0) ∙ omega (arith, length-replicate {A = ℕ} (n - length l) 0)

  -- its first bytes are the text
  pub written_text : take p.len p.bytes ≡ l
  unfolding written
  written_text = rw h (take-append_seam l (replicate (n - length l) 0))
