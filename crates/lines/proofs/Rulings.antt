-- The judge's line: its cases, and its length, at most 56 bytes.
use mathlib.Core.Path.{◌≡◌, refl}
use mathlib.Core.Bool.{Bool, true, false}
use mathlib.Core.List.{List, [], ◌++◌}
use Prim.Native.Nat.{ℕ, ◌≤◌, ◌<◌}
use native.Mathlib.Omega.{arith}
use lib.Dec.{eqb, leb}
use lib.ListN.{length, length-append}
use borrow.Author.Tests.{eq-eqb, ne_eqb, le-leb, lt-leb}
use Rattle.graph.specs.Words.{pick}
use Rattle.text.specs.Text.{text, newline, decimal}
use Rattle.text.proofs.Decimal.{decimal_length}
use Rattle.journal.specs.declared.Ruling.{Ruling}
use Rattle.lines.specs.Rulings.{legal_line, unread_line, refused_line, ruling_line}

-- ---- by what is tested
pub if_so : (b : Bool) (x y : List ℕ) → b ≡ true → x ≡ pick b x y
if_so b x y e = rw e refl

pub if_not : (b : Bool) (x y : List ℕ) → b ≡ false → y ≡ pick b x y
if_not b x y e = rw e refl

-- ---- by the number
module _ (r : Ruling) where
  pub line_legal : r.number ≡ 0 → legal_line r ≡ ruling_line r
  unfolding ruling_line
  line_legal e = rw (eq-eqb r.number 0 e) refl

  pub line_unread : (r.number ≡ 0 → ⊥) → r.number ≤ 8 → unread_line r ≡ ruling_line r
  unfolding ruling_line
  line_unread e h = rw (ne_eqb r.number 0 e, le-leb r.number 8 h) refl

  pub line_refused : (r.number ≡ 0 → ⊥) → 8 < r.number → refused_line r ≡ ruling_line r
  unfolding ruling_line
  line_refused e h = rw (ne_eqb r.number 0 e, lt-leb r.number 8 h) refl

  -- ---- lengths
  legal_most : length (legal_line r) ≤ 56
  unfolding legal_line text newline
  legal_most = go r.missed
    where
      go : (b : Bool) → length (text "legal " ++ decimal r.rows ++ text " rows" ++ pick b (text ", the last missed") [] ++ newline) ≤ 56
      go true = simp length-append (omega (arith, (decimal_length r.rows).1))
      go false = simp length-append (omega (arith, (decimal_length r.rows).1))

  unread_most : length (unread_line r) ≤ 56
  unfolding unread_line text newline
  unread_most = simp length-append (omega (arith, (decimal_length r.number).1, (decimal_length r.place).1))

  refused_most : length (refused_line r) ≤ 56
  unfolding refused_line text newline
  refused_most = simp length-append (omega (arith, (decimal_length r.number).1, (decimal_length r.row).1))

  -- THE LINE'S LENGTH
  pub ruling_most : length (ruling_line r) ≤ 56
  unfolding ruling_line
  ruling_most = go (eqb r.number 0) (leb r.number 8)
    where
      go : (b c : Bool) → length (pick b (legal_line r) (pick c (unread_line r) (refused_line r))) ≤ 56
      go true c = legal_most
      go false true = unread_most
      go false false = refused_most
