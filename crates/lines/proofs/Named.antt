-- The numbers of a set, named one after the other.
use mathlib.Core.Path.{◌≡◌, refl, sym, ap, ◌∙◌}
use mathlib.Core.Bool.{Bool, true, false}
use mathlib.Core.List.{List, [], ◌∷◌, ◌++◌, append-nil, append_assoc}
use Prim.Native.Nat.{ℕ, zero, suc}
use Rattle.graph.specs.Words.{pick, bit, row_from, row, also_if, those, those_below, members, join_from, in_order}
use Rattle.graph.proofs.Members.{Took, members_zero}
use Rattle.text.specs.Text.{text, decimal}
use Rattle.text.specs.declared.page.Page.{Page}
use Rattle.text.specs.Page.{Adds}
use Rattle.text.proofs.Pages.{then, same, nothing}
use Rattle.lines.specs.Lines.{number_in}

pub named : List ℕ → List ℕ
named [] = []
named (i ∷ l) = (text " " ++ decimal i) ++ named l

also_named : (b : Bool) (i : ℕ) (l : List ℕ) → pick b (text " " ++ decimal i) [] ++ named l ≡ named (also_if b i l)
unfolding also_if named
also_named true i l = refl
also_named false i l = refl

from_named : (set k i : ℕ) → join_from k i (number_in set) ≡ named (those (bit set) (row_from k i (λ j. j)))
unfolding join_from row_from those number_in named
from_named set zero i = refl
from_named set (suc k) i =
    ap (λ (l : List ℕ). pick (bit set i) (text " " ++ decimal i) [] ++ l) (from_named set k (suc i)) ∙ also_named (bit set i) i (those (bit set) (row_from k (suc i) (λ j. j)))

set_named : (set : ℕ) → in_order 16 (number_in set) ≡ named (members set)
unfolding in_order members those_below row
set_named set = from_named set 16 0

-- the page b has of the numbers of a set those that are no longer to come
pub record Names {n : ℕ} (a b : Page n) (set rest : ℕ) : Type 0 where
  pub front : List ℕ
  pub put : Adds a b front
  pub whole : front ++ named (members rest) ≡ named (members set)

module _ {n : ℕ} where
  pub none_named : (a : Page n) (set : ℕ) → Names a a set set
  none_named a set = record { front = []; put = nothing a; whole = refl }

  pub one_named : {a b c : Page n} {set x u y : ℕ} → Names a b set x → Took x u y → Adds b c (text " " ++ decimal u) → Names a c set y
  unfolding named
  one_named {set = set} {u = u} {y = y} h t p = record {
    front = h.front ++ (text " " ++ decimal u);
    put = then h.put p;
    whole = append_assoc h.front (text " " ++ decimal u) (named (members y)) ∙ ap (λ (l : List ℕ). h.front ++ named l) (sym t.listed) ∙ h.whole;
  }

  pub all_named : {a b : Page n} {set x : ℕ} → Names a b set x → x ≡ 0 → Adds a b (in_order 16 (number_in set))
  unfolding named
  all_named {set = set} h e =
      same h.put (sym (append-nil h.front) ∙ ap (λ (l : List ℕ). h.front ++ named l) (sym (ap members e ∙ members_zero)) ∙ h.whole ∙ sym (set_named set))
