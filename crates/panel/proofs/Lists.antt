-- A test of each entry of a list is a test of each number below its length.
use mathlib.Core.Path.{◌≡◌, refl, sym, ap, ◌∙◌}
use mathlib.Core.Bool.{Bool, true, false, ◌&&◌}
use mathlib.Core.List.{List, [], ◌∷◌}
use Prim.Native.Nat.{ℕ, zero, suc}
use lib.ListN.{length, get_or}
use Rattle.std.specs.List.{list_all, range_with_len}
use Rattle.graph.specs.Words.{all}

and_past : (a b c : Bool) → ((a && b) && c) ≡ (a && (b && c))
and_past true b c = refl
and_past false b c = refl

and_last : (a : Bool) → (true && a) ≡ (a && true)
and_last true = refl
and_last false = refl

all_front : (n : ℕ) (p : ℕ → Bool) → all (suc n) p ≡ (p 0 && all n (λ k. p (suc k)))
unfolding all
all_front zero p = and_last (p 0)
all_front (suc n) p = ap (λ (b : Bool). b && p (suc n)) (all_front n p) ∙ and_past (p 0) _ _

list_all_is : {X : Type 0} (p : X → Bool) (d : X) → (xs : List X) → list_all p xs ≡ all (length xs) (λ k. p (get_or xs k d))
unfolding all
list_all_is p d [] = refl
list_all_is p d (x ∷ xs) = ap (λ (b : Bool). p x && b) (list_all_is p d xs) ∙ sym (all_front (length xs) (λ k. p (get_or (x ∷ xs) k d)))

pub all_of_list : {X : Type 0} (p : X → Bool) (d : X) → (n : ℕ) (xs : List X) → length xs ≡ n → list_all p xs ≡ all n (λ k. p (get_or xs k d))
all_of_list p d n xs e = list_all_is p d xs ∙ ap (λ (k : ℕ). all k (λ k. p (get_or xs k d))) e

pub all_four : (p : ℕ → Bool) → list_all p (range_with_len 0 4) ≡ all 4 p
unfolding all
all_four p = list_all_is p 0 (range_with_len 0 4)
