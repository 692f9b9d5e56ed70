-- Rows and sets that agree by number.
use Rattle.std.proofs.Common.{◌≡◌, ℕ, zero, suc, ◌^◌, ◌<◌, Bool, List, map, length, get_or, replicate, sym, refl, ap, ◌∙◌, arith, ext_get_or}
use lib.ListN.{length-map}
use Rattle.graph.specs.Words.{pick, row, set_of}
use Rattle.graph.proofs.Facts.{sum_same, length_row, row_at}

-- what owning an array of structs tells of its list
pub length_mapped : (X Y : Type 0) (f : X → Y) (l : List X) (n : ℕ) → length (map f l) ≡ n → length l ≡ n
length_mapped X Y f l n e = sym (length-map l f) ∙ e

-- the same thing throughout
pub same_throughout {ℓ} : {X : Type ℓ} (n i : ℕ) (d : X) → get_or (replicate n d) i d ≡ d
same_throughout zero i d = refl
same_throughout (suc n) zero d = refl
same_throughout (suc n) (suc i) d = same_throughout n i d

-- a row that changes nothing
pub row_same {ℓ} : {X : Type ℓ} (n : ℕ) (d : X) (f : ℕ → X) (l : List X) → length l ≡ n → ((k : ℕ) → k < n → f k ≡ get_or l k d) → row n f ≡ l
row_same n d f l e h = ext_get_or d (row n f) l (length_row n f ∙ sym e)
    (λ k b. let c : k < n = omega (arith, length_row n f) in row_at n f k d c ∙ h k c)

-- rows that agree by number are equal
pub row_ext {ℓ} : {X : Type ℓ} (n : ℕ) (d : X) (f g : ℕ → X) → ((k : ℕ) → k < n → f k ≡ g k) → row n f ≡ row n g
row_ext n d f g h = row_same n d f (row n g) (length_row n g) (λ k b. h k b ∙ sym (row_at n g k d b))

-- and so are sets
pub set_ext : (n : ℕ) (p q : ℕ → Bool) → ((k : ℕ) → k < n → p k ≡ q k) → set_of n p ≡ set_of n q
unfolding set_of
set_ext n p q h = sum_same n _ _ (λ k b. ap (λ (c : Bool). pick c (2 ^ k) 0) (h k b))
