-- No two runs have the same writing, but for the order within a tick.
use mathlib.Core.Path.{◌≡◌, refl, sym, ap, ◌∙◌}
use mathlib.Core.List.{List, [], ◌∷◌, ◌++◌}
use Prim.Native.Nat.{ℕ}
use native.Mathlib.Omega.{arith}
use lib.ListN.{length, get_or, drop}
use Rattle.graph.specs.Words.{is_in}
use Rattle.table.specs.Reading.{read}
use Rattle.machine.specs.declared.State.{State}
use Rattle.machine.specs.Steps.{released}
use Rattle.machine.proofs.Index.{name_of}
use Rattle.journal.specs.Runs.{Tick, tick_with, LegalRun, keys_of, triple_bytes, row_bytes, writing, SameRun}
use Rattle.journal.proofs.Lawful.{same_members}

tails : (x y : ℕ) (a b : List ℕ) → x ∷ a ≡ y ∷ b → a ≡ b
tails x y a b e = ap (drop 1) e

heads : (x y : ℕ) (a b : List ℕ) → x ∷ a ≡ y ∷ b → x ≡ y
heads x y a b e = ap (λ (l : List ℕ). get_or l 0 0) e

-- triples of the same number
same_triples : (ks ls a b : List ℕ) → length ks ≡ length ls → triple_bytes ks ++ a ≡ triple_bytes ls ++ b → (ks ≡ ls) × (a ≡ b)
unfolding triple_bytes
same_triples [] [] a b n e = (refl, e)
same_triples [] (l ∷ ls) a b n e = absurd (omega arith)
same_triples (k ∷ ks) [] a b n e = absurd (omega arith)
same_triples (k ∷ ks) (l ∷ ls) a b n e =
    let p = heads _ _ _ _ e in
    let f = tails _ _ _ _ e in
    let q = heads _ _ _ _ f in
    let g = tails _ _ _ _ f in
    let v = heads _ _ _ _ g in
    let r = same_triples ks ls a b (omega arith) (tails _ _ _ _ g) in
    let x = name_of k in
    let y = name_of l in
    let h : k ≡ l = omega arith in
    (ap (λ (z : ℕ). z ∷ ks) h ∙ ap (◌∷◌ l) r.0, r.1)

same_row : (m n : ℕ) (ks ls a b : List ℕ) → row_bytes m ks ++ a ≡ row_bytes n ls ++ b → (m ≡ n) × (ks ≡ ls) × (a ≡ b)
unfolding row_bytes
same_row m n ks ls a b e =
    let e₂ = ap (drop 2) e in
    let e₃ = ap (drop 3) e in
    let e₄ = ap (drop 4) e in
    let p = heads _ _ _ _ e₂ in
    let q = heads _ _ _ _ e₃ in
    let c = heads _ _ _ _ e₄ in
    let r = same_triples ks ls a b c (tails _ _ _ _ e₄) in
    (omega arith, r.0, r.1)

no_bytes : (n : ℕ) (ks w : List ℕ) → [] ≡ row_bytes n ks ++ w → ⊥
unfolding row_bytes
no_bytes n ks w e = let z = ap length e in omega arith

pub one_run : (file : List ℕ) (run other : List Tick) (a b : State) → LegalRun file a run → LegalRun file b other → writing run ≡ writing other → SameRun run other
unfolding writing SameRun LegalRun
one_run file [] [] a b l r e = tt
one_run file [] (y ∷ ys) a b l r e = no_bytes y.named (keys_of y.chosen) (writing ys) e
one_run file (x ∷ xs) [] a b l r e = no_bytes x.named (keys_of x.chosen) (writing xs) (sym e)
one_run file (x ∷ xs) (y ∷ ys) a b l r e =
    let s = same_row x.named y.named (keys_of x.chosen) (keys_of y.chosen) (writing xs) (writing ys) e in
    let t = (read file).table in (
      s.0,
      λ k. sym (same_members t (released t a x.named) x.chosen l.0.choice k) ∙ ap (is_in k) s.1 ∙ same_members t (released t b y.named) y.chosen r.0.choice k,
      one_run file xs ys (tick_with file a x).state (tick_with file b y).state l.1 r.1 s.2,
    )
