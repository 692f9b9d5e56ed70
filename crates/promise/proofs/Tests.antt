-- Tests that compute: of a choice that is legal, of releases that are spaced, and of a run whose choices are all legal.
use mathlib.Core.Path.{◌≡◌, refl, sym, ap, ◌∙◌}
use mathlib.Core.Bool.{Bool, true, false, ◌&&◌, ◌||◌, not}
use mathlib.Core.List.{List, [], ◌∷◌}
use Prim.Native.Nat.{ℕ, zero, suc, ◌+◌, ◌/◌, ◌%◌, ◌^◌, ◌≤◌, ◌<◌, min}
use native.Mathlib.Omega.{arith}
use native.Mathlib.Decide.{ℕ_discrete, dec_lt}
use native.Mathlib.Nat.{zero-div}
use lib.ListN.{length, get_or}
use lib.Dec.{ltb, leb, eqb}
use borrow.Author.Tests.{lt-ltb, ltb-true, leb-true, eqb-true, not-true, ne_eqb}
use Rattle.graph.specs.Words.{pick, bit, all, is_in, Distinct}
use Rattle.graph.proofs.Facts.{clash, both_true, all_at}
use Rattle.graph.proofs.Members.{held_below}
use Rattle.table.specs.declared.Table.{Table}
use Rattle.table.specs.Memory.{T}
use Rattle.machine.specs.declared.State.{State}
use Rattle.machine.specs.Steps.{released, availables, left_in, Legal}
use Rattle.promise.specs.Runs.{table_of, Plan, Sporadic, taking, Kind, Drawn, tick_at, state_at, mid_at, LegalBefore}

-- ---- each number of a list passes a test
unfoldable pub every : (ℕ → Bool) → List ℕ → Bool
every p [] = true
every p (x ∷ l) = p x && every p l

every_at : (p : ℕ → Bool) (l : List ℕ) → every p l ≡ true → (a : ℕ) → is_in a l ≡ true → p a ≡ true
unfolding every is_in
every_at p [] h a e = absurd (clash e refl)
every_at p (x ∷ l) h a e = go (eqb a x) refl e (every_at p l (both_true (p x) (every p l) h).1 a)
  where
    go : (c : Bool) → eqb a x ≡ c → pick c true (is_in a l) ≡ true → (is_in a l ≡ true → p a ≡ true) → p a ≡ true
    go true q e r = ap p (eqb-true a x q) ∙ (both_true (p x) (every p l) h).0
    go false q e r = r e

-- ---- a legal choice
unfoldable pub distinct : List ℕ → Bool
distinct [] = true
distinct (x ∷ l) = not (is_in x l) && distinct l

is_distinct : (l : List ℕ) → distinct l ≡ true → Distinct l
unfolding distinct Distinct
is_distinct [] h = tt
is_distinct (x ∷ l) h = let r = both_true (not (is_in x l)) (distinct l) h in (not-true (is_in x l) r.0, is_distinct l r.1)

-- by the list of those that are available
unfoldable pub legal_among : Table → State → List ℕ → List ℕ → Bool
legal_among t st chosen av =
    distinct chosen && eqb (length chosen) (min t.m (length av)) && every (λ a. is_in a av) chosen
    && every (λ a. is_in a chosen || every (λ b. leb (left_in st b) (left_in st a)) chosen) av

unfoldable pub legal_test : Table → State → List ℕ → Bool
legal_test t st chosen = legal_among t st chosen (availables t st)

or_second : (a b : Bool) → a || b ≡ true → a ≡ false → b ≡ true
or_second true b h e = absurd (clash refl e)
or_second false b h e = h

pub is_legal : (t : Table) (st : State) (chosen : List ℕ) → legal_test t st chosen ≡ true → Legal t st chosen
unfolding legal_test legal_among
is_legal t st chosen h =
    let a = both_true _ _ h in
    let b = both_true _ _ a.0 in
    let c = both_true _ _ b.0 in
    record {
      distinct = is_distinct chosen c.0;
      number = eqb-true _ _ c.1;
      only = every_at _ chosen b.1;
      first = λ x y i o j.
          leb-true (left_in st y) (left_in st x)
          (every_at _ chosen (or_second (is_in x chosen) _ (every_at _ (availables t st) a.1 x i) o) y j);
    }

-- ---- times that are drawn within the costs: of each what costs any takes at least one
unfoldable pub drawn_test : List ℕ → List ℕ → Bool
drawn_test costs times = all 256 (λ k. leb (get_or times k 0) (get_or costs k 0) && leb (min 1 (get_or costs k 0)) (get_or times k 0))

pub is_drawn : (t : Table) (times : List ℕ) → drawn_test t.costs times ≡ true → Drawn t times
unfolding drawn_test
is_drawn t times h = record {
  most = λ k b. leb-true _ _ (each k b).0;
  least = λ k b l. let z = leb-true (min 1 (get_or t.costs k 0)) (get_or times k 0) (each k b).1 in omega arith;
}
  where
    each : (k : ℕ) → k < 256 → (leb (get_or times k 0) (get_or t.costs k 0) ≡ true) × (leb (min 1 (get_or t.costs k 0)) (get_or times k 0) ≡ true)
    each k b = both_true (leb (get_or times k 0) (get_or t.costs k 0)) _ (all_at 256 _ h k b)

-- ---- a run whose choices are all legal
module _ (kind : Kind) (file : List ℕ) (clock : ℕ) (plan : Plan) where
  -- from tick x on, k ticks; t is the file's table
  unfoldable pub walk : Table → ℕ → ℕ → State → Bool
  walk t zero x st = true
  walk t (suc k) x st = legal_test t (released (taking t (plan.times x)) st (plan.rel x)) (plan.choice x) && walk t k (suc x) (tick_at kind file clock plan x st).state

  walked : (k x : ℕ) → walk (table_of file) k x (state_at kind file clock plan x) ≡ true → (y : ℕ) → x ≤ y → y < x + k
      → legal_test (table_of file) (mid_at kind file clock plan y) (plan.choice y) ≡ true
  unfolding walk state_at mid_at
  walked zero x h y l u = absurd (omega arith)
  walked (suc k) x h y l u =
      let r = both_true _ _ h in
      elim (ℕ_discrete y x) [
        | yes e ↦ rw e r.0
        | no e ↦ walked k (suc x) r.1 y (omega arith) (omega arith)
      ]

  pub all_legal : (N : ℕ) → walk (table_of file) N 0 (state_at kind file clock plan 0) ≡ true → LegalBefore kind file clock plan N
  all_legal N h x b = is_legal (table_of file) (mid_at kind file clock plan x) (plan.choice x) (walked N 0 h x (omega arith) (omega arith))

-- ---- releases that are spaced, none from tick N on
module _ (t : Table) (rel : ℕ → ℕ) (N : ℕ) where
  -- tick x names only tasks below n, in sixteen bits
  unfoldable pub names_tasks : ℕ → Bool
  names_tasks x = ltb (rel x) (2 ^ 16) && all 16 (λ i. not (bit (rel x) i) || ltb i t.n)

  unfoldable pub apart_at : ℕ → ℕ → ℕ → Bool
  apart_at i x y = not (ltb x y && bit (rel x) i && bit (rel y) i) || leb (x + T t i) y

  unfoldable pub spaced_test : Bool
  spaced_test = all N names_tasks && all t.n (λ i. all N (λ x. all N (λ y. apart_at i x y)))

  not_or : (a b : Bool) → not a || b ≡ true → a ≡ true → b ≡ true
  not_or true b h e = h
  not_or false b h e = absurd (clash e refl)

  all_three : (a b c : Bool) → a ≡ true → b ≡ true → c ≡ true → a && b && c ≡ true
  all_three a b c e f g = rw (e, f, g) refl

  no_bit : (i : ℕ) → bit 0 i ≡ false
  unfolding bit
  no_bit i = let z = zero-div (2 ^ i) in ne_eqb (0 / 2 ^ i % 2) 1 (λ e. absurd (omega arith))

  pub is_sporadic : ((x : ℕ) → N ≤ x → rel x ≡ 0) → spaced_test ≡ true → (M : ℕ) → Sporadic t rel M
  unfolding spaced_test names_tasks apart_at
  is_sporadic none h M = record {
    tasks = λ x i _ e. below x i e;
    apart = λ i x y l _ e f. leb-true _ _ (not_or _ _ (all_at N _ (all_at N _ (all_at t.n _ r.1 i (below x i e)) x (early x i e)) y (early y i f))
        (all_three _ _ _ (lt-ltb x y l) e f));
  }
    where
      r : (all N names_tasks ≡ true) × (all t.n (λ i. all N (λ x. all N (λ y. apart_at i x y))) ≡ true)
      r = both_true _ _ h

      early : (x i : ℕ) → bit (rel x) i ≡ true → x < N
      early x i e = elim (dec_lt x N) [
        | yes l ↦ l
        | no l ↦ absurd (clash (sym (ap (λ (z : ℕ). bit z i) (none x (omega arith))) ∙ e) (no_bit i))
      ]

      below : (x i : ℕ) → bit (rel x) i ≡ true → i < t.n
      below x i e =
          let q = both_true _ _ (all_at N _ r.0 x (early x i e)) in
          ltb-true i t.n (not_or _ _ (all_at 16 _ q.1 i (held_below (rel x) i (ltb-true _ _ q.0) e)) e)
