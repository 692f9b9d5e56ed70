-- Rounds of the cycle test that change nothing: the code stops at the first.
use mathlib.Core.Path.{◌≡◌, refl, sym, ap, ◌∙◌}
use mathlib.Core.Logic.{⊎_elim}
use mathlib.Core.Bool.{Bool, true, false, ◌||◌, or-false}
use mathlib.Core.List.{List, [], ◌∷◌}
use Prim.Native.Nat.{ℕ, zero, suc, ◌+◌, ◌^◌, ◌≤◌, ◌<◌}
use native.Mathlib.Omega.{arith}
use native.Mathlib.Nat.{add-zero, zero-add}
use lib.ListN.{length, get_or}
use lib.Dec.{eqb}
use lib.Bits.{bit_and, bit_or}
use Rattle.std.specs.Prelude.{fold}
use Rattle.graph.specs.Words.{pick, bit, row_from, row, those, members, any_of, is_none}
use Rattle.graph.specs.Graph.{edge, led_to, sweep, sweeps, acyclic_among, acyclic}
use Rattle.graph.proofs.Bits.{bit_zero, bit_or_lem}
use Rattle.graph.proofs.Members.{those_same, members_and, members_full, members_zero, members_none, members_short}
use Rattle.graph.proofs.Kahn.{stops}

module _ (E : ℕ → ℕ → Bool) where
  -- a round that changes nothing changes nothing later
  pub still_same : (l : List ℕ) → sweep E l ≡ l → (k : ℕ) → sweeps E k l ≡ l
  unfolding sweeps
  still_same l e zero = refl
  still_same l e (suc k) = ap (sweep E) (still_same l e k) ∙ e

  -- a round first, or a round last
  pub round_first : (k : ℕ) (l : List ℕ) → sweeps E k (sweep E l) ≡ sweep E (sweeps E k l)
  unfolding sweeps
  round_first zero l = refl
  round_first (suc k) l = ap (sweep E) (round_first k l)

  none_swept : (l : List ℕ) → length l ≤ 0 → sweep E l ≡ l
  unfolding sweep those
  none_swept [] h = refl
  none_swept (x ∷ l) h = absurd (omega arith)

  -- after as many rounds as there are vertices one more changes nothing
  pub settled : (l : List ℕ) (k : ℕ) → length l ≤ k → sweep E (sweeps E k l) ≡ sweeps E k l
  settled l k h = ⊎_elim (λ p. none_swept (sweeps E k l) (omega arith)) (λ p. p) (stops E l k)

-- ---- the set of what is led to, gathered vertex by vertex
module _ (succ : List ℕ) where
  pub led_none : (set w : ℕ) → (bit 0 w || led_to (edge succ) (members set) w) ≡ led_to (edge succ) (members set) w
  led_none set w = ap (λ (b : Bool). b || led_to (edge succ) (members set) w) (bit_zero w)

  -- one vertex more
  pub led_one : (led u : ℕ) (l : List ℕ) (w : ℕ) → (bit (bit_or led (get_or succ u 0)) w || led_to (edge succ) l w) ≡ (bit led w || led_to (edge succ) (u ∷ l) w)
  unfolding led_to any_of edge
  led_one led u l w =
      ap (λ (b : Bool). b || led_to (edge succ) l w) (bit_or_lem led (get_or succ u 0) w)
      ∙ either (bit led w) (bit (get_or succ u 0) w) (led_to (edge succ) l w)
    where
      either : (a b d : Bool) → ((a || b) || d) ≡ (a || pick b true d)
      either true b d = refl
      either false true d = refl
      either false false d = refl

  pub led_more : (led rest less u : ℕ) → members rest ≡ u ∷ members less
      → (w : ℕ) → (bit (bit_or led (get_or succ u 0)) w || led_to (edge succ) (members less) w) ≡ (bit led w || led_to (edge succ) (members rest) w)
  led_more led rest less u m w = led_one led u (members less) w ∙ ap (λ (l : List ℕ). bit led w || led_to (edge succ) l w) (sym m)

  pub led_end : (led rest : ℕ) → rest ≡ 0 → (w : ℕ) → bit led w ≡ (bit led w || led_to (edge succ) (members rest) w)
  unfolding led_to any_of
  led_end led rest e w =
      sym (ap (λ (l : List ℕ). bit led w || led_to (edge succ) l w) (ap members e ∙ members_zero) ∙ or-false (bit led w))

  -- what stands from u on, or-ed together
  or_from : (acc u : ℕ) (l : List ℕ) → ((k : ℕ) → get_or succ (u + k) 0 ≡ get_or l k 0) → (w : ℕ)
      → bit (fold bit_or acc l) w ≡ (bit acc w || led_to (edge succ) (row_from (length l) u (λ j. j)) w)
  unfolding led_to any_of row_from
  or_from acc u [] h w = sym (or-false (bit acc w))
  or_from acc u (x ∷ l) h w =
      let e : get_or succ u 0 ≡ x = ap (λ (k : ℕ). get_or succ k 0) (sym (add-zero u)) ∙ h 0 in
      or_from (bit_or acc x) (suc u) l (λ k. ap (λ (n : ℕ). get_or succ n 0) (let z : suc u + k ≡ u + suc k = omega arith in z) ∙ h (suc k)) w
      ∙ ap (λ (y : ℕ). bit (bit_or acc y) w || led_to (edge succ) (row_from (length l) (suc u) (λ j. j)) w) (sym e)
      ∙ led_one acc u (row_from (length l) (suc u) (λ j. j)) w

  -- the sixteen, or-ed together, are what any of them leads to
  pub or_all : length succ ≡ 16 → (w : ℕ) → bit (fold bit_or 0 succ) w ≡ led_to (edge succ) (members 65535) w
  unfolding row
  or_all h w =
      or_from 0 0 succ (λ k. ap (λ (n : ℕ). get_or succ n 0) (zero-add k)) w
      ∙ ap (λ (n : ℕ). bit 0 w || led_to (edge succ) (row_from n 0 (λ j. j)) w) h
      ∙ ap (λ (l : List ℕ). bit 0 w || led_to (edge succ) l w) (sym members_full)
      ∙ led_none 65535 w

-- the round on sets of bits: `led` is the set of the vertices that are led to
pub round_is : (E : ℕ → ℕ → Bool) (left led : ℕ) → ((w : ℕ) → bit led w ≡ led_to E (members left) w) → sweep E (members left) ≡ members (bit_and left led)
unfolding sweep
round_is E left led h = sym (members_and left led ∙ those_same (bit led) (led_to E (members left)) (members left) h)

-- ---- what the code keeps: whether `left` comes to nothing is what the test asks
unfoldable pub comes_to_none : List ℕ → ℕ → Bool
comes_to_none succ left = is_none (sweeps (edge succ) 16 (members left))

module _ (succ : List ℕ) where
  pub all_in_lem : comes_to_none succ 65535 ≡ acyclic succ
  unfolding comes_to_none acyclic acyclic_among
  all_in_lem = ap (λ (l : List ℕ). is_none (sweeps (edge succ) 16 l)) members_full

  module _ (left led : ℕ) (h : (w : ℕ) → bit led w ≡ led_to (edge succ) (members left) w) where
    pub round_on : comes_to_none succ (bit_and left led) ≡ comes_to_none succ left
    unfolding comes_to_none
    round_on =
        ap is_none
        (ap (sweeps (edge succ) 16) (sym (round_is (edge succ) left led h))
        ∙ round_first (edge succ) 16 (members left)
        ∙ settled (edge succ) (members left) 16 (members_short left))

    pub round_end : left < 2 ^ 16 → bit_and left led ≡ left → comes_to_none succ left ≡ eqb left 0
    unfolding comes_to_none
    round_end b e =
        ap is_none (still_same (edge succ) (members left) (round_is (edge succ) left led h ∙ ap members e) 16) ∙ members_none left b
