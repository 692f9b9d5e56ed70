-- Judging in pieces.
use mathlib.Core.Path.{◌≡◌, refl, sym, ap, ◌∙◌}
use mathlib.Core.Logic.{inr}
use mathlib.Core.Bool.{Bool, true, false, ◌||◌, not}
use mathlib.Core.List.{List, [], ◌∷◌, ◌++◌}
use Prim.Native.Nat.{ℕ, zero, suc, ◌+◌, ◌*◌, ◌-◌, ◌^◌, ◌≤◌, ◌<◌}
use native.Mathlib.Omega.{arith}
use native.Mathlib.Decide.{ℕ_discrete, dec_lt, dec_le}
use lib.ListN.{length, get_or, drop, length-drop, length-append}
use lib.Seq.{drop-append-le, get_or-drop}
use lib.Dec.{leb, eqb}
use borrow.Author.Tests.{eq-eqb, ne_eqb, lt-ltb, le-ltb, le-leb, lt-leb}
use Rattle.graph.proofs.Facts.{clash}
use Rattle.table.specs.declared.Table.{Table}
use Rattle.machine.specs.declared.State.{State}
use Rattle.journal.specs.declared.Progress.{Progress}
use Rattle.journal.specs.Rows.{row_count, row_end, cut_short, fault}
use Rattle.journal.specs.Judging.{ruled, judge_row, is_over, unless, rows_for, judge_rows, start}
use Rattle.journal.specs.Pieces.{behind, go_on, InPieces}
use Rattle.journal.proofs.Going.{legal_row, refused_row, over_refused, not_over, goes_on_lem, Enough, next_enough, none_enough, rows_over, rows_step}
use Rattle.journal.proofs.Passing.{passes, in_whole}
use Rattle.journal.proofs.SameRow.{same_count, same_set, same_listed, same_fault}

-- ---- first the rows up to a place, then the others
module _ (t : Table) (s : List ℕ) (mid end : ℕ) (h : mid ≤ end) where
  over : (p : Progress) → is_over mid p ≡ true → judge_rows t s end p ≡ judge_rows t s end (judge_rows t s mid p)
  over p f = sym (ap (judge_rows t s end) (rows_over t s mid p f))

  split_for : (k : ℕ) (p : Progress) → Enough t s mid k p → judge_rows t s end p ≡ judge_rows t s end (judge_rows t s mid p)
  split_for zero p e = over p (none_enough t s mid p e)
  split_for (suc k) p e = go (is_over mid p) refl (λ f. split_for k (judge_row t s p) (next_enough t s mid k p f e))
    where
      go : (b : Bool) → is_over mid p ≡ b → (is_over mid p ≡ false → judge_rows t s end (judge_row t s p) ≡ judge_rows t s end (judge_rows t s mid (judge_row t s p)))
          → judge_rows t s end p ≡ judge_rows t s end (judge_rows t s mid p)
      go true f i = over p f
      go false f i =
          let g = goes_on_lem mid p f in
          let l = g.0 in
          rows_step t s end p (not_over end p (omega arith) g.1) ∙ i f ∙ sym (ap (judge_rows t s end) (rows_step t s mid p f))

  pub rows_split : (p : Progress) → judge_rows t s end p ≡ judge_rows t s end (judge_rows t s mid p)
  unfolding Enough
  rows_split p = split_for mid p (inr (omega arith))

-- ---- where judging ends
module _ (t : Table) (s : List ℕ) (end : ℕ) where
  row_within : (p : Progress) → p.next ≤ length s → (judge_row t s p).next ≤ length s
  row_within p h = elim (ℕ_discrete (fault t p.state s p.next) 0) [
    | yes e ↦ rw (legal_row t s p e) (in_whole t p.state s p.next (passes t p.state s p.next e))
    | no d ↦ rw (refused_row t s p d) h
  ]

  for_within : (k : ℕ) (p : Progress) → p.next ≤ length s → (rows_for t s end k p).next ≤ length s
  unfolding rows_for
  for_within zero p h = h
  for_within (suc k) p h = go (is_over end p) (for_within k (judge_row t s p) (row_within p h))
    where
      go : (b : Bool) → (rows_for t s end k (judge_row t s p)).next ≤ length s → (unless b p (λ _. rows_for t s end k (judge_row t s p))).next ≤ length s
      go true i = h
      go false i = i

  pub rows_within : (p : Progress) → p.next ≤ length s → (judge_rows t s end p).next ≤ length s
  unfolding judge_rows
  rows_within p h = for_within (end - p.next) p h

-- ---- two journals that judge alike each row that begins before a place
module _ (t : Table) (s r : List ℕ) (end : ℕ) (same : (p : Progress) → p.next < end → judge_row t s p ≡ judge_row t r p) where
  alike_for : (k : ℕ) (p : Progress) → rows_for t s end k p ≡ rows_for t r end k p
  unfolding rows_for
  alike_for zero p = refl
  alike_for (suc k) p = go (is_over end p) refl (alike_for k (judge_row t s p))
    where
      go : (b : Bool) → is_over end p ≡ b → rows_for t s end k (judge_row t s p) ≡ rows_for t r end k (judge_row t s p)
          → unless b p (λ _. rows_for t s end k (judge_row t s p)) ≡ unless b p (λ _. rows_for t r end k (judge_row t r p))
      go true e i = refl
      go false e i = i ∙ ap (rows_for t r end k) (same p (goes_on_lem end p e).0)

  rows_alike : (p : Progress) → judge_rows t s end p ≡ judge_rows t r end p
  unfolding judge_rows
  rows_alike p = alike_for (end - p.next) p

-- ---- what follows a piece
front : (s r : List ℕ) (i : ℕ) → i < length s → get_or s i 0 ≡ get_or (s ++ r) i 0
front [] r i h = absurd (omega arith)
front (x ∷ s) r zero h = refl
front (x ∷ s) r (suc i) h = front s r i (omega arith)

whole : (s : List ℕ) (at : ℕ) → at + 5 + 3 * row_count s at ≤ length s → cut_short s at ≡ false
unfolding cut_short row_end
whole s at h = le-ltb (length s) (row_end s at) h

module _ (t : Table) (s r : List ℕ) (bytes : (k : ℕ) → get_or s k 0 < 2 ^ 8) where
  row_alike : (p : Progress) → p.next + 770 ≤ length s → judge_row t s p ≡ judge_row t (s ++ r) p
  unfolding judge_row ruled row_end row_count
  row_alike p h =
      let c = bytes (p.next + 4) in
      let l = length-append s r in
      let same : (i : ℕ) → i < 5 + 3 * row_count s p.next → get_or s (p.next + i) 0 ≡ get_or (s ++ r) (p.next + i) 0 = λ i b. front s r (p.next + i) (omega arith) in
      let n = same_count s p.next (s ++ r) p.next same in
      let k : cut_short s p.next ≡ cut_short (s ++ r) p.next = whole s p.next (omega arith) ∙ sym (whole (s ++ r) p.next (omega arith)) in
      rw (same_fault s p.next (s ++ r) p.next same t p.state k, n, same_set s p.next (s ++ r) p.next same, same_listed s p.next (s ++ r) p.next same) refl

-- ---- from a place on
module _ (t : Table) (s : List ℕ) (n rows : ℕ) (within : n ≤ length s) where
  moved : Progress → Progress
  moved p = record { number = p.number; next = n + p.next; rows = rows + p.rows; state = p.state }

  module _ (p : Progress) where
    abbrev at : ℕ
    at = p.next

    same : (i : ℕ) → i < 5 + 3 * row_count (drop n s) at → get_or (drop n s) (at + i) 0 ≡ get_or s (n + at + i) 0
    same i h = let e : n + (at + i) ≡ n + at + i = omega arith in get_or-drop n s (at + i) 0 ∙ ap (λ (k : ℕ). get_or s k 0) e

    same_cut : cut_short (drop n s) at ≡ cut_short s (n + at)
    unfolding cut_short row_end
    same_cut =
        let c = same_count (drop n s) at s (n + at) same in
        let l = length-drop n s in
        elim (dec_lt (length s) (n + at + 5 + 3 * row_count s (n + at))) [
          | yes h ↦ lt-ltb (length (drop n s)) (at + 5 + 3 * row_count (drop n s) at) (omega arith) ∙ sym (lt-ltb (length s) (n + at + 5 + 3 * row_count s (n + at)) h)
          | no h ↦ le-ltb (length (drop n s)) (at + 5 + 3 * row_count (drop n s) at) (omega arith) ∙ sym (le-ltb (length s) (n + at + 5 + 3 * row_count s (n + at)) (omega arith))
        ]

    its_fault : fault t p.state (drop n s) at ≡ fault t p.state s (n + at)
    its_fault = same_fault (drop n s) at s (n + at) same t p.state same_cut

    row_moved : judge_row t s (moved p) ≡ moved (judge_row t (drop n s) p)
    unfolding moved row_end
    row_moved = elim (ℕ_discrete (fault t p.state (drop n s) at) 0) [
      | yes e ↦
          let c = same_count (drop n s) at s (n + at) same in
          let a : n + at + 5 + 3 * row_count s (n + at) ≡ n + (at + 5 + 3 * row_count (drop n s) at) = omega arith in
          let b : rows + p.rows + 1 ≡ rows + (p.rows + 1) = omega arith in
          let r = legal_row t s (moved p) (sym its_fault ∙ e) in
          let q = legal_row t (drop n s) p e in
          let x = same_set (drop n s) at s (n + at) same in
          let y = same_listed (drop n s) at s (n + at) same in
          r ∙ rw (a, b, ← x, ← y) refl ∙ sym (ap moved q)
      | no d ↦
          let r = refused_row t s (moved p) (λ e. d (its_fault ∙ e)) in
          let q = refused_row t (drop n s) p d in
          r ∙ rw (← its_fault) refl ∙ sym (ap moved q)
    ]

    same_over : (end : ℕ) → is_over (n + end) (moved p) ≡ is_over end p
    unfolding is_over moved
    same_over end =
        let e : leb (n + end) (n + at) ≡ leb end at = elim (dec_le end at) [
          | yes h ↦ le-leb (n + end) (n + at) (omega arith) ∙ sym (le-leb end at h)
          | no h ↦ lt-leb (n + end) (n + at) (omega arith) ∙ sym (lt-leb end at (omega arith))
        ] in
        ap (λ (b : Bool). b || not (eqb p.number 0)) e

  for_moved : (end k : ℕ) (p : Progress) → rows_for t s (n + end) k (moved p) ≡ moved (rows_for t (drop n s) end k p)
  unfolding rows_for
  for_moved end zero p = refl
  for_moved end (suc k) p = go (is_over (n + end) (moved p)) (is_over end p) (same_over p end) (for_moved end k (judge_row t (drop n s) p))
    where
      go : (b c : Bool) → b ≡ c → rows_for t s (n + end) k (moved (judge_row t (drop n s) p)) ≡ moved (rows_for t (drop n s) end k (judge_row t (drop n s) p))
          → unless b (moved p) (λ _. rows_for t s (n + end) k (judge_row t s (moved p))) ≡ moved (unless c p (λ _. rows_for t (drop n s) end k (judge_row t (drop n s) p)))
      go true true e i = refl
      go true false e i = absurd (clash refl (e))
      go false true e i = absurd (clash refl (sym e))
      go false false e i = ap (rows_for t s (n + end) k) (row_moved p) ∙ i

  rows_moved : (end : ℕ) (p : Progress) → judge_rows t s (n + end) (moved p) ≡ moved (judge_rows t (drop n s) end p)
  unfolding judge_rows moved
  rows_moved end p =
      let fuel : n + end - (n + p.next) ≡ end - p.next = omega arith in
      ap (λ (k : ℕ). rows_for t s (n + end) k (moved p)) fuel ∙ for_moved end (end - p.next) p

  -- what is left, from the state st
  rest_moved : (st : State) → judge_rows t s (length s) (record { number = 0; next = n; rows = rows; state = st })
      ≡ moved (judge_rows t (drop n s) (length (drop n s)) (start st))
  unfolding moved start
  rest_moved st =
      let l = length-drop n s in
      let a : length s ≡ n + length (drop n s) = omega arith in
      let b : n ≡ n + 0 = omega arith in
      let c : rows ≡ rows + 0 = omega arith in
      ap (λ (k : ℕ). judge_rows t s k (record { number = 0; next = n; rows = rows; state = st })) a
      ∙ ap (λ (k : ℕ). judge_rows t s (n + length (drop n s)) (record { number = 0; next = k; rows = rows; state = st })) b
      ∙ ap (λ (k : ℕ). judge_rows t s (n + length (drop n s)) (record { number = 0; next = n + 0; rows = k; state = st })) c
      ∙ rows_moved (length (drop n s)) (start st)

-- what is left of a piece, and what follows it
then_rest : (t : Table) (s r : List ℕ) (q : Progress) → q.number ≡ 0 → q.next ≤ length s → judge_rows t (s ++ r) (length (s ++ r)) q ≡ go_on t s r q
unfolding go_on behind moved
then_rest t s r q e w =
    let l = length-append s r in
    ap (λ (k : ℕ). judge_rows t (s ++ r) (length (s ++ r)) (record { number = k; next = q.next; rows = q.rows; state = q.state })) e
    ∙ rest_moved t (s ++ r) q.next q.rows (omega arith) q.state
    ∙ ap (λ (z : List ℕ). behind q (judge_rows t z (length z) (start q.state))) (drop-append-le q.next s r w)
    ∙ rw (eq-eqb q.number 0 e) refl

-- THE THEOREM
module _ (t : Table) (s r : List ℕ) (bytes : (k : ℕ) → get_or s k 0 < 2 ^ 8) (end : ℕ) (h : end + 769 ≤ length s) (st : State) where
  abbrev journal : List ℕ
  journal = s ++ r

  abbrev p : Progress
  p = judge_rows t s end (start st)

  -- the piece alone judges its rows
  piece_first : judge_rows t journal (length journal) (start st) ≡ judge_rows t journal (length journal) p
  piece_first =
      let l = length-append s r in
      rows_split t journal end (length journal) (omega arith) (start st)
      ∙ ap (judge_rows t journal (length journal)) (sym (rows_alike t s journal end (λ q b. row_alike t s r bytes q (omega arith)) (start st)))

  inside : p.next ≤ length s
  unfolding start
  inside = rows_within t s end (start st) (omega arith)

  pub goes_piecewise : judge_rows t journal (length journal) (start st) ≡ go_on t s r p
  unfolding go_on
  goes_piecewise = elim (ℕ_discrete p.number 0) [
    | no d ↦ piece_first ∙ rows_over t journal (length journal) p (over_refused (length journal) p d) ∙ rw (ne_eqb p.number 0 d) refl
    | yes e ↦ piece_first ∙ then_rest t s r p e inside
  ]

pub in_pieces : InPieces
in_pieces t s r bytes end h st = goes_piecewise t s r bytes end h st
