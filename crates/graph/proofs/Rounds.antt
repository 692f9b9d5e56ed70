-- The rounds of the longest chain: what holds between them, that a round keeps it, and what it gives at the end.
use mathlib.Core.Path.{◌≡◌, refl, sym, ap, subst, ◌∙◌}
use mathlib.Core.Logic.{◌⊎◌, inl, inr, ⊎_elim}
use mathlib.Core.Bool.{Bool, true, false, not, ◌&&◌}
use mathlib.Core.List.{List}
use Prim.Native.Nat.{ℕ, zero, suc, ◌+◌, ◌-◌, ◌*◌, ◌^◌, ◌≤◌, ◌<◌}
use native.Mathlib.Omega.{arith}
use native.Mathlib.Nat.{zero-add}
use lib.ListN.{length, get_or, replicate}
use lib.Bits.{bit_and, and_le_l}
use borrow.Author.Tests.{eq-eqb, ne_eqb}
use Rattle.graph.specs.Words.{bit, members, is_in}
use Rattle.graph.specs.Graph.{edge, led_to, acyclic, longest_of}
use Rattle.graph.specs.Order.{passed_all, best_all}
use Rattle.graph.proofs.Facts.{clash, both_true, off_when, length_row, row_in}
use Rattle.graph.proofs.Lists.{some_any}
use Rattle.graph.proofs.Bits.{bit_zero, bit_and_lem}
use Rattle.graph.proofs.Members.{members_and, members_full, full_and, those_split, held_in, in_held, in_members, bit_without, members_without}
use Rattle.graph.proofs.Settle.{comes_to_none, all_in_lem, round_on, round_end}
use Rattle.graph.proofs.Rank.{led_below}
use Rattle.graph.proofs.Order.{Room, passed_all_room}
use Rattle.graph.proofs.Going.{here, Going, fewer_out, all_out, best_is}

pub record Round (succ times : List ℕ) (left : ℕ) (starts : List ℕ) (best : ℕ) : Type 0 where
  pub bits : left < 2 ^ 16
  pub test : comes_to_none succ left ≡ acyclic succ
  -- what a vertex that is in leads to is in
  pub closed : (u w : ℕ) → bit left u ≡ true → edge succ u w ≡ true → bit left w ≡ true
  pub room : Room starts (length (members left)) 68719476736
  pub going : Going succ times (λ x. bit left x ≡ false) starts best

zeros_at : (n w : ℕ) → ◌≡◌ {A = ℕ} (get_or (replicate n 0) w 0) 0
zeros_at zero w = refl
zeros_at (suc n) zero = refl
zeros_at (suc n) (suc w) = zeros_at n w

full : (k : ℕ) → k < 16 → bit 65535 k ≡ true
full k h = sym (in_members 65535 k h) ∙ ap (is_in k) members_full ∙ row_in 16 k h

module _ (succ times : List ℕ) where
  -- before the first round
  pub round_first : ((u : ℕ) → get_or succ u 0 < 2 ^ 16) → Round succ times 65535 (replicate 16 0) 0
  round_first small = record {
    bits = omega arith;
    test = all_in_lem succ;
    closed = λ u w h e. full w (led_below succ small u w e);
    room = λ w h. omega (arith, zeros_at 16 w, ap length members_full, length_row 16 (λ (i : ℕ). i));
    going = record {
      size = refl;
      reached = λ u h. rw (zeros_at 16 u, zero-add) (here h);
      handed = λ u w a b o e. absurd (clash (full u a) o);
      covers = λ u a o. absurd (clash (full u a) o);
      met = inl refl;
    };
  }

  module _ (left : ℕ) (starts : List ℕ) (best : ℕ) (r : Round succ times left starts best) (led : ℕ) (small : led < 2 ^ 16)
      (h : (w : ℕ) → bit led w ≡ led_to (edge succ) (members left) w) where
    led_to_lem : (u w : ℕ) → bit left u ≡ true → edge succ u w ≡ true → bit led w ≡ true
    unfolding led_to
    led_to_lem u w i e = h w ∙ some_any (members left) (λ x. edge succ x w) u (held_in left u r.bits i) e

    free : ℕ
    free = bit_and left (65535 - led)

    in_free : (u : ℕ) → is_in u (members free) ≡ true → (u < 16) × (bit left u ≡ true) × (bit led u ≡ false)
    unfolding free
    in_free u i =
        let b = in_held (bit_and left (65535 - led)) u i in
        let q = both_true (bit left u) (not (bit led u)) (sym (bit_without left led small u b.0) ∙ b.1) in
        (b.0, q.0, off_when _ (λ e. clash q.1 (ap not e)))

    out_now : (x : ℕ) → x < 16 → bit (bit_and left led) x ≡ false → (bit left x ≡ false) ⊎ (is_in x (members free) ≡ true)
    unfolding free
    out_now x b o = go (bit left x) (bit led x) refl refl (sym (bit_and_lem left led x) ∙ o)
      where
        go : (c d : Bool) → bit left x ≡ c → bit led x ≡ d → (c && d) ≡ false → (bit left x ≡ false) ⊎ (is_in x (members (bit_and left (65535 - led))) ≡ true)
        go false d p q z = inl p
        go true true p q z = absurd (clash refl z)
        go true false p q z = inr (in_members _ x b ∙ bit_without left led small x b ∙ rw (p, q) refl)

    fewer : length (members left) ≡ length (members free) + length (members (bit_and left led))
    unfolding free
    fewer = omega (arith, those_split (bit led) (members left), ap length (members_and left led), ap length (members_without left led small))

    -- what the code asks of a round before it takes vertices out
    pub room_for : (w : ℕ) → w < 16 → get_or starts w 0 + 4294967296 * length (members (bit_and left (65535 - led))) ≤ 68719476736
    unfolding free
    room_for w b = omega (arith, r.room w b, fewer)

    pub round_next : ((u : ℕ) → get_or times u 0 < 4294967296) → (later : List ℕ) (most : ℕ)
        → later ≡ passed_all succ times starts (members (bit_and left (65535 - led)))
        → most ≡ best_all succ times starts best (members (bit_and left (65535 - led))) → Round succ times (bit_and left led) later most
    unfolding free
    round_next brief later most e q = rw (e, q) (record {
      bits = omega (arith, and_le_l left led, r.bits);
      test = round_on succ left led h ∙ r.test;
      closed = λ u w i d.
          let q = (both_true (bit left u) (bit led u) (sym (bit_and_lem left led u) ∙ i)).0 in
          bit_and_lem left led w ∙ rw (r.closed u w q d, led_to_lem u w q d) refl;
      room = passed_all_room succ times brief starts r.going.size (members free) (λ u i. (in_free u i).0) (length (members (bit_and left led)))
          68719476736 (λ w b. omega (arith, r.room w b, fewer));
      going = fewer_out succ times (passed_all succ times starts (members free)) (best_all succ times starts best (members free)) out_now
          (all_out succ times (λ x. bit left x ≡ false) starts best r.going (members free) (λ u i. (in_free u i).0) later_in);
    })
      where
        later_in : (u x : ℕ) → is_in u (members free) ≡ true → edge succ u x ≡ true → ((bit left x ≡ false) ⊎ (is_in x (members free) ≡ true)) → ⊥
        later_in u x i d o =
            let q = (in_free u i).1 in
            ⊎_elim (λ p. clash (r.closed u x q d) p) (λ p. clash (led_to_lem u x q d) (in_free x p).2) o

    -- a round that changes nothing: with vertices left there is a cycle
    pub round_cycle : bit_and left led ≡ left → (left ≡ 0 → ⊥) → 0 ≡ longest_of succ times
    unfolding longest_of
    round_cycle e d =
        let a : acyclic succ ≡ false = sym r.test ∙ round_end succ left led h r.bits e ∙ ne_eqb left 0 d in
        rw a refl

    -- and with none left the largest end is the longest chain
    pub round_done : bit_and left led ≡ left → left ≡ 0 → best ≡ longest_of succ times
    unfolding longest_of
    round_done e z =
        let a : acyclic succ ≡ true = sym r.test ∙ round_end succ left led h r.bits e ∙ eq-eqb left 0 z in
        best_is succ times starts best (fewer_out succ times starts best (λ x b o. ap (λ (n : ℕ). bit n x) z ∙ bit_zero x) r.going) a ∙ rw a refl

  -- the first round takes all but what the sixteen lead to
  module _ (bits : (u : ℕ) → get_or succ u 0 < 2 ^ 16) (led : ℕ) (small : led < 2 ^ 16) (h : (w : ℕ) → bit led w ≡ led_to (edge succ) (members 65535) w) where
    all_but : bit_and 65535 (65535 - led) ≡ 65535 - led
    all_but = full_and (65535 - led) (omega arith)

    pub room_before : (w : ℕ) → w < 16 → get_or (replicate 16 0) w 0 + 4294967296 * length (members (65535 - led)) ≤ 68719476736
    room_before w b = rw all_but at (room_for 65535 (replicate 16 0) 0 (round_first bits) led small h w b)

    pub round_second : ((u : ℕ) → get_or times u 0 < 4294967296) → (later : List ℕ) (most : ℕ)
        → later ≡ passed_all succ times (replicate 16 0) (members (65535 - led))
        → most ≡ best_all succ times (replicate 16 0) 0 (members (65535 - led)) → Round succ times led later most
    round_second brief later most e q =
        subst (λ (x : ℕ). Round succ times x later most) (full_and led small)
        (round_next 65535 (replicate 16 0) 0 (round_first bits) led small h brief later most
        (rw all_but e) (rw all_but q))
