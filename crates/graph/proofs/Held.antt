-- The code's rounds for what is not done: after k of them, the set holds those of the first v that are not done within k edges.
use mathlib.Core.Path.{◌≡◌, refl, sym, ap, ◌∙◌}
use mathlib.Core.Bool.{Bool, true, false, ◌&&◌, ◌||◌, not, not-not}
use Prim.Native.Nat.{ℕ, zero, suc, ◌+◌, ◌-◌, ◌^◌, ◌≤◌, ◌<◌}
use native.Mathlib.Omega.{arith}
use native.Mathlib.Decide.{dec_lt}
use lib.Dec.{ltb, eqb}
use lib.Bits.{bit_and, bit_or}
use borrow.Author.Tests.{lt-ltb, le-ltb, ltb-true, eq-eqb, eqb-true}
use Rattle.graph.specs.Words.{flag, bit, all, members, set_of}
use Rattle.graph.specs.Graph.{led_to, done_within, done, held_back}
use Rattle.graph.proofs.Facts.{clash, both_true, and_true, all_at, all_not, all_same, off_when}
use Rattle.graph.proofs.Lists.{any_some, some_any}
use Rattle.graph.proofs.Bits.{bit_or_lem, bit_and_lem, bit_zero, bit_past}
use Rattle.graph.proofs.Members.{held_in, in_held, bit_without}
use Rattle.graph.proofs.Sets.{bit_set}
use Rattle.graph.proofs.Done.{done_same, by_rule, rule_says, rule_same, one_back, within_zero, so_if}

same_when : (a b : Bool) → (a ≡ true → b ≡ true) → (b ≡ true → a ≡ true) → a ≡ b
same_when true b h k = sym (h refl)
same_when false true h k = k refl
same_when false false h k = refl

module _ (E : ℕ → ℕ → Bool) where
  led_some : (s w : ℕ) → led_to E (members s) w ≡ true → (u : ℕ) × (u < 16) × (bit s u ≡ true) × (E u w ≡ true)
  unfolding led_to
  led_some s w h =
      let r = any_some (members s) (λ u. E u w) h in
      let i = in_held s r.0 r.1 in
      (r.0, i.0, i.1, r.2)

  some_led : (s w u : ℕ) → s < 2 ^ 16 → bit s u ≡ true → E u w ≡ true → led_to E (members s) w ≡ true
  unfolding led_to
  some_led s w u b h e = some_any (members s) (λ u. E u w) u (held_in s u b h) e

  -- what two sets lead to
  pub led_both : (s a : ℕ) → s < 2 ^ 16 → a < 2 ^ 16 → bit_or s a < 2 ^ 16 → (w : ℕ)
      → (led_to E (members s) w || led_to E (members a) w) ≡ led_to E (members (bit_or s a)) w
  led_both s a hs ha hb w = same_when _ _ to back
    where
      either : (x y : Bool) → x || y ≡ true → {P : Type 0} → (x ≡ true → P) → (y ≡ true → P) → P
      either true y h f g = f refl
      either false y h f g = g h

      on_left : (x y : Bool) → x ≡ true → x || y ≡ true
      on_left x y e = rw e refl

      on_right : (x y : Bool) → y ≡ true → x || y ≡ true
      on_right true y e = refl
      on_right false y e = e

      to : (led_to E (members s) w || led_to E (members a) w) ≡ true → led_to E (members (bit_or s a)) w ≡ true
      to h = either (led_to E (members s) w) (led_to E (members a) w) h
          (λ l. let r = led_some s w l in some_led (bit_or s a) w r.0 hb (bit_or_lem s a r.0 ∙ on_left _ _ r.2) r.3)
          (λ l. let r = led_some a w l in some_led (bit_or s a) w r.0 hb (bit_or_lem s a r.0 ∙ on_right (bit s r.0) _ r.2) r.3)

      back : led_to E (members (bit_or s a)) w ≡ true → (led_to E (members s) w || led_to E (members a) w) ≡ true
      back h =
          let r = led_some (bit_or s a) w h in
          either (bit s r.0) (bit a r.0) (sym (bit_or_lem s a r.0) ∙ r.2)
          (λ l. on_left _ _ (some_led s w r.0 hs l r.3))
          (λ l. on_right (led_to E (members s) w) _ (some_led a w r.0 ha l r.3))

  -- a set of those of the first v that fail a test leads to what it does not let go on
  pub led_is : (v s : ℕ) (d : ℕ → Bool) → v ≤ 16 → s < 2 ^ 16 → ((u : ℕ) → bit s u ≡ (ltb u v && not (d u))) → (w : ℕ)
      → led_to E (members s) w ≡ not (all v (λ u. not (E u w) || d u))
  led_is v s d h b is w = same_when _ _ to back
    where
      no_is : (x : Bool) → not x ≡ true → x ≡ false
      no_is true e = absurd (clash e refl)
      no_is false e = refl

      to : led_to E (members s) w ≡ true → not (all v (λ u. not (E u w) || d u)) ≡ true
      to l =
          let r = led_some s w l in
          let q = both_true (ltb r.0 v) (not (d r.0)) (sym (is r.0) ∙ r.2) in
          ap not (off_when (all v (λ u. not (E u w) || d u)) (λ a. clash (so_if (E r.0 w) (d r.0) (all_at v (λ u. not (E u w) || d u) a r.0 (ltb-true r.0 v q.0)) r.3) (no_is _ q.1)))

      fails : (x y : Bool) → not x || y ≡ false → (x ≡ true) × (y ≡ false)
      fails true y e = (refl, e)
      fails false y e = absurd (clash refl e)

      back : not (all v (λ u. not (E u w) || d u)) ≡ true → led_to E (members s) w ≡ true
      back l =
          let r = all_not v (λ u. not (E u w) || d u) (no_is _ l) in
          let q = fails (E r.0 w) (d r.0) r.2 in
          some_led s w r.0 b (is r.0 ∙ and_true _ _ (lt-ltb r.0 v r.1) (ap not q.1)) q.0

module _ (v : ℕ) (E : ℕ → ℕ → Bool) (rest : ℕ → ℕ) where
  -- one that is done so far back is done less far back
  fewer : (k u : ℕ) → done_within (suc k) v E rest u ≡ true → done_within k v E rest u ≡ true
  unfolding done_within
  fewer zero u h = (both_true (eqb (rest u) 0) (all v (λ w. not (E w u) || eqb (rest w) 0)) h).0
  fewer (suc k) u h =
      let r = rule_says v E rest (done_within (suc k) v E rest) u h in
      by_rule v E rest (done_within k v E rest) u r.0 (λ w b e. fewer k w (r.1 w b e))

  -- a round that adds nothing: nor does any later one
  stays : (k : ℕ) → ((u : ℕ) → u < v → done_within (suc k) v E rest u ≡ done_within k v E rest u)
      → (j u : ℕ) → u < v → done_within (j + k) v E rest u ≡ done_within k v E rest u
  stays k same zero u b = ap (λ (n : ℕ). done_within n v E rest u) (let z : 0 + k ≡ k = omega arith in z)
  stays k same (suc j) u b =
      let e : suc j + k ≡ suc (j + k) = omega arith in
      ap (λ (n : ℕ). done_within n v E rest u) e
      ∙ one_back v E rest (j + k) u
      ∙ rule_same v E rest (done_within (j + k) v E rest) (done_within k v E rest) u (λ w c x. stays k same j w c)
      ∙ sym (one_back v E rest k u)
      ∙ same u b

  -- AFTER k ROUNDS: `seen` are those that are not done within k edges, and `led` those to which they lead
  pub record Rounds (k seen led : ℕ) : Type 0 where
    pub round : k ≤ 16
    pub small : seen < 2 ^ 16
    pub small_led : led < 2 ^ 16
    pub own : (u : ℕ) → bit seen u ≡ (ltb u v && not (done_within k v E rest u))
    pub leads : (w : ℕ) → bit led w ≡ led_to E (members seen) w

  -- the test at one vertex, one edge further back
  module _ (d free z : Bool) (zero : d ≡ true → z ≡ true) (less : z && free ≡ true → d ≡ true) where
    grown : (not d || ((not free && true) && not (not d))) ≡ not (z && free)
    grown = go d free z zero less
      where
        go : (d free z : Bool) → (d ≡ true → z ≡ true) → (z && free ≡ true → d ≡ true) → (not d || ((not free && true) && not (not d))) ≡ not (z && free)
        go true true true h k = refl
        go true false true h k = refl
        go true free false h k = absurd (clash (h refl) refl)
        go false true true h k = absurd (clash (k refl) refl)
        go false false true h k = refl
        go false free false h k = refl

    still : (not free && true) && not (not d) ≡ false → (z && free) ≡ d
    still = go d free z zero less
      where
        go : (d free z : Bool) → (d ≡ true → z ≡ true) → (z && free ≡ true → d ≡ true) → (not free && true) && not (not d) ≡ false → (z && free) ≡ d
        go true true true h k e = refl
        go true false true h k e = absurd (clash refl e)
        go true free false h k e = absurd (clash (h refl) refl)
        go false true true h k e = absurd (clash (k refl) refl)
        go false false true h k e = refl
        go false free false h k e = refl

  module _ (v16 : v ≤ 16) (used : ℕ) (first : (u : ℕ) → bit used u ≡ ltb u v) where
    -- something remains of those in a set
    pub rounds_first : (unfinished led : ℕ) → ((u : ℕ) → u < v → eqb (rest u) 0 ≡ not (bit unfinished u)) → bit_and unfinished used < 2 ^ 16 → led < 2 ^ 16
        → ((w : ℕ) → bit led w ≡ led_to E (members (bit_and unfinished used)) w) → Rounds 0 (bit_and unfinished used) led
    unfolding done_within
    rounds_first unfinished led is b c h = record {
      round = omega arith;
      small = b;
      small_led = c;
      own = λ u. bit_and_lem unfinished used u ∙ ap (λ (x : Bool). bit unfinished u && x) (first u) ∙ turn u (dec_lt u v);
      leads = h;
    }
      where
        swap : (a : Bool) → (a && true) ≡ not (not a)
        swap true = refl
        swap false = refl

        none : (a : Bool) → (a && false) ≡ false
        none true = refl
        none false = refl

        turn : (u : ℕ) → Dec (u < v) → (bit unfinished u && ltb u v) ≡ (ltb u v && not (eqb (rest u) 0))
        turn u (yes l) = rw (lt-ltb u v l, is u l) (swap (bit unfinished u))
        turn u (no l) = rw (le-ltb u v (omega arith)) (none (bit unfinished u))

    module _ (k seen led : ℕ) (r : Rounds k seen led) where
      free : ℕ → Bool
      free u = all v (λ w. not (E w u) || done_within k v E rest w)

      led_by : (w : ℕ) → bit led w ≡ not (free w)
      unfolding free
      led_by w = r.leads w ∙ led_is E v seen (done_within k v E rest) v16 r.small r.own w

      next_is : (u : ℕ) → done_within (suc k) v E rest u ≡ (eqb (rest u) 0 && free u)
      unfolding free
      next_is u = one_back v E rest k u

      zero_when : (u : ℕ) → done_within k v E rest u ≡ true → eqb (rest u) 0 ≡ true
      zero_when u h = let z = within_zero v E rest k u h in rw z refl

      done_when : (u : ℕ) → eqb (rest u) 0 && free u ≡ true → done_within k v E rest u ≡ true
      done_when u h = fewer k u (next_is u ∙ h)

      abbrev added : ℕ
      added = bit_and (bit_and led used) (65535 - seen)

      bit_added : (u : ℕ) → u < 16 → bit added u ≡ ((bit led u && bit used u) && not (bit seen u))
      bit_added u h = bit_without (bit_and led used) seen r.small u h ∙ ap (λ (b : Bool). b && not (bit seen u)) (bit_and_lem led used u)

      -- of one of the first v
      here_added : (u : ℕ) → u < v → bit added u ≡ ((not (free u) && true) && not (not (done_within k v E rest u)))
      here_added u l = bit_added u (omega arith) ∙ rw (led_by u, first u, r.own u, lt-ltb u v l) refl

      pub nothing_added : added ≡ 0 → (u : ℕ) → u < v → done_within (suc k) v E rest u ≡ done_within k v E rest u
      nothing_added e u l =
          next_is u
          ∙ still (done_within k v E rest u) (free u) (eqb (rest u) 0) (zero_when u) (done_when u)
          (sym (here_added u l) ∙ ap (λ (n : ℕ). bit n u) e ∙ bit_zero u)

      own_next : (u : ℕ) → bit_or seen added < 2 ^ 16 → Dec (u < v) → Dec (u < 16) → bit (bit_or seen added) u ≡ (ltb u v && not (done_within (suc k) v E rest u))
      own_next u b (yes l) s =
          bit_or_lem seen added u
          ∙ rw (here_added u l, r.own u, lt-ltb u v l, next_is u) (grown (done_within k v E rest u) (free u) (eqb (rest u) 0) (zero_when u) (done_when u))
      own_next u b (no l) (yes s) = bit_or_lem seen added u ∙ rw (bit_added u s, r.own u, first u, le-ltb u v (omega arith)) (none (bit led u))
        where
          none : (a : Bool) → (false || ((a && false) && not false)) ≡ false
          none true = refl
          none false = refl
      own_next u b (no l) (no s) = bit_past (bit_or seen added) 16 u b (omega arith) ∙ sym (ap (λ (c : Bool). c && not (done_within (suc k) v E rest u)) (le-ltb u v (omega arith)))

      pub rounds_next : (more : ℕ) → k < 16 → added < 2 ^ 16 → bit_or seen added < 2 ^ 16 → bit_or led more < 2 ^ 16
          → ((w : ℕ) → bit more w ≡ led_to E (members added) w) → Rounds (suc k) (bit_or seen added) (bit_or led more)
      rounds_next more h ha hs hl is = record {
        round = h;
        small = hs;
        small_led = hl;
        own = λ u. own_next u hs (dec_lt u v) (dec_lt u 16);
        leads = λ w.
            bit_or_lem led more w
            ∙ ap (λ (b : Bool). b || bit more w) (r.leads w)
            ∙ ap (λ (b : Bool). led_to E (members seen) w || b) (is w)
            ∙ led_both E seen added r.small ha hs w;
      }

      -- so it is what is held back, where nothing is added and after sixteen
      pub held_early : added ≡ 0 → (w : ℕ) → bit led w ≡ held_back v E rest w
      unfolding held_back done free
      held_early e w =
          led_by w
          ∙ ap not (all_same v _ _ (λ u b. ap (λ (x : Bool). not (E u w) || x)
          (sym (stays k (nothing_added e) (16 - k) u b) ∙ ap (λ (n : ℕ). done_within n v E rest u) (let h = r.round in let z : 16 - k + k ≡ 16 = omega arith in z))))

      pub held_last : k ≡ 16 → (w : ℕ) → bit led w ≡ held_back v E rest w
      unfolding held_back done free
      held_last e w = led_by w ∙ ap (λ (n : ℕ). not (all v (λ u. not (E u w) || done_within n v E rest u))) e

-- a flag says whether
pub flag_says : (b : Bool) → eqb (flag b) 0 ≡ not b
unfolding flag
flag_says true = refl
flag_says false = refl

-- the set of those of which something remains tells as much as what remains
pub held_by_set : (v : ℕ) (E : ℕ → ℕ → Bool) (rest : ℕ → ℕ) (set : ℕ) → v ≤ 16 → set ≡ set_of 16 (λ u. not (eqb (rest u) 0))
    → (u : ℕ) → held_back v E (λ x. flag (bit set x)) u ≡ held_back v E rest u
unfolding held_back
held_by_set v E rest set h is u =
    ap not (all_same v _ _ (λ w b. ap (λ (x : Bool). not (E w u) || x) (done_same v E (λ x. flag (bit set x)) rest to back w b)))
  where
    its : (x : ℕ) → x < v → eqb (flag (bit set x)) 0 ≡ eqb (rest x) 0
    its x b =
        flag_says (bit set x)
        ∙ ap not (ap (λ (n : ℕ). bit n x) is ∙ bit_set 16 (λ u. not (eqb (rest u) 0)) x (omega arith))
        ∙ not-not (eqb (rest x) 0)

    to : (x : ℕ) → x < v → flag (bit set x) ≡ 0 → rest x ≡ 0
    to x b z = eqb-true (rest x) 0 (sym (its x b) ∙ eq-eqb (flag (bit set x)) 0 z)

    back : (x : ℕ) → x < v → rest x ≡ 0 → flag (bit set x) ≡ 0
    back x b z = eqb-true (flag (bit set x)) 0 (its x b ∙ eq-eqb (rest x) 0 z)
