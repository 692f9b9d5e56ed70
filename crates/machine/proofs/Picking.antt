-- Step 3 in code: taking the vertex that ranks first of those that are left, m times, gives the first m of the ranking. The numbers of a slot's vertices
-- follow each other, and the order of slots with as many ticks left is that of their numbers.
use Rattle.std.proofs.Common.{◌≡◌, ℕ, zero, suc, ◌+◌, ◌*◌, ◌/◌, ◌%◌, ◌<◌, ◌≤◌, Bool, true, false, not, ◌&&◌, eqb, ltb, List, [], ◌∷◌, ◌++◌, length, get_or, take, drop, set, sym, refl, ap, ◌∙◌, subst, inl, inr, ⊎_elim, add-one, arith, length-drop, length-set, drop_of_length-le, take_all, drop-cons, get_or-set_other, take-suc, get_or-set_same, take-suc-set, lt-ltb, eq-eqb, ne_eqb}
use mathlib.Core.Path.{subst⁻¹}
use native.Mathlib.Decide.{ℕ_discrete, dec_lt}
use Rattle.graph.specs.Words.{bit, is_in}
use Rattle.graph.proofs.Facts.{clash, both_true, off_when, row_at, first_in, other_in, tail_in}
use Rattle.graph.proofs.Bits.{bit_zero}
use Rattle.graph.proofs.Sets.{bit_set}
use Rattle.table.specs.declared.Table.{Table}
use Rattle.machine.specs.declared.State.{State}
use Rattle.machine.specs.States.{live, left}
use Rattle.machine.specs.Steps.{task_in, age_in, vertex_in, available, availables, available_sets, left_in, ranked, own_choice, listed}
use Rattle.machine.specs.Rows.{order_of, RanksFirst}
use Rattle.machine.proofs.Index.{name_of}
use Rattle.machine.proofs.Rank.{RanksBefore, by_task, never_both}
use Rattle.machine.proofs.Own.{no_in}
use Rattle.machine.proofs.Ranking.{InRankOrder, the_ranking}
use Rattle.machine.proofs.Leading.{slot_before}
use Rattle.machine.proofs.Among.{HasSome, none_left, some_set}
use Rattle.machine.proofs.Once.{listed_is, small_set}

-- ---- the slot of the vertex with number k, and back
unfoldable pub slot_in : ℕ → ℕ
slot_in k = 16 * (k / 16 % 4) + k / 64

module _ (k : ℕ) (b : k < 1024) where
  pub slot_below : slot_in k < 64
  unfolding slot_in
  slot_below = omega arith

  number_is : 16 * order_of (slot_in k) + k % 16 ≡ k
  unfolding slot_in task_in age_in vertex_in
  number_is =
      let a : (16 * (k / 16 % 4) + k / 64) % 16 ≡ k / 64 = omega arith in
      let c : (16 * (k / 16 % 4) + k / 64) / 16 ≡ k / 16 % 4 = omega arith in
      let n : 64 * (k / 64) + 16 * (k / 16 % 4) + k % 16 ≡ k = name_of k in
      omega arith

module _ (s u : ℕ) (slot : s < 64) (vertex : u < 16) where
  abbrev number_of : ℕ
  number_of = 16 * order_of s + u

  pub number_below : number_of < 1024
  number_below = omega arith

  slot_of : slot_in number_of ≡ s
  unfolding slot_in
  slot_of =
      let a : number_of / 16 % 4 ≡ s / 16 = omega arith in
      let c : number_of / 64 ≡ s % 16 = omega arith in
      omega arith

  vertex_of : number_of % 16 ≡ u
  vertex_of = omega arith

-- sixty-four sets hold the vertex with number k
unfoldable pub in_sets : List ℕ → ℕ → Bool
in_sets sets k = bit (get_or sets (slot_in k) 0) (k % 16)

-- its slot's set then has a member
of_some : (sets : List ℕ) (k : ℕ) → in_sets sets k ≡ true → ltb 0 (get_or sets (slot_in k) 0) ≡ true
unfolding in_sets
of_some sets k h = elim (ℕ_discrete (get_or sets (slot_in k) 0) 0) [
  | yes z ↦ absurd (clash h (ap (λ (x : ℕ). bit x (k % 16)) z ∙ bit_zero (k % 16)))
  | no z ↦ lt-ltb 0 (get_or sets (slot_in k) 0) (omega arith)
]

-- ---- a list in rank order
drop_in : (n x : ℕ) (l : List ℕ) → is_in x (drop n l) ≡ true → is_in x l ≡ true
drop_in zero x l h = h
drop_in (suc n) x [] h = h
drop_in (suc n) x (a ∷ l) h = tail_in x a l (drop_in n x l h)

module _ (st : State) where
  drop_order : (n : ℕ) (l : List ℕ) → InRankOrder st l → InRankOrder st (drop n l)
  unfolding InRankOrder
  drop_order zero l r = r
  drop_order (suc n) [] r = r
  drop_order (suc n) (a ∷ l) r = drop_order n l r.1

  -- what ranks before all others stands first
  head_is : (a b : ℕ) (l : List ℕ) → InRankOrder st (b ∷ l) → is_in a (b ∷ l) ≡ true
      → ((x : ℕ) → is_in x (b ∷ l) ≡ true → (x ≡ a → ⊥) → RanksBefore st a x) → b ≡ a
  unfolding InRankOrder
  head_is a b l r h f = elim (ℕ_discrete b a) [
    | yes e ↦ e
    | no d ↦ absurd (never_both st a b (f b (first_in b l) d) (r.0 a (sym (other_in a b l (λ e. d (sym e))) ∙ h)))
  ]

  -- and not again
  head_once : (a : ℕ) (l : List ℕ) → InRankOrder st (a ∷ l) → is_in a l ≡ false
  unfolding InRankOrder
  head_once a l r = off_when _ (λ h. let k = r.0 a h in never_both st a a k k)

-- ---- picking from the sets
-- a ranking of the vertices that the sets hold, and the ticks left at their slots
pub record Offers (st : State) (ranking ticks sets : List ℕ) : Type 0 where
  pub ascends : InRankOrder st ranking
  pub small : (k : ℕ) → is_in k ranking ≡ true → k < 1024
  pub ticks_are : (k : ℕ) → is_in k ranking ≡ true → get_or ticks (slot_in k) 0 ≡ left_in st k
  pub held : (k : ℕ) → k < 1024 → is_in k ranking ≡ in_sets sets k

module _ (st : State) (ranking : List ℕ) where
  -- `count` of the ranking were picked, and the sets hold the others
  pub record Picked (sets keys : List ℕ) (count : ℕ) : Type 0 where
    pub some : count ≤ length ranking
    pub same : take count keys ≡ take count ranking
    pub others : (k : ℕ) → k < 1024 → is_in k (drop count ranking) ≡ in_sets sets k

  module _ (ticks all : List ℕ) (o : Offers st ranking ticks all) where
    pub none_picked : (keys : List ℕ) → Picked all keys 0
    none_picked keys = record { some = omega arith; same = refl; others = o.held }

    -- when nothing is left, all were picked
    all_picked : (sets keys : List ℕ) (count : ℕ) → Picked sets keys count → ((s : ℕ) → s < 64 → get_or sets s 0 ≡ 0) → count ≡ length ranking
    unfolding in_sets
    all_picked sets keys count p e = go (drop count ranking) refl
      where
        go : (l : List ℕ) → drop count ranking ≡ l → count ≡ length ranking
        go [] q = let n = length-drop count ranking in let m = ap length q in let s = p.some in omega arith
        go (x ∷ l) q =
            let h : is_in x (drop count ranking) ≡ true = ap (is_in x) q ∙ first_in x l in
            let b = o.small x (drop_in count x ranking h) in
            absurd (clash (sym (p.others x b) ∙ h) (ap (λ (n : ℕ). bit n (x % 16)) (e (slot_in x) (slot_below x b)) ∙ bit_zero (x % 16)))

    module _ (sets keys : List ℕ) (among count s u rest : ℕ) (p : Picked sets keys count) (long : length sets ≡ 64) (room : count < length keys)
        (has : HasSome sets among) (first : RanksFirst among ticks s)
        (vertex : u < 16) (here : bit (get_or sets s 0) u ≡ true) (least : (j : ℕ) → j < u → bit (get_or sets s 0) j ≡ false)
        (less : (k : ℕ) → k < 16 → bit rest k ≡ (bit (get_or sets s 0) k && not (eqb k u))) where
      abbrev key : ℕ
      key = 16 * order_of s + u

      below : key < 1024
      below = number_below s u first.slot vertex

      of_slot : slot_in key ≡ s
      of_slot = slot_of s u first.slot vertex

      its_vertex : key % 16 ≡ u
      its_vertex = vertex_of s u first.slot vertex

      in_sets_lem : in_sets sets key ≡ true
      unfolding in_sets
      in_sets_lem = ap (λ (j : ℕ). bit (get_or sets j 0) (key % 16)) of_slot ∙ ap (bit (get_or sets s 0)) its_vertex ∙ here

      in_ranking : (k : ℕ) → k < 1024 → in_sets sets k ≡ true → is_in k ranking ≡ true
      in_ranking k b h = drop_in count k ranking (p.others k b ∙ h)

      -- the ticks left of what the sets hold
      left_at : (k : ℕ) → k < 1024 → in_sets sets k ≡ true → get_or ticks (slot_in k) 0 ≡ left_in st k
      left_at k b h = o.ticks_are k (in_ranking k b h)

      own_left : get_or ticks s 0 ≡ left_in st key
      own_left = ap (λ (j : ℕ). get_or ticks j 0) (sym of_slot) ∙ left_at key below in_sets_lem

      -- THE VERTEX THAT IS PICKED ranks before all others that the sets hold
      is_first : (k : ℕ) → k < 1024 → in_sets sets k ≡ true → (k ≡ key → ⊥) → RanksBefore st key k
      unfolding in_sets
      is_first k b h d = elim (ℕ_discrete (slot_in k) s) [
        | yes e ↦
            let z : get_or ticks (slot_in k) 0 ≡ get_or ticks s 0 = ap (λ (j : ℕ). get_or ticks j 0) e in
            inr (omega (arith, own_left, left_at k b h), by_task key k (its_own k b h d e))
        | no q ↦ ⊎_elim
            (λ l. inl (omega (arith, own_left, left_at k b h)))
            (λ l. inr (omega (arith, own_left, left_at k b h, l.0), by_task key k (omega (arith, l.1, number_is k b))))
            (slot_before ticks s (slot_in k) (first.first (slot_in k) (slot_below k b) (has (slot_in k) (slot_below k b) ∙ of_some sets k h) q))
      ]
        where
          its_own : (k : ℕ) → k < 1024 → in_sets sets k ≡ true → (k ≡ key → ⊥) → slot_in k ≡ s → key < k
          its_own k b h d e =
              let n : 16 * order_of s + k % 16 ≡ k = ap (λ (j : ℕ). 16 * order_of j + k % 16) (sym e) ∙ number_is k b in
              elim (dec_lt (k % 16) u) [
                | yes l ↦ absurd (clash (sym (ap (λ (j : ℕ). bit (get_or sets j 0) (k % 16)) e) ∙ h) (least (k % 16) l))
                | no l ↦ elim (ℕ_discrete (k % 16) u) [ yes q ↦ absurd (d (omega arith)) | no q ↦ omega arith ]
              ]

      -- so it is next in the ranking
      goes_on_lem : count < length ranking
      goes_on_lem = elim (dec_lt count (length ranking)) [
        | yes h ↦ h
        | no h ↦ absurd (no_in key (sym (ap (is_in key) (drop_of_length-le ranking {i = count} (omega arith))) ∙ p.others key below ∙ in_sets_lem))
      ]

      abbrev later : List ℕ
      later = drop (suc count) ranking

      parts : drop count ranking ≡ get_or ranking count 0 ∷ later
      parts = drop-cons ranking count 0 goes_on_lem

      in_order : InRankOrder st (get_or ranking count 0 ∷ later)
      in_order = subst (InRankOrder st) parts (drop_order st count ranking o.ascends)

      next_is : get_or ranking count 0 ≡ key
      next_is = head_is st key (get_or ranking count 0) later in_order
          (sym (ap (is_in key) parts) ∙ p.others key below ∙ in_sets_lem)
          (λ x h d.
          let i : is_in x (drop count ranking) ≡ true = ap (is_in x) parts ∙ h in
          let b = o.small x (drop_in count x ranking i) in
          is_first x b (sym (p.others x b) ∙ i) d)

      -- and the sets without it hold the others
      others_are : (k : ℕ) → k < 1024 → is_in k later ≡ in_sets (set sets s rest) k
      unfolding in_sets
      others_are k b = elim (ℕ_discrete k key) [
        | yes e ↦
            ap (λ (x : ℕ). is_in x later) (e ∙ sym next_is)
            ∙ head_once st (get_or ranking count 0) later in_order
            ∙ sym (ap (in_sets (set sets s rest)) e ∙ set_at key of_slot ∙ less (key % 16) (omega arith) ∙ taken)
        | no d ↦
            sym (other_in k (get_or ranking count 0) later (λ e. d (e ∙ next_is)))
            ∙ sym (ap (is_in k) parts)
            ∙ p.others k b
            ∙ sym (elim (ℕ_discrete (slot_in k) s) [
              | yes q ↦ set_at k q ∙ less (k % 16) (omega arith) ∙ kept k q (λ e. d (sym (number_is k b) ∙ ap (λ (j : ℕ). 16 * order_of j + k % 16) q ∙ ap (λ (j : ℕ). 16 * order_of s + j) e))
              | no q ↦ ap (λ (n : ℕ). bit n (k % 16)) (get_or-set_other sets s (slot_in k) rest 0 q)
            ])
      ]
        where
          set_at : (k : ℕ) → slot_in k ≡ s → in_sets (set sets s rest) k ≡ bit rest (k % 16)
          set_at k q =
              ap (λ (j : ℕ). bit (get_or (set sets s rest) j 0) (k % 16)) q
              ∙ ap (λ (n : ℕ). bit n (k % 16)) (get_or-set_same sets s rest 0 (omega (arith, first.slot)))

          and_no : (b : Bool) → (b && not true) ≡ false
          and_no true = refl
          and_no false = refl

          and_yes : (b : Bool) → (b && not false) ≡ b
          and_yes true = refl
          and_yes false = refl

          taken : (bit (get_or sets s 0) (key % 16) && not (eqb (key % 16) u)) ≡ false
          taken = ap (λ (c : Bool). bit (get_or sets s 0) (key % 16) && not c) (eq-eqb (key % 16) u its_vertex) ∙ and_no (bit (get_or sets s 0) (key % 16))

          kept : (k : ℕ) → slot_in k ≡ s → (k % 16 ≡ u → ⊥) → (bit (get_or sets s 0) (k % 16) && not (eqb (k % 16) u)) ≡ in_sets sets k
          kept k q d =
              ap (λ (c : Bool). bit (get_or sets s 0) (k % 16) && not c) (ne_eqb (k % 16) u d)
              ∙ and_yes (bit (get_or sets s 0) (k % 16))
              ∙ sym (ap (λ (j : ℕ). bit (get_or sets j 0) (k % 16)) q)

      -- ONE MORE is picked
      pub one_picked : Picked (set sets s rest) (set keys count key) (count + 1)
      one_picked = record {
        some = omega (arith, goes_on_lem);
        same = ap (λ (n : ℕ). take n (set keys count key)) (add-one count)
            ∙ take-suc-set keys count key room
            ∙ ap (λ (l : List ℕ). l ++ (key ∷ [])) p.same
            ∙ ap (λ (x : ℕ). take count ranking ++ (x ∷ [])) (sym next_is)
            ∙ sym (take-suc ranking count 0 goes_on_lem)
            ∙ ap (λ (n : ℕ). take n ranking) (sym (add-one count));
        others = λ k b. ap (λ (n : ℕ). is_in k (drop n ranking)) (add-one count) ∙ others_are k b;
      }

-- ---- THE LOOP: whatever state has those ticks left, and whatever ranking of it the sets held, `count` of it were picked
pub record Chooses (ticks all sets keys : List ℕ) (among count : ℕ) : Type 0 where
  pub long : length sets ≡ 64
  pub room : length keys ≡ 8
  pub has : HasSome sets among
  pub small : (j : ℕ) → j < count → get_or keys j 0 < 1024
  pub picked : (st : State) (ranking : List ℕ) → Offers st ranking ticks all → Picked st ranking sets keys count

pub chooses_none : (ticks all keys : List ℕ) (among : ℕ) → length all ≡ 64 → length keys ≡ 8 → HasSome all among → Chooses ticks all all keys among 0
chooses_none ticks all keys among n r h =
    record { long = n; room = r; has = h; small = λ j b. absurd (omega arith); picked = λ st ranking o. none_picked st ranking ticks all o keys }

module _ (ticks all sets keys : List ℕ) (among count s u rest x next : ℕ) (c : Chooses ticks all sets keys among count) (room : count < 8)
    (first : RanksFirst among ticks s)
    (vertex : (u < 16) × (bit (get_or sets s 0) u ≡ true) × ((j : ℕ) → j < u → bit (get_or sets s 0) j ≡ false))
    (less : (k : ℕ) → k < 16 → bit rest k ≡ (bit (get_or sets s 0) k && not (eqb k u)))
    (key_is : x ≡ 16 * order_of s + u)
    (fewer : (k : ℕ) → k < 64 → bit next k ≡ (bit among k && not (eqb k s && eqb (get_or (set sets s rest) s 0) 0))) where
  in_room : s < length sets
  in_room = omega (arith, first.slot, c.long)

  low : x < 1024
  low = omega (arith, number_below s u first.slot vertex.0)

  now_has : HasSome (set sets s rest) next
  now_has = some_set sets among next s rest c.has first.member in_room
      (λ k b. fewer k b ∙ ap (λ (n : ℕ). bit among k && not (eqb k s && eqb n 0)) (get_or-set_same sets s rest 0 in_room))

  -- once more
  pub chooses_one : Chooses ticks all (set sets s rest) (set keys count x) next (count + 1)
  chooses_one = record {
    long = length-set sets s rest ∙ c.long;
    room = length-set keys count x ∙ c.room;
    has = now_has;
    small = small_set count keys x (omega (arith, c.room)) low c.small;
    picked = λ st ranking o. subst⁻¹ (λ (y : ℕ). Picked st ranking (set sets s rest) (set keys count y) (count + 1)) key_is
        (one_picked st ranking ticks all o sets keys among count s u rest (c.picked st ranking o) c.long (omega (arith, c.room)) c.has first
        vertex.0 vertex.1 vertex.2 less);
  }

module _ (t : Table) (st : State) where
  abbrev ranking : List ℕ
  ranking = ranked st (availables t st)

  -- the sets of the available vertices hold them
  in_available : (k : ℕ) → k < 1024 → in_sets (available_sets t st) k ≡ available t st k
  unfolding in_sets available_sets
  in_available k b =
      ap (λ (n : ℕ). bit n (k % 16)) (row_at 64 _ (slot_in k) 0 (slot_below k b))
      ∙ bit_set 16 (λ u. available t st (64 * (slot_in k % 16) + 16 * (slot_in k / 16) + u)) (k % 16) (omega arith)
      ∙ (let e : 64 * (slot_in k % 16) + 16 * (slot_in k / 16) + k % 16 ≡ k = omega (arith, number_is k b) in ap (available t st) e)

  -- what is available is live
  available_live : (k : ℕ) → available t st k ≡ true → live st (task_in k) (age_in k) ≡ true
  unfolding available
  available_live k h = (both_true (live st (task_in k) (age_in k)) _ (both_true _ _ h).0).0

  module _ (ticks all : List ℕ) (e : all ≡ available_sets t st)
      (l : (i p : ℕ) → i < 16 → p < 4 → live st i p ≡ true → get_or ticks (16 * p + i) 0 ≡ left st i p) where
    offers : Offers st ranking ticks all
    unfolding slot_in left_in task_in age_in
    offers = record {
      ascends = (the_ranking t st).ascends;
      small = λ k h. ((the_ranking t st).only k h).0;
      ticks_are = λ k h.
          let r = (the_ranking t st).only k h in
          l (k / 64) (k / 16 % 4) (omega (arith, r.0)) (omega arith) (available_live k r.1);
      held = λ k b. go k b (available t st k) refl ∙ sym (ap (λ (x : List ℕ). in_sets x k) e ∙ in_available k b);
    }
      where
        go : (k : ℕ) → k < 1024 → (c : Bool) → available t st k ≡ c → is_in k ranking ≡ c
        go k b true h = (the_ranking t st).all k b h
        go k b false h = off_when _ (λ i. clash ((the_ranking t st).only k i).1 h)

    module _ (sets keys : List ℕ) (among count : ℕ) (c : Chooses ticks all sets keys among count) (few : count ≤ 8) where
      so_many : take count ranking ≡ take t.m ranking → listed (record { keys = keys; count = count }) ≡ own_choice t st
      unfolding own_choice
      so_many q = listed_is count keys c.room few c.small ∙ (c.picked st ranking offers).same ∙ q

      -- m were picked
      pub m_chosen : count ≡ t.m → listed (record { keys = keys; count = count }) ≡ own_choice t st
      m_chosen q = so_many (ap (λ (x : ℕ). take x ranking) q)

      -- or nothing was left
      pub all_chosen : count ≤ t.m → among ≡ 0 → listed (record { keys = keys; count = count }) ≡ own_choice t st
      all_chosen b z =
          let q : count ≡ length ranking = all_picked st ranking ticks all offers sets keys count (c.picked st ranking offers) (none_left sets among c.has z) in
          so_many (take_all count ranking (omega arith) ∙ sym (take_all t.m ranking (omega arith)))
