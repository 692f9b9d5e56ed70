-- In a tick that is admitted the rows after step 4 are tidy, whatever runs: a state that fits has its jobs at its first places and nothing at the others; a
-- new job stands at the first place that is free, of which there is one (proofs/Fifth.antt); and running takes nothing from where nothing remains.
use Rattle.std.proofs.Common.{◌≡◌, ℕ, ◌+◌, ◌-◌, ◌*◌, ◌/◌, ◌%◌, ◌<◌, ◌≤◌, Bool, true, false, ltb, List, get_or, sym, refl, ap, ◌∙◌, arith, le-ltb, lt-ltb, le-leb}
use native.Mathlib.Decide.{dec_lt}
use Rattle.graph.specs.Words.{pick, bit, sum, is_in}
use Rattle.graph.proofs.Facts.{clash, and_true}
use Rattle.table.specs.declared.Table.{Table}
use Rattle.table.specs.Memory.{cost}
use Rattle.table.specs.Good.{GoodTable}
use Rattle.machine.specs.declared.State.{State}
use Rattle.machine.specs.States.{live, wait, jobs_of, remaining, work_of}
use Rattle.machine.specs.Steps.{is_new, released, worked}
use Rattle.machine.specs.Rows.{used_by, Tidy}
use Rattle.machine.proofs.Places.{count_first}
use Rattle.machine.proofs.Clauses.{jobs_four, ZeroPlace, UsedFits, used_task, unused_task}
use Rattle.machine.proofs.Fifth.{fifth_place}
use Rattle.machine.proofs.Index.{is_new_lem, not_new, released_live, released_remaining, released_work, worked_remaining, worked_work}
use Rattle.machine.proofs.Standing.{nothing_is}
use Rattle.machine.proofs.Cases.{beyond, too_soon, Admitted}
use Rattle.machine.proofs.Apart.{slot_of}

module _ (choose : Table → State → List ℕ) (t : Table) (good : GoodTable t) (st : State) (named : ℕ) (ok : Admitted choose t st named) where
  -- the state within the tick, its releases made
  abbrev mid : State
  mid = released t st named

  -- ---- a named task is one of the table's, and has a place free
  named_below : (i : ℕ) → i < 16 → bit named i ≡ true → i < t.n
  unfolding beyond
  named_below i b e = elim (dec_lt i t.n) [
    | yes l ↦ l
    | no l ↦ absurd (clash (and_true _ _ e (le-leb t.n i (omega arith))) (ok.tasks i b))
  ]

  named_free : (i : ℕ) → i < t.n → bit named i ≡ true → wait st i ≡ 0
  unfolding too_soon
  named_free i l e = elim (dec_lt 0 (wait st i)) [
    | yes w ↦ absurd (clash (and_true _ _ e (lt-ltb 0 (wait st i) w)) (ok.free i l))
    | no w ↦ omega arith
  ]

  room : (i : ℕ) → i < t.n → bit named i ≡ true → jobs_of st i ≤ 3
  room i l e = fifth_place t good st ok.fitting ok.running i l (named_free i l e)

  used : (i : ℕ) → i < 16 → i < t.n → UsedFits t st i
  used i b l = used_task t st ok.fitting ok.running i b l

  -- ---- live or not, once the releases are made
  module _ (i p : ℕ) (b : i < 16) (h : p < 4) where
    kept_live : is_new st named i p ≡ false → live mid i p ≡ live st i p
    kept_live e = released_live t st named i b p h ∙ ap (λ (c : Bool). pick c true (live st i p)) e

    -- a place without a job then had none before, and is zero
    zero_before : live mid i p ≡ false → (is_new st named i p ≡ false) × ZeroPlace st i p
    zero_before e = go (is_new st named i p) refl
      where
        none : live st i p ≡ false → ZeroPlace st i p
        none o = elim (dec_lt i t.n) [
          | yes l ↦ elim (dec_lt p (jobs_of st i)) [
            | yes k ↦ absurd (clash ((used i b l).lives p k) o)
            | no k ↦ (used i b l).others p (omega arith) h
          ]
          | no l ↦ (unused_task t st ok.fitting ok.running i b (omega arith)).others p h
        ]

        go : (c : Bool) → is_new st named i p ≡ c → (is_new st named i p ≡ false) × ZeroPlace st i p
        go true n = absurd (clash (released_live t st named i b p h ∙ ap (λ (c : Bool). pick c true (live st i p)) n) e)
        go false n = (n, none (sym (kept_live n) ∙ e))

  -- the first k places, and no others
  abbrev First : ℕ → Type 0
  First i = (k : ℕ) × (k ≤ 4) × ((p : ℕ) → p < k → live mid i p ≡ true) × ((p : ℕ) → k ≤ p → p < 4 → live mid i p ≡ false)

  live_first : (i : ℕ) → i < 16 → First i
  live_first i b = elim (dec_lt i t.n) [
    | yes l ↦ named_or_not l (bit named i) refl
    | no l ↦ (
      0,
      omega arith,
      (λ p c. absurd (omega arith)),
      λ p c h.
          kept_live i p b h (not_new st named i p (λ n z. l (named_below i b n))) ∙ ((unused_task t st ok.fitting ok.running i b (omega arith)).others p h).idles,
    )
  ]
    where
      old : i < t.n → (p : ℕ) → p < jobs_of st i → live mid i p ≡ true
      old l p c = let four = jobs_four st i in kept_live i p b (omega arith) (not_new st named i p (λ n z. omega arith)) ∙ (used i b l).lives p c

      past : i < t.n → (p : ℕ) → jobs_of st i ≤ p → p < 4 → is_new st named i p ≡ false → live mid i p ≡ false
      past l p c h n = kept_live i p b h n ∙ ((used i b l).others p c h).idles

      new : i < t.n → bit named i ≡ true → (p : ℕ) → p < 4 → p ≡ jobs_of st i → live mid i p ≡ true
      new l e p h z = released_live t st named i b p h ∙ ap (λ (c : Bool). pick c true (live st i p)) (ap (is_new st named i) z ∙ is_new_lem st named i e)

      named_or_not : i < t.n → (c : Bool) → bit named i ≡ c → First i
      named_or_not l true e =
          let three = room i l e in (
            jobs_of st i + 1,
            omega arith,
            (λ p c. elim (dec_lt p (jobs_of st i)) [ yes k ↦ old l p k | no k ↦ new l e p (omega arith) (omega arith) ]),
            λ p c h. past l p (omega arith) h (not_new st named i p (λ n z. omega arith)),
          )
      named_or_not l false e =
          (jobs_of st i, jobs_four st i, old l, λ p c h. past l p c h (not_new st named i p (λ n z. clash n e)))

  -- ---- THE ROWS AFTER STEP 4
  module _ (chosen : List ℕ) where
    abbrev ran : State
    ran = worked t mid named chosen

    module _ (i p : ℕ) (b : i < 16) (h : p < 4) (e : live mid i p ≡ false) where
      no_rest : (u : ℕ) → u < 16 → remaining ran i p u ≡ 0
      no_rest u l =
          let z = zero_before i p b h e in
          let none : remaining mid i p u ≡ 0 =
          released_remaining t st named i b p h u l ∙ ap (λ (c : Bool). pick c (cost t i u) (remaining st i p u)) z.0 ∙ nothing_is st i p z.1.none u l in
          worked_remaining t mid named chosen i b p h u l
          ∙ ap (λ (x : ℕ). pick (is_in (64 * i + 16 * p + u) chosen) (x - 1) x) none ∙ go (is_in (64 * i + 16 * p + u) chosen)
        where
          go : (c : Bool) → pick c (0 - 1) 0 ≡ 0
          go true = refl
          go false = refl

      no_work_lem : work_of ran i p ≡ 0
      no_work_lem =
          let z = zero_before i p b h e in
          let none : work_of mid i p ≡ 0 = released_work t st named i b p h ∙ ap (λ (c : Bool). pick c (sum 16 (cost t i)) (work_of st i p)) z.0 ∙ z.1.no_work_lem in
          let r = worked_work t mid named chosen i b p h in
          omega arith

    module _ (begun : ℕ) (rest work : List ℕ) (lives : (i p : ℕ) → i < 16 → p < 4 → bit begun (16 * p + i) ≡ live mid i p)
        (rs : rest ≡ ran.remaining) (ws : work ≡ ran.work) where
      in_order : (i p : ℕ) → i < 16 → p < 4 → bit begun (16 * p + i) ≡ ltb p (used_by begun i)
      unfolding used_by
      in_order i p b h =
          let f = live_first i b in
          let n : used_by begun i ≡ f.0 = count_first 4 f.0 (λ p. bit begun (16 * p + i)) f.1
          (λ p c. lives i p b (omega (arith, f.1)) ∙ f.2 p c) (λ p c l. lives i p b l ∙ f.3 p c l) in
          elim (dec_lt p f.0) [
            | yes l ↦ lives i p b h ∙ f.2 p l ∙ sym (lt-ltb p (used_by begun i) (omega (arith, n)))
            | no l ↦ lives i p b h ∙ f.3 p (omega arith) h ∙ sym (le-ltb p (used_by begun i) (omega (arith, n)))
          ]

      -- a slot that is not in the set has no job
      at_slot : (s : ℕ) → s < 64 → bit begun s ≡ false → live mid (s % 16) (s / 16) ≡ false
      at_slot s b e = sym (lives (s % 16) (s / 16) (omega arith) (omega arith)) ∙ ap (bit begun) (slot_of s) ∙ e

      pub tidy : Tidy begun rest work
      unfolding remaining work_of
      tidy = record {
        order = in_order;
        no_work_lem = λ s b e.
            ap (λ (l : List ℕ). get_or l s 0) ws ∙ ap (λ (j : ℕ). get_or ran.work j 0) (sym (slot_of s))
            ∙ no_work_lem (s % 16) (s / 16) (omega arith) (omega arith) (at_slot s b e);
        no_rest = λ s u b c e.
            let z : 16 * s + u ≡ 256 * (s / 16) + 16 * (s % 16) + u = omega arith in
            ap (λ (l : List ℕ). get_or l (16 * s + u) 0) rs ∙ ap (λ (j : ℕ). get_or ran.remaining j 0) z
            ∙ no_rest (s % 16) (s / 16) (omega arith) (omega arith) (at_slot s b e) u c;
      }
