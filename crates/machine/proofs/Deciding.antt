-- WHICH STATES FIT, BY ROWS, of the whole state: each slot is as specs/Rows.antt says and each wait too, exactly if each task is as specs/Fitting.antt says.
use Rattle.std.proofs.Common.{◌≡◌, ℕ, zero, suc, ◌+◌, ◌-◌, ◌*◌, ◌/◌, ◌%◌, ◌<◌, ◌≤◌, Bool, true, false, ◌&&◌, ◌||◌, eqb, ltb, leb, List, get_or, sym, refl, ap, ◌∙◌, arith, ltb-true, le-ltb, lt-ltb, eq-eqb, eqb-true, le-leb, leb-true}
use native.Mathlib.Decide.{dec_lt, ℕ_discrete}
use Rattle.graph.specs.Words.{bit, all}
use Rattle.graph.proofs.Facts.{clash, both_true, and_true, all_at, all_of}
use Rattle.table.specs.declared.Table.{Table}
use Rattle.table.specs.Memory.{task, D, T}
use Rattle.table.specs.Good.{GoodTable}
use Rattle.slots.specs.Slots as slots
use Rattle.machine.specs.declared.Phase.{Phase}
use Rattle.machine.specs.declared.Phase.TheVariants.{Running, Stopped}
use Rattle.machine.specs.declared.State.{State}
use Rattle.machine.specs.States.{live, wait, jobs_of, work_of, left}
use Rattle.machine.specs.Fitting.{fits_job, zero_place, zero_task_in, fits_task, fits_phase, fits}
use Rattle.machine.specs.Rows.{spaced_by, newest_by, live_by, slot_fits, wait_fits, fits_by}
use Rattle.machine.proofs.Clauses.{either, UsedFits, ZeroTask, ZeroPlace, job_fits_lem, of_job, zero_place_lem, of_place, zero_task, of_zero, used_fits, of_used, jobs_four}
use Rattle.machine.proofs.Places.{jobs_are}
use Rattle.machine.proofs.Judging.{wait_none, wait_some}
use Rattle.machine.proofs.Apart.{Apart, ticks_in, left_at, slot_of}
use Rattle.machine.proofs.Fits.{zero_same, job_same}

same_when : (a b : Bool) → (a ≡ true → b ≡ true) → (b ≡ true → a ≡ true) → a ≡ b
same_when true b f g = sym (f refl)
same_when false true f g = g refl
same_when false false f g = refl

apart_and : (x y z : Bool) → (x && y && z) ≡ (x && (y && z))
apart_and true y z = refl
apart_and false y z = refl

-- ---- places of which each passes only after the one before: those that pass come first
chain : (f : ℕ → Bool) (n : ℕ) → ((p : ℕ) → p + 1 < suc n → f (p + 1) ≡ true → f p ≡ true) → f n ≡ true → (d p : ℕ) → p + d ≡ n → f p ≡ true
chain f n down e zero p h = let z : p ≡ n = omega arith in ap f z ∙ e
chain f n down e (suc d) p h = down p (omega arith) (chain f n down e d (p + 1) (omega arith))

prefix : (f : ℕ → Bool) (n : ℕ) → ((p : ℕ) → p + 1 < n → f (p + 1) ≡ true → f p ≡ true)
    → (k : ℕ) × (k ≤ n) × ((p : ℕ) → p < k → f p ≡ true) × ((p : ℕ) → k ≤ p → p < n → f p ≡ false)
prefix f zero down = (0, omega arith, λ p b. absurd (omega arith), λ p b c. absurd (omega arith))
prefix f (suc n) down = go (f n) refl (prefix f n (λ p b. down p (omega arith)))
  where
    go : (c : Bool) → f n ≡ c → (k : ℕ) × (k ≤ n) × ((p : ℕ) → p < k → f p ≡ true) × ((p : ℕ) → k ≤ p → p < n → f p ≡ false)
        → (k : ℕ) × (k ≤ suc n) × ((p : ℕ) → p < k → f p ≡ true) × ((p : ℕ) → k ≤ p → p < suc n → f p ≡ false)
    go true e r = (suc n, omega arith, λ p b. chain f n down e (n - p) p (omega arith), λ p b c. absurd (omega arith))
    go false e r = (
      r.0,
      let h = r.1 in omega arith,
      r.2,
      λ p b c. elim (ℕ_discrete p n) [
        | yes z ↦ ap f z ∙ e
        | no z ↦ r.3 p b (omega arith)
      ],
    )

module _ (t : Table) (good : GoodTable t) (st : State) (in_it : ℕ) (deadlines waits : List ℕ) (a : Apart st in_it deadlines waits) where
  abbrev ticks : List ℕ
  ticks = ticks_in in_it deadlines st.clock

  abbrev slot_ok : ℕ → Bool
  slot_ok s = slot_fits t.n (task t (s % 16)) t.costs in_it ticks (get_or waits (s % 16) 0) (get_or st.work s 0) st.remaining s

  abbrev wait_ok : ℕ → Bool
  wait_ok i = wait_fits t.n (task t i).t (get_or waits i 0) i

  -- ---- what a slot's clause says of place p of task i
  pub record LiveSlot (i p : ℕ) : Type 0 where
    pub used : i < t.n
    pub job : fits_job t st i p ≡ true
    pub before : 1 ≤ p → (live st i (p - 1) ≡ true) × (left st i (p - 1) + T t i ≤ left st i p)
    pub newest : (p + 1 < 4 → live st i (p + 1) ≡ false) → T t i + left st i p ≤ wait st i + D t i

  module _ (i p : ℕ) (b : i < 16) (c : p < 4) where
    abbrev s : ℕ
    s = 16 * p + i

    -- by task and place
    abbrev here : Bool
    here = slot_fits t.n (task t i) t.costs in_it ticks (wait st i) (work_of st i p) st.remaining s

    here_is : slot_ok s ≡ here
    unfolding work_of
    here_is =
        let e : s % 16 ≡ i = omega arith in
        ap (λ (k : ℕ). slot_fits t.n (task t k) t.costs in_it ticks (get_or waits k 0) (get_or st.work s 0) st.remaining s) e
        ∙ ap (λ (w : ℕ). slot_fits t.n (task t i) t.costs in_it ticks w (get_or st.work s 0) st.remaining s) (a.rests i b)

    abbrev live_here : Bool
    live_here = ltb (s % 16) t.n && live_by (task t i) t.costs in_it ticks (wait st i) (work_of st i p) st.remaining s

    idle_is : live st i p ≡ false → here ≡ zero_place st i p
    unfolding slot_fits
    idle_is e = rw (a.lives i p b c ∙ e)
        (ap (λ (x : Bool). slots.zero_place x (work_of st i p) st.remaining s) (sym e) ∙ zero_same st i p b c)

    live_is : live st i p ≡ true → here ≡ live_here
    unfolding slot_fits
    live_is e = rw (a.lives i p b c ∙ e) refl

    module _ (e : live st i p ≡ true) where
      its_left : get_or ticks s 0 ≡ left st i p
      its_left = left_at st in_it deadlines waits a i p b c e

      job_is : i < t.n → slots.job_fits (task t i) t.costs (get_or ticks s 0) (work_of st i p) st.remaining s ≡ fits_job t st i p
      job_is h = ap (λ (x : ℕ). slots.job_fits (task t i) t.costs x (work_of st i p) st.remaining s) its_left ∙ job_same st i p b c t (good.each i h)

      earlier : 1 ≤ p → s - 16 ≡ 16 * (p - 1) + i
      earlier h = omega arith

      spaced_says : spaced_by in_it ticks (T t i) s ≡ true → 1 ≤ p → (live st i (p - 1) ≡ true) × (left st i (p - 1) + T t i ≤ left st i p)
      unfolding spaced_by
      spaced_says h q =
          let r = both_true (bit in_it (s - 16)) (leb (get_or ticks (s - 16) 0 + T t i) (get_or ticks s 0)) (either (ltb s 16) _ h (le-ltb s 16 (omega arith))) in
          let l : live st i (p - 1) ≡ true = sym (a.lives i (p - 1) b (omega arith)) ∙ ap (bit in_it) (sym (earlier q)) ∙ r.0 in
          let x : get_or ticks (s - 16) 0 ≡ left st i (p - 1) = ap (λ (k : ℕ). get_or ticks k 0) (earlier q) ∙ left_at st in_it deadlines waits a i (p - 1) b (omega arith) l in
          let y : get_or ticks (s - 16) 0 + T t i ≤ get_or ticks s 0 = leb-true (get_or ticks (s - 16) 0 + T t i) (get_or ticks s 0) r.1 in
          let z = its_left in
          (l, omega arith)

      says_spaced : (1 ≤ p → (live st i (p - 1) ≡ true) × (left st i (p - 1) + T t i ≤ left st i p)) → spaced_by in_it ticks (T t i) s ≡ true
      unfolding spaced_by
      says_spaced h = elim (dec_lt s 16) [
        | yes l ↦ rw (lt-ltb s 16 l) refl
        | no l ↦
            let q : 1 ≤ p = omega arith in
            let r = h q in
            let x : get_or ticks (s - 16) 0 ≡ left st i (p - 1) = ap (λ (k : ℕ). get_or ticks k 0) (earlier q) ∙ left_at st in_it deadlines waits a i (p - 1) b (omega arith) r.0 in
            let z = its_left in
            let w = r.1 in
            let y : get_or ticks (s - 16) 0 + T t i ≤ get_or ticks s 0 = omega arith in
            rw (le-ltb s 16 (omega arith)) (and_true (bit in_it (s - 16)) (leb (get_or ticks (s - 16) 0 + T t i) (get_or ticks s 0)) (ap (bit in_it) (earlier q) ∙ a.lives i (p - 1) b (omega arith) ∙ r.0) (le-leb _ _ y))
      ]

      later : s + 16 ≡ 16 * (p + 1) + i
      later = omega arith

      followed_is : p + 1 < 4 → (ltb s 48 && bit in_it (s + 16)) ≡ live st i (p + 1)
      followed_is h = rw (lt-ltb s 48 (omega arith)) (ap (bit in_it) later ∙ a.lives i (p + 1) b h)

      last_is : 4 ≤ p + 1 → (ltb s 48 && bit in_it (s + 16)) ≡ false
      last_is h = rw (le-ltb s 48 (omega arith)) refl

      newest_says : newest_by in_it (get_or ticks s 0) (D t i) (T t i) (wait st i) s ≡ true → (p + 1 < 4 → live st i (p + 1) ≡ false) → T t i + left st i p ≤ wait st i + D t i
      unfolding newest_by
      newest_says h o =
          let n : (ltb s 48 && bit in_it (s + 16)) ≡ false = elim (dec_lt (p + 1) 4) [
            | yes l ↦ followed_is l ∙ o l
            | no l ↦ last_is (omega arith)
          ] in
          let y : T t i + get_or ticks s 0 ≤ wait st i + D t i = leb-true _ _ (either (ltb s 48 && bit in_it (s + 16)) (leb (T t i + get_or ticks s 0) (wait st i + D t i)) h n) in
          let z = its_left in
          omega arith

      says_newest : ((p + 1 < 4 → live st i (p + 1) ≡ false) → T t i + left st i p ≤ wait st i + D t i) → newest_by in_it (get_or ticks s 0) (D t i) (T t i) (wait st i) s ≡ true
      unfolding newest_by
      says_newest h = go (ltb s 48 && bit in_it (s + 16)) refl
        where
          go : (x : Bool) → (ltb s 48 && bit in_it (s + 16)) ≡ x → x || leb (T t i + get_or ticks s 0) (wait st i + D t i) ≡ true
          go true q = refl
          go false q =
              let w = h (λ l. sym (followed_is l) ∙ q) in
              let z = its_left in
              let y : T t i + get_or ticks s 0 ≤ wait st i + D t i = omega arith in
              le-leb _ _ y

      live_says : live_here ≡ true → LiveSlot i p
      unfolding live_by D T
      live_says h =
          let r = both_true (ltb (s % 16) t.n) _ h in
          let q = both_true _ (slots.job_fits (task t i) t.costs (get_or ticks s 0) (work_of st i p) st.remaining s) r.1 in
          let w = both_true (newest_by in_it (get_or ticks s 0) (D t i) (T t i) (wait st i) s) (spaced_by in_it ticks (T t i) s) q.0 in
          let u : i < t.n = let z = ltb-true (s % 16) t.n r.0 in omega arith in
          record { used = u; job = sym (job_is u) ∙ q.1; before = spaced_says w.1; newest = newest_says w.0 }

      says_live : LiveSlot i p → live_here ≡ true
      unfolding live_by D T
      says_live f = and_true _ _ (lt-ltb (s % 16) t.n (let u = f.used in omega arith))
          (and_true _ _ (and_true _ _ (says_newest f.newest) (says_spaced f.before)) (job_is f.used ∙ f.job))

  -- ---- from the slots to the tasks
  module _ (all_slots : all 64 slot_ok ≡ true) where
    at_slot : (i p : ℕ) (b : i < 16) (c : p < 4) → here i p b c ≡ true
    at_slot i p b c = sym (here_is i p b c) ∙ all_at 64 slot_ok all_slots (16 * p + i) (omega arith)

    live_slot : (i p : ℕ) → i < 16 → p < 4 → live st i p ≡ true → LiveSlot i p
    live_slot i p b c e = live_says i p b c e (sym (live_is i p b c e) ∙ at_slot i p b c)

    idle_slot : (i p : ℕ) → i < 16 → p < 4 → live st i p ≡ false → ZeroPlace st i p
    idle_slot i p b c e = zero_place_lem st i p (sym (idle_is i p b c e) ∙ at_slot i p b c)

    used_of : (i : ℕ) → i < 16 → wait st i < T t i → UsedFits t st i
    used_of i b short =
        let r = prefix (live st i) 4 (λ p l e. let q : p + 1 - 1 ≡ p = omega arith in ap (live st i) (sym q) ∙ ((live_slot i (p + 1) b l e).before (omega arith)).0) in
        let k = r.1 in
        let e : jobs_of st i ≡ r.0 = jobs_are st i r.0 r.1 r.2 r.3 in
        record {
          lives = λ p l. r.2 p (omega arith);
          jobs = λ p l. job_fits_lem t st i p (live_slot i p b (omega arith) (r.2 p (omega arith))).job;
          others = λ p l m. idle_slot i p b m (r.3 p (omega arith) m);
          apart = λ p l.
              let q : p + 1 - 1 ≡ p = omega arith in
              let y : left st i (p + 1 - 1) ≡ left st i p = ap (left st i) q in
              let z = ((live_slot i (p + 1) b (omega arith) (r.2 (p + 1) (omega arith))).before (omega arith)).1 in
              omega arith;
          short = short;
          waits = λ l. (live_slot i (jobs_of st i - 1) b (omega arith) (r.2 (jobs_of st i - 1) (omega arith))).newest (λ m. r.3 (jobs_of st i - 1 + 1) (omega arith) m);
        }

    zero_of : (i : ℕ) → i < 16 → t.n ≤ i → wait st i ≡ 0 → ZeroTask st i
    zero_of i b h w = record { no_wait_lem = w; others = λ p c. go p c (live st i p) refl }
      where
        go : (p : ℕ) → p < 4 → (x : Bool) → live st i p ≡ x → ZeroPlace st i p
        go p c true e = let u = (live_slot i p b c e).used in absurd (omega arith)
        go p c false e = idle_slot i p b c e

  task_of_lem : (i : ℕ) → i < 16 → all 64 slot_ok ≡ true → wait_ok i ≡ true → fits_task t st i ≡ true
  unfolding fits_task T
  task_of_lem i b h w = elim (dec_lt i t.n) [
    | yes l ↦
        let x = ltb-true (get_or waits i 0) (task t i).t (wait_some t.n (task t i).t (get_or waits i 0) i l ∙ w) in
        let y = a.rests i b in
        let z : wait st i < T t i = omega arith in
        rw (lt-ltb i t.n l) (of_used t st i (used_of h i b z))
    | no l ↦
        let k : t.n ≤ i = omega arith in
        let x = eqb-true (get_or waits i 0) 0 (wait_none t.n (task t i).t (get_or waits i 0) i k ∙ w) in
        rw (le-ltb i t.n k) (of_zero st i (zero_of h i b k (sym (a.rests i b) ∙ x)))
  ]

  -- ---- from the tasks to the slots
  module _ (tasks : all 16 (fits_task t st) ≡ true) where
    used_at : (i : ℕ) → i < 16 → i < t.n → UsedFits t st i
    unfolding fits_task
    used_at i b l = used_fits t st i (rw (lt-ltb i t.n l) at (all_at 16 (fits_task t st) tasks i b))

    zero_at : (i : ℕ) → i < 16 → t.n ≤ i → ZeroTask st i
    unfolding fits_task
    zero_at i b l = zero_task st i (rw (le-ltb i t.n l) at (all_at 16 (fits_task t st) tasks i b))

    wait_at : (i : ℕ) → i < 16 → wait_ok i ≡ true
    unfolding T
    wait_at i b = elim (dec_lt i t.n) [
      | yes l ↦
          let x = (used_at i b l).short in
          let y = a.rests i b in
          let z : get_or waits i 0 < (task t i).t = omega arith in
          sym (wait_some t.n (task t i).t (get_or waits i 0) i l) ∙ lt-ltb _ _ z
      | no l ↦
          let k : t.n ≤ i = omega arith in
          sym (wait_none t.n (task t i).t (get_or waits i 0) i k) ∙ eq-eqb _ _ (a.rests i b ∙ (zero_at i b k).no_wait_lem)
    ]

    live_at : (i p : ℕ) → i < 16 → p < 4 → live st i p ≡ true → LiveSlot i p
    live_at i p b c e = elim (dec_lt i t.n) [
      | yes l ↦ elim (dec_lt p (jobs_of st i)) [
        | yes k ↦
            let f = used_at i b l in
            record {
              used = l;
              job = of_job t st i p (f.jobs p k);
              before = λ q.
                  let z : p - 1 + 1 ≡ p = omega arith in
                  let y : left st i (p - 1 + 1) ≡ left st i p = ap (left st i) z in
                  let x = f.apart (p - 1) (omega arith) in
                  let w : left st i (p - 1) + T t i ≤ left st i p = omega arith in
                  (f.lives (p - 1) (omega arith), w);
              newest = λ o. elim (dec_lt (p + 1) (jobs_of st i)) [
                | yes m ↦ let four = jobs_four st i in absurd (clash (f.lives (p + 1) m) (o (omega arith)))
                | no m ↦
                    let z : jobs_of st i - 1 ≡ p = omega arith in
                    let y : left st i (jobs_of st i - 1) ≡ left st i p = ap (left st i) z in
                    let x = f.waits (omega arith) in
                    omega arith
              ];
            }
        | no k ↦ absurd (clash e ((used_at i b l).others p (omega arith) c).idles)
      ]
      | no l ↦ absurd (clash e ((zero_at i b (omega arith)).others p c).idles)
    ]

    idle_at : (i p : ℕ) → i < 16 → p < 4 → live st i p ≡ false → ZeroPlace st i p
    idle_at i p b c e = elim (dec_lt i t.n) [
      | yes l ↦ elim (dec_lt p (jobs_of st i)) [
        | yes k ↦ absurd (clash ((used_at i b l).lives p k) e)
        | no k ↦ (used_at i b l).others p (omega arith) c
      ]
      | no l ↦ (zero_at i b (omega arith)).others p c
    ]

    here_at : (i p : ℕ) (b : i < 16) (c : p < 4) (x : Bool) → live st i p ≡ x → here i p b c ≡ true
    here_at i p b c true e = live_is i p b c e ∙ says_live i p b c e (live_at i p b c e)
    here_at i p b c false e = idle_is i p b c e ∙ of_place st i p (idle_at i p b c e)

    slot_at : (s : ℕ) → s < 64 → slot_ok s ≡ true
    slot_at s h =
        let b : s % 16 < 16 = omega arith in
        let c : s / 16 < 4 = omega arith in
        ap slot_ok (sym (slot_of s)) ∙ here_is (s % 16) (s / 16) b c ∙ here_at (s % 16) (s / 16) b c (live st (s % 16) (s / 16)) refl

  -- ---- a stopped state
  abbrev zero_ok : ℕ → Bool
  zero_ok s = slots.zero_place (bit in_it s) (get_or st.work s 0) st.remaining s

  zero_is : (i p : ℕ) → i < 16 → p < 4 → zero_ok (16 * p + i) ≡ zero_place st i p
  unfolding work_of
  zero_is i p b c = ap (λ (x : Bool). slots.zero_place x (work_of st i p) st.remaining (16 * p + i)) (a.lives i p b c) ∙ zero_same st i p b c

  zeros_of : (all 16 (λ i. eqb (get_or waits i 0) 0) && all 64 zero_ok) ≡ all 16 (zero_task_in st)
  zeros_of = same_when _ _
      (λ h.
      let r = both_true (all 16 (λ i. eqb (get_or waits i 0) 0)) (all 64 zero_ok) h in
      all_of 16 (zero_task_in st) (λ i b. of_zero st i (record {
        no_wait_lem = sym (a.rests i b) ∙ eqb-true _ _ (all_at 16 (λ i. eqb (get_or waits i 0) 0) r.0 i b);
        others = λ p c. zero_place_lem st i p (sym (zero_is i p b c) ∙ all_at 64 zero_ok r.1 (16 * p + i) (omega arith));
      })))
      (λ h. and_true _ _
      (all_of 16 _ (λ i b. eq-eqb _ _ (a.rests i b ∙ (zero_task st i (all_at 16 (zero_task_in st) h i b)).no_wait_lem)))
      (all_of 64 zero_ok (λ s d.
      let b : s % 16 < 16 = omega arith in
      let c : s / 16 < 4 = omega arith in
      ap zero_ok (sym (slot_of s)) ∙ zero_is (s % 16) (s / 16) b c ∙ of_place st (s % 16) (s / 16) ((zero_task st (s % 16) (all_at 16 (zero_task_in st) h (s % 16) b)).others (s / 16) c))))

  -- WHICH STATES FIT, by the rows
  pub fits_by_lem : fits_by st.phase t t.costs in_it ticks waits st.work st.remaining ≡ fits t st
  unfolding fits fits_phase fits_by
  fits_by_lem = go st.phase
    where
      go : (p : Phase) → fits_by p t t.costs in_it ticks waits st.work st.remaining ≡ fits_phase p t st
      go Running = same_when _ _
          (λ h. let r = both_true (all 16 wait_ok) (all 64 slot_ok) h in all_of 16 (fits_task t st) (λ i b. task_of_lem i b r.1 (all_at 16 wait_ok r.0 i b)))
          (λ h. and_true (all 16 wait_ok) (all 64 slot_ok) (all_of 16 wait_ok (λ i b. wait_at h i b)) (all_of 64 slot_ok (λ s b. slot_at h s b)))
      go (Stopped k) = apart_and (ltb k t.n) _ _ ∙ ap (λ (x : Bool). ltb k t.n && x) zeros_of
