-- Steps 5 and 6 by rows: what closing the gaps leaves of the rows after step 4 makes the state after step 5. The slots that go on are those with a live
-- job that does not finish, so each task's list of them is that of the definition; where the rows are tidy, a task of which no job ends has no gap, and
-- closing it would change nothing.
use Rattle.std.proofs.Common.{◌≡◌, ℕ, ◌+◌, ◌-◌, ◌*◌, ◌/◌, ◌%◌, ◌<◌, ◌≤◌, Bool, true, false, not, ◌&&◌, eqb, ltb, List, length, get_or, sym, refl, ap, ◌∙◌, ap₂, arith, le-ltb, lt-ltb}
use Rattle.std.proofs.Common.{Option, Some, None}
use native.Mathlib.Decide.{dec_lt}
use lib.Bits.{bit_and}
use Rattle.graph.specs.Words.{flag, pick, bit, sum, row, those_below, lowest_or, set_of}
use Rattle.graph.proofs.Facts.{clash, both_true, off_when, sum_same, count_below, row_at}
use Rattle.graph.proofs.Bits.{bit_and_lem, bit_not}
use Rattle.graph.proofs.Sets.{set_small, bit_set, bit_first}
use Rattle.graph.proofs.Members.{below_same}
use Rattle.machine.specs.declared.Phase.{Phase}
use Rattle.machine.specs.declared.Phase.TheVariants.{Stopped}
use Rattle.machine.specs.declared.Job.{Job}
use Rattle.machine.specs.declared.Job.TheVariants.{Nothing, Live}
use Rattle.machine.specs.declared.TaskState.{TaskState}
use Rattle.machine.specs.declared.State.{State}
use Rattle.machine.specs.declared.Ticked.{Ticked}
use Rattle.machine.specs.States.{no_job, idle, task_of, wait, job_at, is_live, deadline_of, live, deadline, jobs_of, remaining, work_of, wrap, zeros}
use Rattle.machine.specs.Steps.{finishes, going_on, closed, ended, any_place, finished, missed}
use Rattle.machine.specs.Rows.{place_by, tasks_by, used_by, rows_after, going_by, closed_by, Tidy}
use Rattle.machine.specs.Ticking.{ticked, judged, advance_to}
use Rattle.machine.proofs.Places.{below_at, count_first, place_none}
use Rattle.machine.proofs.Clauses.{jobs_four}
use Rattle.machine.proofs.Found.{lowest_some, lowest_no, lowest_same}
use Rattle.machine.proofs.Filling.{row_ext, set_ext}
use Rattle.machine.proofs.Gathering.{place_ext}
use Rattle.machine.proofs.Apart.{slot_of}
use Rattle.machine.proofs.Gaps.{nth_is}

-- ---- the state that rows make, by index
module _ (clock : ℕ) (phase : Phase) (lives : ℕ) (deadlines waits rest work : List ℕ) where
  abbrev rows : State
  rows = rows_after clock phase lives deadlines waits rest work

  module _ (i : ℕ) (b : i < 16) where
    rows_wait : wait rows i ≡ get_or waits i 0 - 1
    unfolding rows_after wait task_of
    rows_wait = ap (λ (x : TaskState). x.wait) (row_at 16 _ i idle b)

    module _ (p : ℕ) (h : p < 4) where
      pub rows_job : job_at rows i p ≡ pick (bit lives (16 * p + i)) (Live (get_or deadlines (16 * p + i) 0)) Nothing
      unfolding rows_after job_at task_of
      rows_job = ap (λ (x : TaskState). (get_or x.jobs p no_job)) (row_at 16 _ i idle b) ∙ ap (λ (x : Job). x) (row_at 4 _ p no_job h)

      pub rows_live : live rows i p ≡ bit lives (16 * p + i)
      unfolding live is_live
      rows_live = ap is_live rows_job ∙ go (bit lives (16 * p + i))
        where
          go : (c : Bool) → is_live (pick c (Live (get_or deadlines (16 * p + i) 0)) Nothing) ≡ c
          go true = refl
          go false = refl

      rows_late : (live rows i p && eqb (deadline rows i p) rows.clock) ≡ (bit lives (16 * p + i) && eqb (get_or deadlines (16 * p + i) 0) (wrap (clock + 1)))
      unfolding live is_live deadline deadline_of rows_after
      rows_late = ap (λ (j : Job). is_live j && eqb (deadline_of j) (wrap (clock + 1))) rows_job ∙ go (bit lives (16 * p + i))
        where
          go : (c : Bool) → (is_live (pick c (Live (get_or deadlines (16 * p + i) 0)) Nothing) && eqb (deadline_of (pick c (Live (get_or deadlines (16 * p + i) 0)) Nothing)) (wrap (clock + 1)))
              ≡ (c && eqb (get_or deadlines (16 * p + i) 0) (wrap (clock + 1)))
          go true = refl
          go false = refl

      rows_work : work_of rows i p ≡ get_or work (16 * p + i) 0
      unfolding work_of rows_after
      rows_work = refl

    -- STEP 6
    rows_missed : missed rows i ≡ any_place (λ p. bit lives (16 * p + i) && eqb (get_or deadlines (16 * p + i) 0) (wrap (clock + 1)))
    unfolding missed
    rows_missed = place_ext _ _ (λ p h. rows_late p h)

-- ---- STEP 5
module _ (clock : ℕ) (phase : Phase) (begun : ℕ) (deadlines waits rest work : List ℕ)
    (done over : ℕ) (ds : done ≡ set_of 64 (λ s. bit begun s && eqb (get_or work s 0) 0)) (os : over ≡ set_of 16 (λ i. any_place (λ p. bit done (16 * p + i)))) where
  abbrev after : State
  after = rows_after clock phase begun deadlines waits rest work

  -- the slots that go on
  abbrev on : ℕ
  on = bit_and begun (18446744073709551615 - done)

  done_at : (i p : ℕ) → i < 16 → p < 4 → bit done (16 * p + i) ≡ finishes after i p
  unfolding finishes
  done_at i p b h =
      ap (λ (x : ℕ). bit x (16 * p + i)) ds ∙ bit_set 64 _ (16 * p + i) (omega arith)
      ∙ ap₂ (λ (c : Bool) (w : ℕ). c && eqb w 0) (sym (rows_live clock phase begun deadlines waits rest work i b p h)) (sym (rows_work clock phase begun deadlines waits rest work i b p h))

  -- the finished set
  pub over_is : over ≡ finished after
  unfolding finished
  over_is = os ∙ set_ext 16 _ _ (λ i b. place_ext _ _ (λ p h. done_at i p b h))

  on_slot : (s : ℕ) → s < 64 → bit on s ≡ (bit begun s && not (bit done s))
  on_slot s b = bit_and_lem begun (18446744073709551615 - done) s ∙ ap (λ (c : Bool). bit begun s && c) (bit_not 64 done s (omega (arith, ds, set_small (λ s. bit begun s && eqb (get_or work s 0) 0) 64)) b)

  on_at : (i p : ℕ) → i < 16 → p < 4 → bit on (16 * p + i) ≡ (live after i p && not (finishes after i p))
  on_at i p b h =
      on_slot (16 * p + i) (omega arith)
      ∙ ap₂ (λ (c d : Bool). c && not d) (sym (rows_live clock phase begun deadlines waits rest work i b p h)) (done_at i p b h)

  on_list : (i : ℕ) → i < 16 → going_by on i ≡ going_on after i
  unfolding going_by going_on
  on_list i b = below_same 4 _ _ (λ p h. on_at i p b h)

  -- a slot that goes on has a live job
  on_begun : (i p : ℕ) → i < 16 → p < 4 → bit on (16 * p + i) ≡ true → bit begun (16 * p + i) ≡ true
  on_begun i p b h e = (both_true (bit begun (16 * p + i)) _ (sym (on_slot (16 * p + i) (omega arith)) ∙ e)).0

  -- ---- the tasks whose gaps are closed: every one, or those of which a job ended, where the rows are tidy
  module _ (every : Bool) (tidy : every ≡ false → Tidy begun rest work) (which : ℕ) (ws : which ≡ pick every 65535 over) where
    -- a task that is left out: the rows are tidy, and none of its jobs ends
    left_out : (i : ℕ) → i < 16 → bit which i ≡ false → Tidy begun rest work × ((p : ℕ) → p < 4 → bit done (16 * p + i) ≡ false)
    left_out i b e = go every refl
      where
        go : (c : Bool) → every ≡ c → Tidy begun rest work × ((p : ℕ) → p < 4 → bit done (16 * p + i) ≡ false)
        go true q = absurd (clash (ap (λ (x : ℕ). bit x i) (ws ∙ ap (λ (c : Bool). pick c 65535 over) q) ∙ bit_first 16 i ∙ lt-ltb i 16 b) e)
        go false q = (tidy q, place_none _ (sym (ap (λ (x : ℕ). bit x i) os ∙ bit_set 16 _ i b) ∙ ap (λ (x : ℕ). bit x i) (sym (ws ∙ ap (λ (c : Bool). pick c 65535 over) q)) ∙ e))

    module _ (i : ℕ) (b : i < 16) (e : bit which i ≡ false) where
      as_begun : (p : ℕ) → p < 4 → bit on (16 * p + i) ≡ ltb p (used_by begun i)
      as_begun p h =
          on_slot (16 * p + i) (omega arith) ∙ ap (λ (c : Bool). bit begun (16 * p + i) && not c) ((left_out i b e).1 p h)
          ∙ yes_and (bit begun (16 * p + i)) ∙ (left_out i b e).0.order i p b h
        where
          yes_and : (c : Bool) → (c && true) ≡ c
          yes_and true = refl
          yes_and false = refl

      used_four : used_by begun i ≤ 4
      unfolding used_by jobs_of
      used_four = omega (arith, jobs_four after i, sum_same 4 (λ p. flag (live after i p)) (λ p. flag (bit begun (16 * p + i))) (λ p h. ap flag (rows_live clock phase begun deadlines waits rest work i b p h)))

      -- the first of its places go on
      on_length : length (going_by on i) ≡ used_by begun i
      unfolding going_by
      on_length =
          count_below 4 (λ p. bit on (16 * p + i))
          ∙ count_first 4 (used_by begun i) (λ p. bit on (16 * p + i)) used_four
          (λ p l. as_begun p (omega (arith, used_four)) ∙ lt-ltb p (used_by begun i) l) (λ p l h. as_begun p h ∙ le-ltb p (used_by begun i) l)

      -- so the q-th that goes on stands at place q
      same_place : (q : ℕ) → q < length (going_by on i) → get_or (going_by on i) q 0 ≡ q
      unfolding going_by
      same_place q l =
          let h : q < used_by begun i = omega (arith, on_length) in
          let first : (p : ℕ) → p ≤ q → bit on (16 * p + i) ≡ true = λ p k. as_begun p (omega (arith, used_four)) ∙ lt-ltb p (used_by begun i) (omega arith) in
          let n : sum q (λ p. flag (bit on (16 * p + i))) ≡ q = count_first q q (λ p. bit on (16 * p + i)) (omega arith) (λ p k. first p (omega arith)) (λ p x y. absurd (omega arith)) in
          ap (λ (m : ℕ). get_or (those_below 4 (λ p. bit on (16 * p + i))) m 0) (sym n)
          ∙ (nth_is 4 q (λ p. bit on (16 * p + i)) (omega (arith, used_four)) (first q (omega arith))).1

      -- and those behind have no job
      none_behind : (q : ℕ) → q < 4 → length (going_by on i) ≤ q → bit begun (16 * q + i) ≡ false
      none_behind q h l = (left_out i b e).0.order i q b h ∙ le-ltb q (used_by begun i) (omega (arith, on_length))

    -- what closing leaves at place q of task i
    module _ (i : ℕ) (b : i < 16) (q : ℕ) (h : q < 4) where
      abbrev from : ℕ
      from = get_or (going_by on i) q 0

      from_on : q < length (going_by on i) → (from < 4) × (bit on (16 * from + i) ≡ true)
      unfolding going_by
      from_on l = below_at 4 (λ p. bit on (16 * p + i)) q l

      module _ {ℓ} {X : Type ℓ} (f : ℕ → X) (none : X) where
        at_place : closed_by which on (16 * q + i) f none ≡ pick (bit which i) (pick (ltb q (length (going_by on i))) (f (16 * from + i)) none) (f (16 * q + i))
        unfolding closed_by
        at_place =
            let m : (16 * q + i) % 16 ≡ i = omega arith in
            let d : (16 * q + i) / 16 ≡ q = omega arith in
            ap₂ (λ (j r : ℕ). pick (bit which j) (pick (ltb r (length (going_by on j))) (f (16 * get_or (going_by on j) r 0 + j)) none) (f (16 * q + i))) m d

        came_in : q < length (going_by on i) → closed_by which on (16 * q + i) f none ≡ f (16 * from + i)
        came_in l =
            at_place ∙ ap (λ (c : Bool). pick (bit which i) (pick c (f (16 * from + i)) none) (f (16 * q + i))) (lt-ltb q (length (going_by on i)) l) ∙ go (bit which i) refl
          where
            go : (c : Bool) → bit which i ≡ c → pick c (f (16 * from + i)) (f (16 * q + i)) ≡ f (16 * from + i)
            go true e = refl
            go false e = ap (λ (p : ℕ). f (16 * p + i)) (sym (same_place i b e q l))

        came_out : length (going_by on i) ≤ q → (bit which i ≡ false → bit begun (16 * q + i) ≡ false → f (16 * q + i) ≡ none) → closed_by which on (16 * q + i) f none ≡ none
        came_out l zeroes =
            at_place ∙ ap (λ (c : Bool). pick (bit which i) (pick c (f (16 * from + i)) none) (f (16 * q + i))) (le-ltb q (length (going_by on i)) l) ∙ go (bit which i) refl
          where
            go : (c : Bool) → bit which i ≡ c → pick c none (f (16 * q + i)) ≡ none
            go true e = refl
            go false e = zeroes e (none_behind i b e q h l)

        -- as the definition closes it
        by_place : (g : ℕ → X) → ((p : ℕ) → p < 4 → g p ≡ f (16 * p + i)) → (bit which i ≡ false → bit begun (16 * q + i) ≡ false → f (16 * q + i) ≡ none)
            → closed after i q g none ≡ closed_by which on (16 * q + i) f none
        unfolding closed
        by_place g same zeroes =
            ap (λ (l : List ℕ). pick (ltb q (length l)) (g (get_or l q 0)) none) (sym (on_list i b))
            ∙ elim (dec_lt q (length (going_by on i))) [
              | yes l ↦ ap (λ (c : Bool). pick c (g from) none) (lt-ltb q (length (going_by on i)) l) ∙ same from (from_on l).0 ∙ sym (came_in l)
              | no l ↦ ap (λ (c : Bool). pick c (g from) none) (le-ltb q (length (going_by on i)) (omega arith)) ∙ sym (came_out (omega arith) zeroes)
            ]

    -- ---- the rows that closing leaves
    module _ (live' : ℕ) (deadlines' rest' work' : List ℕ)
        (el : live' ≡ set_of 64 (λ s. closed_by which on s (bit on) false))
        (ed : deadlines' ≡ row 64 (λ s. closed_by which on s (λ q. get_or deadlines q 0) 0))
        (er : rest' ≡ row 1024 (λ k. closed_by which on (k / 16) (λ q. get_or rest (16 * q + k % 16) 0) 0))
        (ew : work' ≡ row 64 (λ s. closed_by which on s (λ q. get_or work q 0) 0)) where
      live_at : (s : ℕ) → s < 64 → bit live' s ≡ closed_by which on s (bit on) false
      live_at s b = ap (λ (x : ℕ). bit x s) el ∙ bit_set 64 _ s b

      ends_at : (s : ℕ) → s < 64 → get_or deadlines' s 0 ≡ closed_by which on s (λ q. get_or deadlines q 0) 0
      ends_at s b = ap (λ (l : List ℕ). get_or l s 0) ed ∙ row_at 64 _ s 0 b

      job_is : (i : ℕ) → i < 16 → (q : ℕ) → q < 4 → closed after i q (λ p. job_at after i p) no_job ≡ place_by live' deadlines' i q
      unfolding closed no_job
      job_is i b q h =
          ap (λ (l : List ℕ). pick {X = Job} (ltb q (length l)) (job_at after i (get_or l q 0)) no_job) (sym (on_list i b))
          ∙ elim (dec_lt q (length (going_by on i))) [ yes l ↦ in_it l | no l ↦ out_of_it (omega arith) ]
        where
          p : ℕ
          p = get_or (going_by on i) q 0

          in_it : q < length (going_by on i) → pick {X = Job} (ltb q (length (going_by on i))) (job_at after i p) no_job ≡ place_by live' deadlines' i q
          in_it l =
              let r = from_on i b q h l in
              let job : job_at after i p ≡ Live (get_or deadlines (16 * p + i) 0) =
              rows_job clock phase begun deadlines waits rest work i b p r.0
              ∙ ap (λ (c : Bool). pick c (Live (get_or deadlines (16 * p + i) 0)) Nothing) (on_begun i p b r.0 r.1) in
              let lives : bit live' (16 * q + i) ≡ true = live_at (16 * q + i) (omega arith) ∙ came_in i b q h (bit on) false l ∙ r.1 in
              let ends : get_or deadlines' (16 * q + i) 0 ≡ get_or deadlines (16 * p + i) 0 = ends_at (16 * q + i) (omega arith) ∙ came_in i b q h (λ q. get_or deadlines q 0) 0 l in
              ap (λ (c : Bool). pick {X = Job} c (job_at after i p) no_job) (lt-ltb q (length (going_by on i)) l)
              ∙ ap (λ (j : Job). j) (job ∙ sym (ap₂ (λ (c : Bool) (d : ℕ). pick c (Live d) Nothing) lives ends))

          out_of_it : length (going_by on i) ≤ q → pick {X = Job} (ltb q (length (going_by on i))) (job_at after i p) no_job ≡ place_by live' deadlines' i q
          out_of_it l =
              let lives : bit live' (16 * q + i) ≡ false =
              live_at (16 * q + i) (omega arith)
              ∙ came_out i b q h (bit on) false l (λ e z. off_when (bit on (16 * q + i)) (λ o. clash (on_begun i q b h o) z)) in
              ap (λ (c : Bool). pick {X = Job} c (job_at after i p) no_job) (le-ltb q (length (going_by on i)) l)
              ∙ ap (λ (c : Bool). pick c (Live (get_or deadlines' (16 * q + i) 0)) Nothing) (sym lives)

      tasks_are : (ended after).tasks ≡ tasks_by live' deadlines' waits
      unfolding ended
      tasks_are = row_ext 16 idle _ _ (λ i b. ap₂ (λ (w : ℕ) (js : List Job). record { wait = w; jobs = js }) (rows_wait clock phase begun deadlines waits rest work i b) (row_ext 4 no_job _ _ (λ q h. job_is i b q h)))

      rest_is : (ended after).remaining ≡ rest'
      unfolding ended remaining rows_after
      rest_is = row_ext 1024 0 _ _ (λ k c.
          let b : k / 16 % 16 < 16 = omega arith in
          let h : k / 256 < 4 = omega arith in
          let z : 16 * (k / 256) + k / 16 % 16 ≡ k / 16 = omega arith in
          by_place (k / 16 % 16) b (k / 256) h (λ s. get_or rest (16 * s + k % 16) 0) 0 (λ p. remaining after (k / 16 % 16) p (k % 16))
          (λ p l. let y : 256 * p + 16 * (k / 16 % 16) + k % 16 ≡ 16 * (16 * p + k / 16 % 16) + k % 16 = omega arith in ap (λ (j : ℕ). get_or rest j 0) y)
          (λ e o. (left_out (k / 16 % 16) b e).0.no_rest (16 * (k / 256) + k / 16 % 16) (k % 16) (omega arith) (omega arith) o)
          ∙ ap (λ (s : ℕ). closed_by which on s (λ q. get_or rest (16 * q + k % 16) 0) 0) z)
          ∙ sym er

      work_is : (ended after).work ≡ work'
      unfolding ended work_of rows_after
      work_is = row_ext 64 0 _ _ (λ s c.
          let b : s % 16 < 16 = omega arith in
          let h : s / 16 < 4 = omega arith in
          by_place (s % 16) b (s / 16) h (λ s. get_or work s 0) 0 (λ p. work_of after (s % 16) p) (λ p l. refl)
          (λ e o. (left_out (s % 16) b e).0.no_work_lem (16 * (s / 16) + s % 16) (omega arith) o)
          ∙ ap (λ (s : ℕ). closed_by which on s (λ q. get_or work q 0) 0) (slot_of s))
          ∙ sym ew

      -- THE STATE AFTER STEP 5
      pub rows_ended : ended after ≡ rows_after clock phase live' deadlines' waits rest' work'
      unfolding rows_after ended
      rows_ended =
          ap₂ (λ (ts : List TaskState) (rs : List ℕ). record { clock = wrap (clock + 1); phase = phase; tasks = ts; remaining = rs; work = (ended after).work }) tasks_are rest_is
          ∙ ap (λ (ws : List ℕ). record { clock = wrap (clock + 1); phase = phase; tasks = tasks_by live' deadlines' waits; remaining = rest'; work = ws }) work_is

      -- ---- STEP 6
      module _ (chosen : List ℕ) (next : ℕ) (late : Option ℕ) (nx : next ≡ wrap (clock + 1))
          (le : late ≡ lowest_or 16 (λ i. any_place (λ p. bit live' (16 * p + i) && eqb (get_or deadlines' (16 * p + i) 0) next)) Some None) where
        clock_is : next ≡ (ended after).clock
        unfolding ended rows_after
        clock_is = nx

        late_is : late ≡ lowest_or 16 (missed (ended after)) Some None
        late_is = le ∙ lowest_same 16 _ _ Some None (λ i b.
            ap (λ (n : ℕ). any_place (λ p. bit live' (16 * p + i) && eqb (get_or deadlines' (16 * p + i) 0) n)) nx
            ∙ sym (rows_missed clock phase live' deadlines' waits rest' work' i b)
            ∙ ap (λ (s : State). missed s i) (sym rows_ended))

        -- a deadline is missed
        pub rows_miss : (task : ℕ) → late ≡ Some task → (r : Ticked) → r ≡ ticked 34 task chosen over (zeros next (Stopped task)) → r ≡ advance_to chosen after
        unfolding advance_to judged
        rows_miss task h r e =
            e
            ∙ ap₂ (λ (d k : ℕ). ticked 34 task chosen d (zeros k (Stopped task))) over_is clock_is
            ∙ sym (lowest_some 16 (missed (ended after)) (λ i. ticked 34 i chosen (finished after) (zeros (ended after).clock (Stopped i))) _ task (sym late_is ∙ h))

        -- or none is
        pub rows_go : late ≡ None → (tasks : List TaskState) → tasks ≡ tasks_by live' deadlines' waits
            → (r : Ticked) → r ≡ ticked 0 255 chosen over (record { clock = next; phase = phase; tasks = tasks; remaining = rest'; work = work' }) → r ≡ advance_to chosen after
        unfolding advance_to judged rows_after
        rows_go h tasks q r e =
            e
            ∙ ap₂ (λ (d : ℕ) (s : State). ticked 0 255 chosen d s) over_is (state_is ∙ sym rows_ended)
            ∙ sym (lowest_no 16 (missed (ended after)) (λ i. ticked 34 i chosen (finished after) (zeros (ended after).clock (Stopped i))) _ (sym late_is ∙ h))
          where
            state_is : record { clock = next; phase = phase; tasks = tasks; remaining = rest'; work = work' } ≡ rows_after clock phase live' deadlines' waits rest' work'
            state_is = ap₂ (λ (k : ℕ) (ts : List TaskState). record { clock = k; phase = phase; tasks = ts; remaining = rest'; work = work' }) nx q
