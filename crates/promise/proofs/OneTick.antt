-- ONE TICK OF A SOUND STATE, job by job, of any good table, accepted or not: whatever times its releases draw within the costs, and whatever it runs within
-- the law. Each job that is live within it goes on with a tick less, and with as much less remaining as ran of it; or its task is named as finished and no job
-- afterwards has its ticks left, since jobs of one task are a period apart.
use mathlib.Core.Path.{◌≡◌, refl, sym, ap, subst, ◌∙◌}
use mathlib.Core.Logic.{◌⊎◌, inl, inr, ⊎_elim}
use mathlib.Core.Bool.{Bool, true, false}
use mathlib.Core.List.{List}
use Prim.Native.Nat.{ℕ, ◌+◌, ◌*◌, ◌-◌, ◌≤◌, ◌<◌}
use native.Mathlib.Omega.{arith}
use native.Mathlib.Decide.{dec_lt}
use lib.ListN.{get_or}
use Rattle.graph.specs.Words.{pick, bit, sum, is_in}
use Rattle.graph.proofs.Facts.{clash, both_true, row_at, row_past, sum_same}
use Rattle.graph.proofs.Sets.{bit_set}
use Rattle.table.specs.declared.Table.{Table}
use Rattle.table.specs.Memory.{task, D, T, cost}
use Rattle.table.specs.Good.{GoodTable}
use Rattle.machine.specs.declared.Job.{Job}
use Rattle.machine.specs.declared.TaskState.{TaskState}
use Rattle.machine.specs.declared.State.{State}
use Rattle.machine.specs.States.{no_job, idle, task_of, job_at, is_live, live, wait, deadline, jobs_of, remaining, left}
use Rattle.machine.specs.Steps.{released, worked, finishes, ended, any_place, finished, missed, Legal}
use Rattle.machine.specs.Fitting.{nothing_left}
use Rattle.machine.specs.Ticking.{run_list}
use Rattle.machine.proofs.Clauses.{jobs_four}
use Rattle.machine.proofs.Places.{place_any}
use Rattle.machine.proofs.Index.{not_missed, wrap_small, is_new_lem, new_is, not_new, released_past, worked_remaining}
use Rattle.machine.proofs.Working.{WorkKept, worked_keep, finish_test}
use Rattle.machine.proofs.Standing.{nothing_is}
use Rattle.machine.proofs.Sound.{Sound}
use Rattle.machine.proofs.Within as Within
use Rattle.machine.proofs.Within.{mid}
use Rattle.machine.proofs.Moving as Moving
use Rattle.machine.proofs.Moving.{ran, next, from, next_sound}
use Rattle.promise.specs.Runs.{taking, Drawn}
use Rattle.promise.specs.Account.{times_in}
use Rattle.promise.proofs.Costs.{taking_good, worked_taking, sound_taking, taking_sound}
use Rattle.promise.proofs.Counting as Counting

-- past its four places a task has no job
past_places : (t : Table) (st : State) (named i p : ℕ) → i < 16 → 4 ≤ p → live (released t st named) i p ≡ false
unfolding released live job_at task_of is_live no_job
past_places t st named i p b h =
    ap (λ (x : TaskState). is_live (get_or x.jobs p no_job)) (row_at 16 _ i idle b) ∙ ap (λ (x : Job). is_live x) (row_past 4 _ p no_job h)

module _ (t : Table) (good : GoodTable t) (st : State) (sound : Sound t st) (named : ℕ)
    (tasks : (i : ℕ) → bit named i ≡ true → i < t.n) (free : (i : ℕ) → bit named i ≡ true → wait st i ≡ 0)
    (c : List ℕ) (drawn : Drawn t c) where
  -- the table by which step 1 goes
  abbrev d : Table
  d = taking t c

  good_d : GoodTable d
  good_d = taking_good t c drawn good

  snd : Sound d st
  snd = sound_taking t c st sound

  tasks_d : (i : ℕ) → bit named i ≡ true → i < d.n
  unfolding taking
  tasks_d = tasks

  six : (i : ℕ) → i < t.n → i < 16
  six i b = let h = good.n_high in omega arith

  -- the state within the tick
  abbrev pub now : State
  now = released (taking t c) st named

  -- a live job is one of those of a task below n
  pub below : (i p : ℕ) → live now i p ≡ true → (i < t.n) × (p < jobs_of now i)
  unfolding mid taking
  below i p e = go (dec_lt i t.n) (dec_lt i 16) (dec_lt p 4) (dec_lt p (jobs_of now i))
    where
      go : Dec (i < t.n) → Dec (i < 16) → Dec (p < 4) → Dec (p < jobs_of now i) → (i < t.n) × (p < jobs_of now i)
      go b (no h) q k = absurd (clash e (released_past d st named i p (omega arith)))
      go b (yes h) (no q) k = absurd (clash e (past_places d st named i p h (omega arith)))
      go (no b) (yes h) (yes q) k = absurd (clash e (Within.mid_unused d good_d st snd named tasks_d free i p (omega arith) h q).idles)
      go (yes b) (yes h) (yes q) (no k) = absurd (clash e (Within.mid_rests d good_d st snd named tasks_d free i b p (omega arith) q).idles)
      go (yes b) (yes h) (yes q) (yes k) = (b, k)

  pub below_four : (i p : ℕ) → live now i p ≡ true → p < 4
  below_four i p e = let k = (below i p e).1 in let h = jobs_four now i in omega arith

  -- its deadline is still to come, and of two of one task the older is due a period or more before the younger
  pub ahead : (i p : ℕ) → live now i p ≡ true → 1 ≤ left now i p
  unfolding mid taking
  ahead i p e = let b = below i p e in (Within.mid_going d good_d st snd named tasks_d free i b.0 p b.1).ahead

  pub apart : (i p q : ℕ) → p < q → live now i p ≡ true → live now i q ≡ true → left now i p + T t i ≤ left now i q
  unfolding mid taking T task
  apart i p q l e f = let b = below i q f in Within.mid_before d good_d st snd named tasks_d free i b.0 p q l b.1

  -- so no two of a task have the same ticks left
  pub alone : (i p q : ℕ) → live now i p ≡ true → live now i q ≡ true → left now i p ≡ left now i q → p ≡ q
  alone i p q e f z =
      let low = (good.each i (below i p e).0).T_low in
      elim (dec_lt p q) [
        | yes l ↦ let a = apart i p q l e f in absurd (omega arith)
        | no l ↦ elim (dec_lt q p) [
          | yes k ↦ let a = apart i q p k f e in absurd (omega arith)
          | no k ↦ omega arith
        ]
      ]

  -- one that was live before is as it was, any other is new
  pub record Was (i p : ℕ) : Type 0 where
    pub among : p < jobs_of st i
    pub ticks : left now i p ≡ left st i p
    pub rest : (u : ℕ) → u < 16 → remaining now i p u ≡ remaining st i p u

  pub record New (i p : ℕ) : Type 0 where
    pub named_now : bit named i ≡ true
    pub ticks : left now i p ≡ D t i
    pub rest : (u : ℕ) → u < 16 → remaining now i p u ≡ cost (taking t c) i u

  pub data Stems (i p : ℕ) : Type 0 where
    old : Was i p → Stems i p
    new : New i p → Stems i p

  pub stems : (i p : ℕ) → i < t.n → p < jobs_of now i → Stems i p
  unfolding mid taking task D
  stems i p b l = ⊎_elim
      (λ k.
      let e = not_new st named i p (λ n z. omega arith) in
      old (record {
        among = k;
        ticks = Within.kept_left d good_d st snd named tasks_d free i (six i b) p four e;
        rest = λ u h. Within.kept_remaining d good_d st snd named tasks_d free i (six i b) p four e u h;
      }))
      (λ e. new (record {
        named_now = (new_is st named i p e).0;
        ticks = Within.new_left d good_d st snd named tasks_d free i (six i b) p four e;
        rest = λ u h. Within.new_remaining d good_d st snd named tasks_d free i (six i b) p four e u h;
      }))
      (Within.mid_place d good_d st snd named tasks_d free i b p l)
    where
      four : p < 4
      four = let h = jobs_four now i in omega arith

  pub comes : (i p : ℕ) → live now i p ≡ true → (p < jobs_of st i) ⊎ ((bit named i ≡ true) × (left now i p ≡ D t i))
  comes i p e = let b = below i p e in go (stems i p b.0 b.1)
    where
      go : Stems i p → (p < jobs_of st i) ⊎ ((bit named i ≡ true) × (left now i p ≡ D t i))
      go (old w) = inl w.among
      go (new w) = inr (w.named_now, w.ticks)

  -- and the other way round: one that was live before is live, and a named task has a new one
  pub stays : (i p : ℕ) → i < t.n → p < jobs_of st i → (live now i p ≡ true) × (left now i p ≡ left st i p)
  unfolding mid
  stays i p b l =
      let h = jobs_four st i in
      let e = not_new st named i p (λ n z. omega arith) in (
        Within.kept_live d good_d st snd named tasks_d free i (six i b) p (omega arith) e ∙ sound.lives i p b l,
        Within.kept_left d good_d st snd named tasks_d free i (six i b) p (omega arith) e,
      )

  pub starts : (i : ℕ) → bit named i ≡ true → (live now i (jobs_of st i) ≡ true) × (left now i (jobs_of st i) ≡ D t i)
  unfolding mid taking D task
  starts i e =
      let r = Within.room d good_d st snd named tasks_d free i e in
      let n = is_new_lem st named i e in (
        Within.new_live d good_d st snd named tasks_d free i (six i (tasks i e)) (jobs_of st i) (omega arith) n,
        Within.new_left d good_d st snd named tasks_d free i (six i (tasks i e)) (jobs_of st i) (omega arith) n,
      )

  -- ---- and after it
  module _ (chosen : List ℕ) (legal : Legal t now chosen) where
    abbrev pub after : State
    after = ended (worked t now named chosen)

    abbrev pub worked_on : State
    worked_on = worked t now named chosen

    same_ran : ran d good_d st snd named tasks_d free chosen ≡ worked_on
    unfolding ran mid
    same_ran = worked_taking t c now named chosen

    same_after : next d good_d st snd named tasks_d free chosen ≡ after
    unfolding next
    same_after = ap ended same_ran

    -- where none is missed each deadline is still to come
    pub kept_when : ((i : ℕ) → i < 16 → missed after i ≡ false) → (i q : ℕ) → i < t.n → q < jobs_of after i → 1 ≤ left after i q
    unfolding taking
    kept_when none i q b l =
        let k : q < jobs_of (next d good_d st snd named tasks_d free chosen) i = rw same_after l in
        let f = jobs_four after i in
        let e = ap (λ (s : State). deadline s i q) (sym same_after) ∙ Moving.next_deadline d good_d st snd named tasks_d free chosen i (six i b) q k in
        let g = (Within.mid_going d good_d st snd named tasks_d free i b (from d good_d st snd named tasks_d free chosen i q)
        (Moving.from_below d good_d st snd named tasks_d free chosen i b q k)).small in
        let w = ap (λ (s : State). s.clock) (sym same_after) ∙ Moving.next_clock d good_d st snd named tasks_d free chosen in
        let y = wrap_small (st.clock + 1) in
        not_missed after i (omega arith) (none i (six i b)) q (omega arith) (omega arith)
        (ap (λ (s : State). live s i q) (sym same_after) ∙ Moving.next_lives d good_d st snd named tasks_d free chosen i (six i b) q k)

    -- and then it is sound
    pub after_sound : ((i q : ℕ) → i < t.n → q < jobs_of after i → 1 ≤ left after i q) → Sound t after
    unfolding taking
    after_sound kept = taking_sound t c after (subst (Sound d) same_after (next_sound d good_d st snd named tasks_d free chosen
        (subst (λ (s : State). (i q : ℕ) → i < t.n → q < jobs_of s i → 1 ≤ left s i q) (sym same_after) kept)))

    pub after_wait : (i : ℕ) → i < t.n → wait after i ≡ pick (bit named i) (T t i - 1) (wait st i - 1)
    unfolding taking task T
    after_wait i b = ap (λ (s : State). wait s i) (sym same_after) ∙ Moving.next_wait d good_d st snd named tasks_d free chosen i (six i b)

    -- ---- the job at place q of task i afterwards: where it was within the tick, with a tick more left and as much more remaining as ran of it
    pub record From (i q : ℕ) : Type 0 where
      pub place : ℕ
      pub below : place < 4
      pub among : place < jobs_of now i
      pub lives : live now i place ≡ true
      pub less : left after i q + 1 ≡ left now i place
      pub ran_off : sum 16 (remaining after i q) + times_in i place (run_list chosen) ≡ sum 16 (remaining now i place)
      pub falls : (u : ℕ) → u < 16 → remaining after i q u ≤ remaining now i place u
      pub goes_on_lem : finishes worked_on i place ≡ false

    less_or_same : (b : Bool) (x y : ℕ) → x ≡ pick b (y - 1) y → x ≤ y
    less_or_same true x y e = omega arith
    less_or_same false x y e = omega arith

    from_next : (i q : ℕ) → i < t.n → q < jobs_of (next d good_d st snd named tasks_d free chosen) i → From i q
    unfolding mid taking
    from_next i q b l =
        let p = from d good_d st snd named tasks_d free chosen i q in
        let f = Moving.from_live d good_d st snd named tasks_d free chosen i (six i b) q l in
        let k = Moving.from_below d good_d st snd named tasks_d free chosen i b q l in
        let e = ap (λ (s : State). left s i q) (sym same_after) ∙ Moving.next_left d good_d st snd named tasks_d free chosen i b q l in
        let a = (Within.mid_going d good_d st snd named tasks_d free i b p k).ahead in
        let r = sum_same 16 (remaining after i q) (remaining (worked t now named chosen) i p)
        (λ u h. at_vertex u h ∙ sym (worked_remaining t now named chosen i (six i b) p f.0 u h)) in
        let s = Counting.split t now named chosen good.m_high legal i (six i b) p f.0 in
        record {
          place = p;
          below = f.0;
          among = k;
          lives = f.1;
          less = omega arith;
          ran_off = omega arith;
          falls = λ u h. less_or_same (is_in (64 * i + 16 * p + u) chosen) _ _ (at_vertex u h);
          goes_on_lem = ap (λ (s : State). finishes s i p) (sym same_ran) ∙ f.2;
        }
      where
        at_vertex : (u : ℕ) → u < 16 → remaining after i q u
            ≡ pick (is_in (64 * i + 16 * from d good_d st snd named tasks_d free chosen i q + u) chosen)
            (remaining now i (from d good_d st snd named tasks_d free chosen i q) u - 1) (remaining now i (from d good_d st snd named tasks_d free chosen i q) u)
        at_vertex u h = ap (λ (s : State). remaining s i q u) (sym same_after) ∙ Moving.next_remaining d good_d st snd named tasks_d free chosen i (six i b) q l u h

    pub comes_from : (i q : ℕ) → i < t.n → q < jobs_of after i → From i q
    comes_from i q b l = from_next i q b (rw same_after l)

    -- ---- a job that is live within the tick ends: its task is named as finished, and none afterwards has its ticks left; or it goes on with a tick less
    pub data Onwards (i p : ℕ) : Type 0 where
      ends : bit (finished worked_on) i ≡ true → ((q : ℕ) → q < jobs_of after i → left after i q ≡ left now i p - 1 → ⊥) → Onwards i p
      lives : (q : ℕ) → q < jobs_of after i → left after i q ≡ left now i p - 1 → Onwards i p

    named_done : (i p : ℕ) → i < t.n → p < 4 → finishes worked_on i p ≡ true → bit (finished worked_on) i ≡ true
    unfolding finished
    named_done i p b h f = bit_set 16 (λ i. any_place (finishes worked_on i)) i (six i b) ∙ place_any (finishes worked_on i) p h f

    -- one that does not finish goes on
    goes_on_as : (i p : ℕ) → live now i p ≡ true → finishes worked_on i p ≡ false → (q : ℕ) × (q < jobs_of after i) × (left after i q ≡ left now i p - 1)
    unfolding mid taking
    goes_on_as i p e f =
        let b = (below i p e).0 in
        let four = below_four i p e in
        let r = Moving.from_found d good_d st snd named tasks_d free chosen i (six i b) p four e (ap (λ (s : State). finishes s i p) same_ran ∙ f) in
        let l : r.0 < jobs_of after i = rw (sym same_after) r.1 in (
          r.0,
          l,
          ap (λ (s : State). left s i r.0) (sym same_after)
              ∙ Moving.next_left d good_d st snd named tasks_d free chosen i b r.0 r.1
              ∙ ap (λ (x : ℕ). left now i x - 1) r.2,
        )

    pub onward : (i p : ℕ) → live now i p ≡ true → Onwards i p
    unfolding mid taking
    onward i p e = go (finishes worked_on i p) refl
      where
        b : i < t.n
        b = (below i p e).0

        four : p < 4
        four = below_four i p e

        go : (f : Bool) → finishes worked_on i p ≡ f → Onwards i p
        go true f = ends
            (named_done i p b four f)
            (λ q l z.
            let w = comes_from i q b l in
            let x = w.less in
            let a = ahead i p e in
            let s : left now i w.place ≡ left now i p = omega arith in
            clash (ap (finishes worked_on i) (alone i w.place p w.lives e s) ∙ f) w.goes_on_lem)
        go false f = let r = goes_on_as i p e f in lives r.0 r.1 r.2

    -- of one that does not go on all that remained ran
    pub all_ran : (i p : ℕ) → live now i p ≡ true → ((q : ℕ) → q < jobs_of after i → left after i q ≡ left now i p - 1 → ⊥)
        → (u : ℕ) → u < 16 → 1 ≤ remaining now i p u → (remaining now i p u ≡ 1) × (is_in (64 * i + 16 * p + u) chosen ≡ true)
    unfolding mid taking
    all_ran i p e n u h some = go (finishes worked_on i p) refl
      where
        b : i < t.n
        b = (below i p e).0

        four : p < 4
        four = below_four i p e

        works : WorkKept worked_on
        works = worked_keep t now named chosen (Within.mid_works d good_d st snd named tasks_d free)

        one : (c : Bool) → is_in (64 * i + 16 * p + u) chosen ≡ c → pick c (remaining now i p u - 1) (remaining now i p u) ≡ 0
            → (remaining now i p u ≡ 1) × (is_in (64 * i + 16 * p + u) chosen ≡ true)
        one true q z = (omega (arith, some), q)
        one false q z = absurd (omega (arith, some))

        go : (f : Bool) → finishes worked_on i p ≡ f → (remaining now i p u ≡ 1) × (is_in (64 * i + 16 * p + u) chosen ≡ true)
        go true f =
            let q = sym (finish_test worked_on works i p (six i b) four) ∙ f in
            let z = nothing_is worked_on i p (both_true (live worked_on i p) (nothing_left worked_on i p) q).1 u h in
            one (is_in (64 * i + 16 * p + u) chosen) refl (sym (worked_remaining t now named chosen i (six i b) p four u h) ∙ z)
        go false f = let r = goes_on_as i p e f in absurd (n r.0 r.1 r.2)
