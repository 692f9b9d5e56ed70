-- The clock does not matter: from idle machines at two clocks the same runs are legal, with the same answers. For a tick asks of a clock and of deadlines
-- only how many ticks are left, and each tick takes one off those.
use mathlib.Core.Path.{◌≡◌, refl, sym, ap, ap₂, subst, ◌∙◌}
use mathlib.Core.Logic.{inl, inr, ⊎_elim}
use mathlib.Core.Bool.{Bool, true, false, ◌&&◌, ◌||◌, not}
use mathlib.Core.List.{List, [], ◌∷◌}
use Prim.Native.Nat.{ℕ, ◌+◌, ◌*◌, ◌-◌, ◌/◌, ◌%◌, ◌^◌, ◌<◌, min}
use native.Mathlib.Omega.{arith}
use native.Mathlib.Decide.{dec_lt}
use lib.ListN.{length, get_or}
use lib.Dec.{ltb, eqb}
use borrow.Author.Tests.{eqb-true}
use Rattle.graph.specs.Words.{flag, pick, bit, sum, all, row, those_below, is_in, first_or, lowest_or}
use Rattle.graph.specs.Graph.{done}
use Rattle.graph.proofs.Facts.{clash, both_true, below_pass, sum_same}
use Rattle.graph.proofs.Members.{below_same}
use Rattle.table.specs.declared.Table.{Table}
use Rattle.table.specs.declared.Outcome.TheVariants.{Read}
use Rattle.table.specs.Memory.{vertices, edge_in, T, cost}
use Rattle.table.specs.Reading.{read}
use Rattle.table.specs.Good.{GoodTable}
use Rattle.table.proofs.Sound.{read_good}
use Rattle.machine.specs.declared.Phase.{Phase}
use Rattle.machine.specs.declared.Phase.TheVariants.{Stopped}
use Rattle.machine.specs.declared.State.{State}
use Rattle.machine.specs.declared.Ticked.{Ticked}
use Rattle.machine.specs.States.{live, wait, deadline, jobs_of, remaining, work_of, left, zeros}
use Rattle.machine.specs.Steps.{task_in, age_in, vertex_in, name_at, is_new, released, clear, available, availables, left_in, run_of, worked, finishes, going_on, closed, ended, missed, Legal}
use Rattle.machine.specs.Fitting.{fits}
use Rattle.machine.specs.Ticking.{ticked, judged, advance_to, advance}
use Rattle.machine.proofs.Places.{any_place_lem}
use Rattle.machine.proofs.Index.{not_missed, not_now, wrap_small, age_below, released_live, released_wait, worked_live, worked_wait, going, ended_live, ended_none, ended_wait, zeros_live, zeros_wait}
use Rattle.machine.proofs.Standing.{available_is}
use Rattle.machine.proofs.Sound.{Sound, stands_sound}
use Rattle.machine.proofs.Within.{mid, kept_left, kept_live, new_left, mid_going}
use Rattle.machine.proofs.Moving.{next, ran, from, next_clock, next_deadline, next_left, next_past, from_live, from_below, none_unused}
use Rattle.machine.proofs.Cases.{too_soon, Admitted}
use Rattle.machine.proofs.Fitted.{InRange, fits_stands}
use Rattle.journal.specs.Runs.{Tick, tick_with, answer_of, LegalTick, LegalRun, last_answer}
use Rattle.machine.proofs.Filling.{row_ext}
use Rattle.journal.proofs.Ticks.{named_tasks, named_free, admitted_tick, legal_admitted, keeps_fitting}

-- TIMELESS: all but the clock and the deadlines is the same
pub record Timeless (a b : State) : Type 0 where
  pub phase : a.phase ≡ b.phase
  pub rest : a.remaining ≡ b.remaining
  pub work : a.work ≡ b.work
  pub lives : (i p : ℕ) → i < 16 → p < 4 → live a i p ≡ live b i p
  pub waits : (i : ℕ) → i < 16 → wait a i ≡ wait b i

-- ALIKE: besides, live jobs have the same ticks left
pub record Alike (a b : State) : Type 0 where
  pub timeless : Timeless a b
  pub ticks : (i p : ℕ) → i < 16 → p < 4 → live a i p ≡ true → left a i p ≡ left b i p

other_way : (a b : State) → Alike a b → Alike b a
other_way a b s = record {
  timeless = record {
    phase = sym s.timeless.phase;
    rest = sym s.timeless.rest;
    work = sym s.timeless.work;
    lives = λ i p h l. sym (s.timeless.lives i p h l);
    waits = λ i h. sym (s.timeless.waits i h);
  };
  ticks = λ i p h l e. sym (s.ticks i p h l (s.timeless.lives i p h l ∙ e));
}

-- states of zeros are alike
pub zeros_alike : (c d : ℕ) (p : Phase) → Alike (zeros c p) (zeros d p)
unfolding zeros
zeros_alike c d f = record {
  timeless = record {
    phase = refl;
    rest = refl;
    work = refl;
    lives = λ i p h l. zeros_live c f i p ∙ sym (zeros_live d f i p);
    waits = λ i h. zeros_wait c f i ∙ sym (zeros_wait d f i);
  };
  ticks = λ i p h l e. absurd (clash e (zeros_live c f i p));
}

-- a live job of one misses if it does of the other
miss_carries : (a b : State) → Alike a b → a.clock < 2 ^ 32 → b.clock < 2 ^ 32 → (i : ℕ) → i < 16
    → ((p : ℕ) → p < 4 → live a i p ≡ true → deadline a i p < 2 ^ 32) → missed b i ≡ true → missed a i ≡ true
unfolding missed left
miss_carries a b s ca cb i h d m = go (missed a i) refl
  where
    go : (c : Bool) → missed a i ≡ c → missed a i ≡ true
    go true e = e
    go false e =
        let r = any_place_lem (λ p. live b i p && eqb (deadline b i p) b.clock) m in
        let p = r.0 in
        let x = both_true (live b i p) (eqb (deadline b i p) b.clock) r.2 in
        let l = s.timeless.lives i p h r.1 ∙ x.0 in
        let k = not_missed a i ca e p r.1 (d p r.1 l) l in
        let z = s.ticks i p h r.1 l in
        absurd (not_now (deadline b i p) b.clock cb (omega arith) (eqb-true (deadline b i p) b.clock x.1))

-- ---- what depends on the remaining, on the work and on who lives
module _ (a b : State) (same : Timeless a b) where
  jobs_same : (i : ℕ) → i < 16 → jobs_of a i ≡ jobs_of b i
  unfolding jobs_of
  jobs_same i h = sum_same 4 _ _ (λ p l. ap flag (same.lives i p h l))

  new_same : (named i p : ℕ) → i < 16 → is_new a named i p ≡ is_new b named i p
  unfolding is_new
  new_same named i p h = ap (λ (n : ℕ). bit named i && eqb p n) (jobs_same i h)

  going_same : (i : ℕ) → i < 16 → going_on a i ≡ going_on b i
  unfolding going_on finishes work_of
  going_same i h = below_same 4 _ _ (λ p l.
      ap (λ (w : List ℕ). live a i p && not (live a i p && eqb (get_or w (16 * p + i) 0) 0)) same.work
      ∙ ap (λ (c : Bool). c && not (c && eqb (get_or b.work (16 * p + i) 0) 0)) (same.lives i p h l))

  closed_same : (i q : ℕ) (f : ℕ → ℕ) (none : ℕ) → i < 16 → closed a i q f none ≡ closed b i q f none
  unfolding closed
  closed_same i q f none h = ap (λ (l : List ℕ). pick (ltb q (length l)) (f (get_or l q 0)) none) (going_same i h)

  ended_timeless : Timeless (ended a) (ended b)
  unfolding ended remaining work_of
  ended_timeless = record {
    phase = same.phase;
    rest = row_ext 1024 0 _ _ (λ k h.
        ap (λ (l : List ℕ). closed a (k / 16 % 16) (k / 256) (λ p. get_or l (256 * p + 16 * (k / 16 % 16) + k % 16) 0) 0) same.rest
        ∙ closed_same (k / 16 % 16) (k / 256) _ 0 (omega arith));
    work = row_ext 64 0 _ _ (λ s h.
        ap (λ (l : List ℕ). closed a (s % 16) (s / 16) (λ p. get_or l (16 * p + s % 16) 0) 0) same.work
        ∙ closed_same (s % 16) (s / 16) _ 0 (omega arith));
    lives = λ i q h l.
        let g = ap length (going_same i h) in
        elim (dec_lt q (going a i)) [
          | yes k ↦ ended_live a i h q l k ∙ sym (ended_live b i h q l (omega arith))
          | no k ↦ ended_none a i h q l (omega arith) ∙ sym (ended_none b i h q l (omega arith))
        ];
    waits = λ i h. ended_wait a i h ∙ same.waits i h ∙ sym (ended_wait b i h);
  }

  module _ (t : Table) (named : ℕ) where
    released_timeless : Timeless (released t a named) (released t b named)
    unfolding released
    released_timeless = record {
      phase = same.phase;
      rest = row_ext 1024 0 _ _ (λ k h.
          ap₂ (λ (c : Bool) (l : List ℕ). pick c (get_or t.costs (k % 256) 0) (get_or l k 0)) (new_same named (k / 16 % 16) (k / 256) (omega arith)) same.rest);
      work = row_ext 64 0 _ _ (λ s h.
          ap₂ (λ (c : Bool) (l : List ℕ). pick c (sum 16 (cost t (s % 16))) (get_or l s 0)) (new_same named (s % 16) (s / 16) (omega arith)) same.work);
      lives = λ i p h l.
          released_live t a named i h p l
          ∙ ap₂ (λ (c d : Bool). pick c true d) (new_same named i p h) (same.lives i p h l)
          ∙ sym (released_live t b named i h p l);
      waits = λ i h. released_wait t a named i h ∙ same.waits i h ∙ sym (released_wait t b named i h);
    }

    worked_timeless : (chosen : List ℕ) → Timeless (worked t a named chosen) (worked t b named chosen)
    unfolding worked run_of remaining
    worked_timeless chosen = record {
      phase = same.phase;
      rest = ap (λ (l : List ℕ). row 1024 (λ k. pick (is_in (name_at k) chosen) (get_or l k 0 - 1) (get_or l k 0))) same.rest;
      work = ap₂ (λ (w r : List ℕ). row 64 (λ s.
          get_or w s 0 - sum 16 (λ u. flag (is_in (64 * (s % 16) + 16 * (s / 16) + u) chosen && ltb 0 (get_or r (256 * (s / 16) + 16 * (s % 16) + u) 0)))))
          same.work same.rest;
      lives = λ i p h l. worked_live t a named chosen i h p ∙ same.lives i p h l ∙ sym (worked_live t b named chosen i h p);
      waits = λ i h.
          worked_wait t a named chosen i h ∙ ap (λ (w : ℕ). pick (bit named i) (T t i - 1) (w - 1)) (same.waits i h)
          ∙ sym (worked_wait t b named chosen i h);
    }

module _ (t : Table) (a b : State) (same : Alike a b) where
  same_available : (k : ℕ) → k < 1024 → available t a k ≡ available t b k
  unfolding available clear remaining task_in
  same_available k h =
      ap (λ (c : Bool). c && ltb 0 (get_or a.remaining (256 * age_in k + 16 * (k / 64) + vertex_in k) 0)
      && all (vertices t (k / 64)) (λ w. not (edge_in t (k / 64) w (vertex_in k))
      || done (vertices t (k / 64)) (edge_in t (k / 64)) (λ u. get_or a.remaining (256 * age_in k + 16 * (k / 64) + u) 0) w))
      (same.timeless.lives (k / 64) (age_in k) (omega arith) (age_below k))
      ∙ ap (λ (l : List ℕ). live b (k / 64) (age_in k) && ltb 0 (get_or l (256 * age_in k + 16 * (k / 64) + vertex_in k) 0)
      && all (vertices t (k / 64)) (λ w. not (edge_in t (k / 64) w (vertex_in k))
      || done (vertices t (k / 64)) (edge_in t (k / 64)) (λ u. get_or l (256 * age_in k + 16 * (k / 64) + u) 0) w)) same.timeless.rest

  same_availables : availables t a ≡ availables t b
  unfolding availables
  same_availables = below_same 1024 (available t a) (available t b) same_available

  ticks_of : (k : ℕ) → is_in k (availables t a) ≡ true → left_in a k ≡ left_in b k
  unfolding availables left_in task_in
  ticks_of k h =
      let p = below_pass 1024 (available t a) k h in
      let l = p.0 in
      same.ticks (k / 64) (age_in k) (omega arith) (age_below k) (available_is t a k p.1).lives

  same_legal : (chosen : List ℕ) → Legal t a chosen → Legal t b chosen
  same_legal chosen l = record {
    distinct = l.distinct;
    number = l.number ∙ ap (λ (z : List ℕ). min t.m (length z)) same_availables;
    only = λ k h. sym (ap (is_in k) same_availables) ∙ l.only k h;
    first = λ k j h n c.
        let k-in = ap (is_in k) same_availables ∙ h in
        let f = l.first k j k-in n c in
        let x = ticks_of k k-in in
        let y = ticks_of j (l.only j c) in
        omega arith;
  }

-- ---- one tick
module _ (t : Table) (good : GoodTable t) (named : ℕ) (tasks : (i : ℕ) → bit named i ≡ true → i < t.n)
    (a : State) (sa : Sound t a) (fa : (i : ℕ) → bit named i ≡ true → wait a i ≡ 0)
    (b : State) (sb : Sound t b) (fb : (i : ℕ) → bit named i ≡ true → wait b i ≡ 0) (same : Alike a b) where
  abbrev ma : State
  ma = mid t good a sa named tasks fa

  abbrev mb : State
  mb = mid t good b sb named tasks fb

  mid_alike : Alike ma mb
  unfolding mid
  mid_alike = record { timeless = released_timeless a b same.timeless t named; ticks = λ i p h l e. ticks_by (is_new a named i p) i p refl h l e }
    where
      ticks_by : (c : Bool) (i p : ℕ) → is_new a named i p ≡ c → i < 16 → p < 4 → live ma i p ≡ true → left ma i p ≡ left mb i p
      ticks_by true i p n h l e =
          new_left t good a sa named tasks fa i h p l n
          ∙ sym (new_left t good b sb named tasks fb i h p l (sym (new_same a b same.timeless named i p h) ∙ n))
      ticks_by false i p n h l e =
          kept_left t good a sa named tasks fa i h p l n
          ∙ same.ticks i p h l (sym (kept_live t good a sa named tasks fa i h p l n) ∙ e)
          ∙ sym (kept_left t good b sb named tasks fb i h p l (sym (new_same a b same.timeless named i p h) ∙ n))

  -- the same choices are legal
  pub legal_too : (chosen : List ℕ) → Legal t (released t a named) chosen → Legal t (released t b named) chosen
  unfolding mid
  legal_too chosen l = same_legal t (released t a named) (released t b named) mid_alike chosen l

  module _ (chosen : List ℕ) where
    abbrev na : State
    na = next t good a sa named tasks fa chosen

    abbrev nb : State
    nb = next t good b sb named tasks fb chosen

    ran_timeless : Timeless (worked t ma named chosen) (worked t mb named chosen)
    ran_timeless = worked_timeless ma mb mid_alike.timeless t named chosen

    next_timeless : Timeless na nb
    unfolding next ran
    next_timeless = ended_timeless (worked t ma named chosen) (worked t mb named chosen) ran_timeless

    -- a live job stood at the same place within the tick
    same_from : (i q : ℕ) → i < 16 → from t good a sa named tasks fa chosen i q ≡ from t good b sb named tasks fb chosen i q
    unfolding from ran
    same_from i q h = ap (λ (l : List ℕ). get_or l q 0) (going_same (worked t ma named chosen) (worked t mb named chosen) ran_timeless i h)

    -- a live job is one of a task below n, at one of its first places
    live_place : (i q : ℕ) → i < 16 → q < 4 → live na i q ≡ true → (i < t.n) × (q < jobs_of na i)
    live_place i q h l e =
        let first : q < jobs_of na i = elim (dec_lt q (jobs_of na i)) [
          | yes k ↦ k
          | no k ↦ absurd (clash e (next_past t good a sa named tasks fa chosen i h q (omega arith) l).idles)
        ] in
        (elim (dec_lt i t.n) [ yes k ↦ k | no k ↦ let z = none_unused t good a sa named tasks fa chosen i (omega arith) h in absurd (omega arith) ], first)

    next_alike : Alike na nb
    next_alike = record {
      timeless = next_timeless;
      ticks = λ i q h l e.
          let x = live_place i q h l e in
          let f = from_live t good a sa named tasks fa chosen i h q x.1 in
          let g = jobs_same na nb next_timeless i h in
          let y : q < jobs_of nb i = let z = x.1 in omega arith in
          next_left t good a sa named tasks fa chosen i x.0 q x.1
          ∙ ap (λ (k : ℕ). k - 1) (mid_alike.ticks i _ h f.0 f.1 ∙ ap (left mb i) (same_from i q h))
          ∙ sym (next_left t good b sb named tasks fb chosen i x.0 q y);
    }

    clock_small : (na.clock < 2 ^ 32) × (nb.clock < 2 ^ 32)
    clock_small =
        let p = next_clock t good a sa named tasks fa chosen in
        let q = next_clock t good b sb named tasks fb chosen in
        let x = wrap_small (a.clock + 1) in
        let y = wrap_small (b.clock + 1) in
        (omega arith, omega arith)

    deadline_small : (i : ℕ) → i < 16 → (q : ℕ) → q < 4 → live na i q ≡ true → deadline na i q < 2 ^ 32
    deadline_small i h q l e =
        let x = live_place i q h l e in
        let f = from_below t good a sa named tasks fa chosen i x.0 q x.1 in
        let g = (mid_going t good a sa named tasks fa i x.0 _ f).small in
        let z = next_deadline t good a sa named tasks fa chosen i h q x.1 in
        omega arith

    pub miss_too : (i : ℕ) → i < 16 → missed nb i ≡ true → missed na i ≡ true
    miss_too i h m = miss_carries na nb next_alike clock_small.0 clock_small.1 i h (deadline_small i h) m

-- so one tick: it answers the same and leads to states that are alike
pub record Same (a b : Ticked) : Type 0 where
  pub answer : answer_of a ≡ answer_of b
  pub states : Alike a.state b.state

judged_same : (a b : State) (chosen : List ℕ) (da db : ℕ) → Alike a b → ((i : ℕ) → i < 16 → missed a i ≡ missed b i) → Same (judged chosen da a) (judged chosen db b)
unfolding judged lowest_or first_or ticked answer_of
judged_same a b chosen da db s m = subst (λ (l : List ℕ). Same (judged chosen da a) (second l)) (below_same 16 (missed a) (missed b) m) (go (those_below 16 (missed a)))
  where
    first : List ℕ → Ticked
    first l = first_or l (λ i. ticked 34 i chosen da (zeros a.clock (Stopped i))) (ticked 0 255 chosen da a)

    second : List ℕ → Ticked
    second l = first_or l (λ i. ticked 34 i chosen db (zeros b.clock (Stopped i))) (ticked 0 255 chosen db b)

    go : (l : List ℕ) → Same (first l) (second l)
    go [] = record { answer = refl; states = s }
    go (i ∷ l) = record { answer = refl; states = zeros_alike a.clock b.clock (Stopped i) }

module _ (t : Table) (good : GoodTable t) (named : ℕ) (tasks : (i : ℕ) → bit named i ≡ true → i < t.n)
    (a : State) (sa : Sound t a) (fa : (i : ℕ) → bit named i ≡ true → wait a i ≡ 0)
    (b : State) (sb : Sound t b) (fb : (i : ℕ) → bit named i ≡ true → wait b i ≡ 0) (same : Alike a b)
    (chosen : List ℕ) (legal : Legal t (released t a named) chosen) where
  pub same_tick : Same (advance t a named chosen) (advance t b named chosen)
  unfolding advance advance_to next ran mid
  same_tick = judged_same _ _ chosen _ _ (next_alike t good named tasks a sa fa b sb fb same chosen)
      (λ i h. ext _ _ (miss_too t good named tasks a sa fa b sb fb same chosen i h)
      (miss_too t good named tasks b sb fb a sa fa (other_way a b same) chosen i h))
    where
      ext : (x y : Bool) → (y ≡ true → x ≡ true) → (x ≡ true → y ≡ true) → x ≡ y
      ext true y f g = sym (g refl)
      ext false true f g = f refl
      ext false false f g = refl

-- ---- runs of a file that is read
module _ (file : List ℕ) (well : (read file).outcome ≡ Read) where
  abbrev t : Table
  t = (read file).table

  abbrev Fit : State → Type 0
  Fit st = (fits t st ≡ true) × InRange st

  module _ (a b : State) (fa : Fit a) (fb : Fit b) (same : Alike a b) (x : Tick) (l : LegalTick file a x) where
    ok_a : Admitted (λ u s. x.chosen) t a x.named
    ok_a = legal_admitted file well a x l

    ok_b : Admitted (λ u s. x.chosen) t b x.named
    unfolding too_soon
    ok_b = record {
      fitting = fb.0;
      running = sym same.timeless.phase ∙ ok_a.running;
      tasks = ok_a.tasks;
      free = λ i h. ap (λ (w : ℕ). bit x.named i && ltb 0 w) (sym (same.timeless.waits i (sixteen i h))) ∙ ok_a.free i h;
    }
      where
        sixteen : (i : ℕ) → i < t.n → i < 16
        sixteen i h = let g = (read_good file well).n_high in omega arith

    tasks : (i : ℕ) → bit x.named i ≡ true → i < t.n
    tasks = named_tasks (λ u s. x.chosen) t a x.named l.bits ok_a

    free : (st : State) → Admitted (λ u s. x.chosen) t st x.named → (i : ℕ) → bit x.named i ≡ true → wait st i ≡ 0
    free st ok = named_free (λ u s. x.chosen) t st x.named l.bits ok

    sound : (st : State) → Fit st → Admitted (λ u s. x.chosen) t st x.named → Sound t st
    sound st f ok = stands_sound t st (fits_stands t (read_good file well) st f.0 ok.running f.1)

    ticks_same : Same (tick_with file a x) (tick_with file b x)
    ticks_same = subst (λ (z : Ticked). Same z (tick_with file b x)) (sym (admitted_tick file well a x ok_a))
        (subst (λ (z : Ticked). Same (advance t a x.named x.chosen) z) (sym (admitted_tick file well b x ok_b))
        (same_tick t (read_good file well) x.named tasks a (sound a fa ok_a) (free a ok_a) b (sound b fb ok_b) (free b ok_b) same x.chosen l.choice))

    legal_other : LegalTick file b x
    legal_other = record {
      bits = l.bits;
      taken = ⊎_elim (λ e. inl (sym ticks_same.answer ∙ e)) (λ e. inr (sym ticks_same.answer ∙ e)) l.taken;
      choice = legal_too t (read_good file well) x.named tasks a (sound a fa ok_a) (free a ok_a) b (sound b fb ok_b) (free b ok_b) same x.chosen l.choice;
    }

  -- A RUN that is legal from one is legal from the other, and its last answer is the same
  pub run_too : (run : List Tick) (a b : State) (was : ℕ) → Fit a → Fit b → Alike a b → LegalRun file a run
      → LegalRun file b run × (last_answer file a was run ≡ last_answer file b was run)
  unfolding LegalRun last_answer
  run_too [] a b was fa fb same l = (tt, refl)
  run_too (x ∷ run) a b was fa fb same l =
      let o = legal_other a b fa fb same x l.0 in
      let k = ticks_same a b fa fb same x l.0 in
      let ga = keeps_fitting file well a x fa.0 fa.1 l.0.bits l.0.choice in
      let gb = keeps_fitting file well b x fb.0 fb.1 o.bits o.choice in
      let r = run_too run (tick_with file a x).state (tick_with file b x).state (answer_of (tick_with file a x)) ga gb k.states l.1 in
      ((o, r.0), r.1 ∙ ap (λ (n : ℕ). last_answer file (tick_with file b x).state n run) k.answer)
