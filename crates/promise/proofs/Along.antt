-- ALONG A RUN of either kind. Before each tick the state is safe, its waits are those of true time, and each live job has the ticks left that true time
-- gives it since its release. Releases that are spaced then find their wait at 0, so the tick goes on, and it is so again.
use mathlib.Core.Path.{◌≡◌, refl, sym, ap, subst, ◌∙◌}
use mathlib.Core.Logic.{◌⊎◌, inl, inr, ⊎_elim}
use mathlib.Core.Bool.{Bool, true, false, cond}
use mathlib.Core.List.{List}
use Prim.Native.Nat.{ℕ, suc, ◌+◌, ◌*◌, ◌-◌, ◌^◌, ◌≤◌, ◌<◌}
use native.Mathlib.Omega.{arith}
use native.Mathlib.Decide.{dec_le}
use lib.ListN.{length, get_or}
use borrow.Author.Tests.{lt-ltb}
use Rattle.graph.specs.Words.{pick, bit, is_in}
use Rattle.graph.proofs.Facts.{row_at}
use Rattle.table.specs.declared.Table.{Table}
use Rattle.table.specs.declared.Outcome.TheVariants.{Read}
use Rattle.table.specs.Memory.{D, T}
use Rattle.table.specs.Reading.{read}
use Rattle.machine.specs.declared.Phase.TheVariants.{Running}
use Rattle.machine.specs.declared.State.{State}
use Rattle.machine.specs.declared.Triple.{Triple}
use Rattle.machine.specs.declared.Ticked.{Ticked}
use Rattle.machine.specs.States.{live, wait, jobs_of, remaining, left}
use Rattle.machine.specs.Steps.{age_in, vertex_in, released, worked, ended, finished, Legal}
use Rattle.machine.specs.Ticking.{nobody, triple_of, run_list, ticked}
use Rattle.machine.proofs.Clauses.{jobs_four}
use Rattle.machine.proofs.Places.{in_at}
use Rattle.machine.proofs.Index.{name_task, name_age, name_vertex, zeros_wait, zeros_jobs}
use Rattle.theory.proofs.Time.{clock, clock_last}
use Rattle.promise.proofs.Certified.{Certified}
use Rattle.promise.specs.Runs.{table_of, taking, Plan, Kind, Drawn, tick_at, state_at, mid_at, answer_at}
use Rattle.promise.specs.Demand3.{Since, Within, Lives, Stood}
use Rattle.promise.proofs.Count.{chosen_available, at_most}
use Rattle.promise.proofs.Moves.{opens, Going}
use Rattle.promise.proofs.OneTick as OneTick
use Rattle.promise.proofs.Safe as S
use Rattle.promise.proofs.Safe.{Safe, opened_safe}

-- what is true of the state before tick y
pub record Before (t : Table) (Also : Table → State → Type 0) (plan : Plan) (y : ℕ) (st : State) : Type 0 where
  pub also : Also t st
  pub safe : Safe t st
  pub waits : (i : ℕ) → i < t.n → wait st i ≡ clock (T t i) (λ a. bit (plan.rel a) i) y
  pub since : (i p : ℕ) → i < t.n → p < jobs_of st i → Since t plan.rel y i (left st i p)

-- the job of task i that was released at tick a is live before tick y
pub record Held (t : Table) (i a y : ℕ) (st : State) : Type 0 where
  pub place : ℕ
  pub among : place < jobs_of st i
  pub ticks : left st i place + y ≡ a + D t i

module _ (kind : Kind) (going : Going kind) (file : List ℕ) (well : (read file).outcome ≡ Read) (spare : ℕ → ℕ) (cert : Certified (table_of file) spare)
    (c : ℕ) (small : c < 2 ^ 32) (plan : Plan) where
  abbrev pub t : Table
  t = table_of file

  abbrev pub rel : ℕ → ℕ
  rel = plan.rel

  abbrev pub st : ℕ → State
  st y = state_at kind file c plan y

  abbrev pub Now : ℕ → Type 0
  Now y = Before t going.Also plan y (st y)

  -- just opened
  pub opened : Now 0
  unfolding state_at clock
  opened = rw (opens file well c) (record {
    also = going.first t cert.good c small;
    safe = opened_safe t cert.good c small;
    waits = λ i b. zeros_wait c Running i;
    since = λ i p b l. let z = zeros_jobs c Running i in absurd (omega arith);
  })

  -- ---- within tick y
  module _ (y : ℕ) (p : Now y) (tasks : (i : ℕ) → bit (rel y) i ≡ true → i < t.n)
      (apart : (i a : ℕ) → a < y → bit (rel a) i ≡ true → bit (rel y) i ≡ true → a + T t i ≤ y)
      (times : kind.Times t (plan.times y)) where
    -- releases that are spaced in true time find their wait at 0
    free : (i : ℕ) → bit (rel y) i ≡ true → wait (st y) i ≡ 0
    free i e = p.waits i (tasks i e) ∙ out (dec_le 1 (clock (T t i) (λ a. bit (rel a) i) y))
      where
        out : Dec (1 ≤ clock (T t i) (λ a. bit (rel a) i) y) → clock (T t i) (λ a. bit (rel a) i) y ≡ 0
        out (yes h) = let r = clock_last (T t i) (λ a. bit (rel a) i) y h in absurd (omega (arith, r.3, apart i r.0 r.1 r.2 e))
        out (no h) = omega arith

    drawn : Drawn t (plan.times y)
    drawn = going.drawn t (plan.times y) times

    abbrev now : State
    now = released (taking t (plan.times y)) (st y) (rel y)

    -- each live job, in true time
    since_now : (i q : ℕ) → live now i q ≡ true → Since t rel y i (left now i q)
    since_now i q e =
        let b = (OneTick.below t cert.good (st y) p.safe.sound (rel y) tasks free (plan.times y) drawn i q e).0 in
        ⊎_elim
        (λ l. subst (Since t rel y i) (sym (OneTick.stays t cert.good (st y) p.safe.sound (rel y) tasks free (plan.times y) drawn i q b l).1) (p.since i q b l))
        (λ n.
        let d = (cert.good.each i b).D_low in
        let z = n.1 in
        record { at = y; released = n.0; past = omega arith; ticks = omega arith; ahead = omega arith })
        (OneTick.comes t cert.good (st y) p.safe.sound (rel y) tasks free (plan.times y) drawn i q e)

    pub within : Within t spare rel y (mid_at kind file c plan y)
    unfolding mid_at
    within = record {
      chains = S.chains_fit t spare cert (st y) p.safe (rel y) tasks free (plan.times y) drawn;
      unfinished = S.longest_fits t spare cert (st y) p.safe (rel y) tasks free (plan.times y) drawn;
      since = since_now;
      apart = OneTick.apart t cert.good (st y) p.safe.sound (rel y) tasks free (plan.times y) drawn;
    }

    -- a job that is released is live, with D ticks left
    pub begins : (i : ℕ) → bit (rel y) i ≡ true → Lives t i y y (mid_at kind file c plan y)
    unfolding mid_at
    begins i e =
        let r = OneTick.starts t cert.good (st y) p.safe.sound (rel y) tasks free (plan.times y) drawn i e in
        record { place = jobs_of (st y) i; lives = r.0; ticks = omega (arith, r.1) }

    -- one that is live before the tick is live within it, and the other way round if it is older
    pub enters : (i a : ℕ) → i < t.n → Held t i a y (st y) → Lives t i a y (mid_at kind file c plan y)
    unfolding mid_at
    enters i a b h =
        let r = OneTick.stays t cert.good (st y) p.safe.sound (rel y) tasks free (plan.times y) drawn i h.place b h.among in
        record { place = h.place; lives = r.0; ticks = omega (arith, r.1, h.ticks) }

    pub was_held : (i a : ℕ) → a < y → Lives t i a y (mid_at kind file c plan y) → Held t i a y (st y)
    unfolding mid_at
    was_held i a l h =
        let b = (OneTick.below t cert.good (st y) p.safe.sound (rel y) tasks free (plan.times y) drawn i h.place h.lives).0 in
        let k = h.ticks in
        ⊎_elim
        (λ q. record {
          place = h.place;
          among = q;
          ticks = let r = (OneTick.stays t cert.good (st y) p.safe.sound (rel y) tasks free (plan.times y) drawn i h.place b q).1 in omega arith;
        })
        (λ n. let z = n.1 in absurd (omega arith))
        (OneTick.comes t cert.good (st y) p.safe.sound (rel y) tasks free (plan.times y) drawn i h.place h.lives)

    -- its deadline is still to come
    pub ahead : (i a : ℕ) → Lives t i a y (mid_at kind file c plan y) → y < a + D t i
    unfolding mid_at
    ahead i a h =
        let k = OneTick.ahead t cert.good (st y) p.safe.sound (rel y) tasks free (plan.times y) drawn i h.place h.lives in
        omega (arith, h.ticks)

    -- ---- and after it
    module _ (legal : Legal t (mid_at kind file c plan y) (plan.choice y)) where
      law : Legal t now (plan.choice y)
      unfolding mid_at
      law = legal

      abbrev next : State
      next = ended (worked t now (rel y) (plan.choice y))

      tick_is : tick_at kind file c plan y (st y) ≡ ticked 0 255 (plan.choice y) (finished (worked t now (rel y) (plan.choice y))) next
      unfolding tick_at
      tick_is =
          going.goes file well cert.good (st y) p.also (rel y) tasks free (plan.times y) times (plan.choice y)
          ∙ S.goes t spare cert (st y) p.safe (rel y) tasks free (plan.times y) drawn (plan.choice y) law

      state_is : st (suc y) ≡ next
      unfolding state_at ticked
      state_is = ap (λ (z : Ticked). z.state) tick_is

      pub answered : (answer_at kind file c plan y).reply.number ≡ 0
      unfolding answer_at ticked
      answered = ap (λ (z : Ticked). z.answer.reply.number) tick_is

      done_is : (answer_at kind file c plan y).finished ≡ finished (worked t now (rel y) (plan.choice y))
      unfolding answer_at ticked
      done_is = ap (λ (z : Ticked). z.answer.finished) tick_is

      -- a job that is still live has a tick less
      since_next : (i q : ℕ) → i < t.n → q < jobs_of next i → Since t rel (suc y) i (left next i q)
      since_next i q b l =
          let f = OneTick.comes_from t cert.good (st y) p.safe.sound (rel y) tasks free (plan.times y) drawn (plan.choice y) law i q b l in
          let a = S.kept t spare cert (st y) p.safe (rel y) tasks free (plan.times y) drawn (plan.choice y) law i q b l in
          let z = f.less in
          let w = since_now i f.place f.lives in
          let k = w.ticks in
          let o = w.past in
          record { at = w.at; released = w.released; past = omega arith; ticks = omega arith; ahead = omega arith }

      also_next : going.Also t next
      also_next = going.again t cert.good (st y) p.also (rel y) tasks free (plan.times y) times (plan.choice y)
          (λ k e. (chosen_available t now (plan.choice y) law k e).1)
          (S.kept t spare cert (st y) p.safe (rel y) tasks free (plan.times y) drawn (plan.choice y) law)

      falls : (b : Bool) (m w : ℕ) → pick b (m - 1) (w - 1) ≡ cond b m w - 1
      falls true m w = refl
      falls false m w = refl

      pub moves : Now (suc y)
      unfolding clock
      moves = subst (Before t going.Also plan (suc y)) (sym state_is) (record {
        also = also_next;
        safe = S.after_safe t spare cert (st y) p.safe (rel y) tasks free (plan.times y) drawn (plan.choice y) law;
        waits = λ i b.
            OneTick.after_wait t cert.good (st y) p.safe.sound (rel y) tasks free (plan.times y) drawn (plan.choice y) law i b
            ∙ ap (λ (w : ℕ). pick (bit (rel y) i) (T t i - 1) (w - 1)) (p.waits i b)
            ∙ falls (bit (rel y) i) (T t i) (clock (T t i) (λ a. bit (rel a) i) y);
        since = since_next;
      })

      -- ---- a job that is live within the tick ends, its task named as finished, and is there no more; or it is there afterwards
      pub onward : (i a : ℕ) → Lives t i a y (mid_at kind file c plan y)
          → ((bit (answer_at kind file c plan y).finished i ≡ true) × (Held t i a (suc y) (st (suc y)) → ⊥)) ⊎ Held t i a (suc y) (st (suc y))
      unfolding mid_at
      onward i a h = rw (state_is, done_is) (go (OneTick.onward t cert.good (st y) p.safe.sound (rel y) tasks free (plan.times y) drawn (plan.choice y) law i h.place h.lives))
        where
          k : left now i h.place + y ≡ a + D t i
          k = h.ticks

          less : 1 ≤ left now i h.place
          less = OneTick.ahead t cert.good (st y) p.safe.sound (rel y) tasks free (plan.times y) drawn i h.place h.lives

          go : OneTick.Onwards t cert.good (st y) p.safe.sound (rel y) tasks free (plan.times y) drawn (plan.choice y) law i h.place
              → ((bit (finished (worked t now (rel y) (plan.choice y))) i ≡ true) × (Held t i a (suc y) next → ⊥)) ⊎ Held t i a (suc y) next
          go (OneTick.ends f n) = inl (f, λ z. n z.place z.among (let e = z.ticks in omega (arith, k, less)))
          go (OneTick.lives q l e) = inr (record { place = q; among = l; ticks = omega (arith, k, less) })

      -- one that is there no more ran out: all that remained of it stands in the run list
      ran_is : (answer_at kind file c plan y).ran ≡ run_list (plan.choice y)
      unfolding answer_at ticked
      ran_is = ap (λ (z : Ticked). z.answer.ran) tick_is

      stood : (i p u : ℕ) → p < 4 → u < 16 → is_in (64 * i + 16 * p + u) (plan.choice y) ≡ true → Stood (answer_at kind file c plan y).ran i p u
      unfolding run_list triple_of
      stood i p u h l e =
          let r = in_at (plan.choice y) (64 * i + 16 * p + u) e in
          let k = r.1 in
          let most = at_most t now (plan.choice y) law in
          let high = cert.good.m_high in
          let b : r.0 < 8 = omega arith in
          record {
            at = r.0;
            below = b;
            there =
                ap (λ (z : List Triple). get_or z r.0 nobody) ran_is
                ∙ row_at 8 _ r.0 nobody b
                ∙ ap (λ (q : Bool). pick q (triple_of (get_or (plan.choice y) r.0 0)) nobody) (lt-ltb r.0 (length (plan.choice y)) k)
                ∙ ap triple_of r.2
                ∙ ap (λ (x : ℕ). record { task = x; age = age_in (64 * i + 16 * p + u); vertex = vertex_in (64 * i + 16 * p + u) }) (name_task i p u h l)
                ∙ ap (λ (x : ℕ). record { task = i; age = x; vertex = vertex_in (64 * i + 16 * p + u) }) (name_age i p u h l)
                ∙ ap (λ (x : ℕ). record { task = i; age = p; vertex = x }) (name_vertex i p u h l);
          }

      pub ran_out : (i a : ℕ) → (Held t i a (suc y) (st (suc y)) → ⊥) → (h : Lives t i a y (mid_at kind file c plan y)) (u : ℕ) → u < 16
          → 1 ≤ remaining (mid_at kind file c plan y) i h.place u
          → (remaining (mid_at kind file c plan y) i h.place u ≡ 1) × Stood (answer_at kind file c plan y).ran i h.place u
      unfolding mid_at
      ran_out i a none h u b some =
          let r = OneTick.all_ran t cert.good (st y) p.safe.sound (rel y) tasks free (plan.times y) drawn (plan.choice y) law i h.place h.lives left_out u b some in
          (r.0, stood i h.place u four b r.1)
        where
          four : h.place < 4
          four =
              let k = (OneTick.below t cert.good (st y) p.safe.sound (rel y) tasks free (plan.times y) drawn i h.place h.lives).1 in
              let f = jobs_four now i in
              omega arith

          less : 1 ≤ left now i h.place
          less = OneTick.ahead t cert.good (st y) p.safe.sound (rel y) tasks free (plan.times y) drawn i h.place h.lives

          held : Held t i a (suc y) next → ⊥
          held = rw state_is at none

          left_out : (q : ℕ) → q < jobs_of next i → left next i q ≡ left now i h.place - 1 → ⊥
          left_out q l e = held (record { place = q; among = l; ticks = let k = h.ticks in omega (arith, less) })

      -- one that is there afterwards was live within the tick
      pub back : (i a : ℕ) → i < t.n → Held t i a (suc y) (st (suc y)) → Lives t i a y (mid_at kind file c plan y)
      unfolding mid_at
      back i a b h = go (rw state_is at h)
        where
          go : Held t i a (suc y) next → Lives t i a y now
          go z =
              let f = OneTick.comes_from t cert.good (st y) p.safe.sound (rel y) tasks free (plan.times y) drawn (plan.choice y) law i z.place b z.among in
              let less = OneTick.ahead t cert.good (st y) p.safe.sound (rel y) tasks free (plan.times y) drawn i f.place f.lives in
              let e = f.less in
              record { place = f.place; lives = f.lives; ticks = let k = z.ticks in omega arith }
