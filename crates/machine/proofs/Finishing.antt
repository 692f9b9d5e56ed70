-- WHEN A JOB IS FINISHED (document 02, M-103): nothing remains of it exactly when all its vertices are done; one whose costs are all 0 finishes
-- in its release tick, for its stored work is 0 from the first; and no vertex runs while something remains of one before it, direct or not, for such a
-- vertex is not available.
use Rattle.std.proofs.Common.{◌≡◌, ℕ, zero, suc, ◌+◌, ◌-◌, ◌*◌, ◌<◌, ◌≤◌, Bool, true, false, ◌&&◌, eqb, ◌⊎◌, List, sym, refl, ap, ◌∙◌, subst, ⊎_elim, arith, lt-ltb, eq-eqb}
use native.Mathlib.Decide.{dec_le, dec_lt}
use Rattle.graph.specs.Words.{pick, bit, sum, all, is_in}
use Rattle.graph.specs.Graph.{Path, done}
use Rattle.graph.proofs.Facts.{clash, and_true, sum_none, below_pass}
use Rattle.graph.proofs.Cycle.{Last, last}
use Rattle.graph.proofs.Sets.{bit_set}
use Rattle.graph.proofs.Done.{done_zero, all_done_lem, before_done}
use Rattle.table.specs.declared.Outcome.TheVariants.{Read}
use Rattle.table.specs.declared.Table.{Table}
use Rattle.table.specs.Memory.{vertices, succ, edge_in, cost}
use Rattle.table.specs.Good.{GoodTable}
use Rattle.table.specs.Reading.{read}
use Rattle.table.proofs.Sound.{read_good}
use Rattle.machine.specs.declared.Phase.TheVariants.{Running, Stopped}
use Rattle.machine.specs.declared.State.{State}
use Rattle.machine.specs.declared.Ticked.{Ticked}
use Rattle.machine.specs.States.{live, wait, jobs_of, remaining, work_of, zeros}
use Rattle.machine.specs.Steps.{is_new, released, availables, available, worked, finishes, any_place, finished, own_choice, Legal}
use Rattle.machine.specs.Fitting.{nothing_left, fits}
use Rattle.machine.specs.Ticking.{ticked, refuse, tick_on, tick}
use Rattle.machine.proofs.Places.{place_any}
use Rattle.machine.proofs.Clauses.{used_task}
use Rattle.machine.proofs.Fifth.{fifth_place}
use Rattle.machine.proofs.Index.{name_task, name_age, name_vertex, is_new_lem, new_is, released_live, released_remaining, released_work, worked_live, worked_remaining, worked_work, was, was_live, ended_jobs, zeros_jobs}
use Rattle.machine.proofs.Working.{released_keep, worked_keep, finish_test}
use Rattle.machine.proofs.Standing.{Available, available_is, clear_is, nothing_is}
use Rattle.machine.proofs.Fitted.{fits_work}
use Rattle.machine.proofs.Cases.{too_soon, chosen_in, after_work, after_ends, Admitted, Case, unfit, halted, no_task_past, early, misses, goes_on_lem, cases}
use Rattle.machine.proofs.Refusing.{on_table}

-- "all its vertices are done"
unfoldable pub all_done : Table → State → ℕ → ℕ → Bool
all_done t st i p = all (vertices t i) (done (vertices t i) (edge_in t i) (remaining st i p))

-- a test that all from v on pass
pub all_upto : (v n : ℕ) (p : ℕ → Bool) → v ≤ n → ((j : ℕ) → v ≤ j → j < n → p j ≡ true) → all n p ≡ all v p
unfolding all
all_upto v zero p h k = let z : v ≡ 0 = omega arith in rw z refl
all_upto v (suc n) p h k = elim (dec_le v n) [
  | yes e ↦ more (all n p) (p n) (k n e (omega arith)) ∙ all_upto v n p e (λ j a b. k j a (omega arith))
  | no e ↦ let z : v ≡ suc n = omega arith in rw z refl
]
  where
    more : (a b : Bool) → b ≡ true → (a && b) ≡ a
    more true b e = e
    more false b e = refl

-- nothing remains of the vertices from v on
abbrev Spare : Table → State → ℕ → ℕ → Type 0
Spare t st i p = (u : ℕ) → vertices t i ≤ u → u < 16 → remaining st i p u ≡ 0

none_when_done : (t : Table) (st : State) (i p : ℕ) → vertices t i ≤ 16 → Spare t st i p → nothing_left st i p ≡ all_done t st i p
unfolding nothing_left all_done
none_when_done t st i p h spare =
    all_upto (vertices t i) 16 (λ u. eqb (remaining st i p u) 0) h (λ u a b. eq-eqb (remaining st i p u) 0 (spare u a b))
    ∙ sym (all_done_lem (vertices t i) (edge_in t i) (remaining st i p))

pick_zero : (c : Bool) (x : ℕ) → x ≡ 0 → pick c (x - 1) x ≡ 0
pick_zero true x e = omega arith
pick_zero false x e = e

-- ---- "A job is finished when all its vertices are done": of a state that fits, and within a tick
module _ (t : Table) (good : GoodTable t) (st : State) (fitting : fits t st ≡ true) (running : st.phase ≡ Running) (i : ℕ) (b : i < t.n) (p : ℕ) (four : p < 4) where
  sixteen : i < 16
  sixteen = let h = good.n_high in omega arith

  spare : Spare t st i p
  spare u l h = elim (dec_lt p (jobs_of st i)) [
    | yes k ↦ ((used_task t st fitting running i sixteen b).jobs p k).spare u h l
    | no k ↦ nothing_is st i p ((used_task t st fitting running i sixteen b).others p (omega arith) four).none u h
  ]

  spare_within : (named : ℕ) → Spare t (released t st named) i p
  spare_within named u l h = released_remaining t st named i sixteen p four u h ∙ go (is_new st named i p)
    where
      go : (c : Bool) → pick c (cost t i u) (remaining st i p u) ≡ 0
      go true = (good.each i b).unused u l h
      go false = spare u l h

  spare_after : (named : ℕ) (chosen : List ℕ) → Spare t (worked t (released t st named) named chosen) i p
  spare_after named chosen u l h =
      worked_remaining t (released t st named) named chosen i sixteen p four u h
      ∙ pick_zero (is_in (64 * i + 16 * p + u) chosen) (remaining (released t st named) i p u) (spare_within named u l h)

  pub finished_when_done : nothing_left st i p ≡ all_done t st i p
  finished_when_done = none_when_done t st i p (good.each i b).v_high spare

  -- after step 1
  pub finished_within : (named : ℕ) → nothing_left (released t st named) i p ≡ all_done t (released t st named) i p
  finished_within named = none_when_done t (released t st named) i p (good.each i b).v_high (spare_within named)

  -- after step 4, where step 5 asks
  pub finished_after : (named : ℕ) (chosen : List ℕ)
      → finishes (worked t (released t st named) named chosen) i p
      ≡ (live (worked t (released t st named) named chosen) i p && all_done t (worked t (released t st named) named chosen) i p)
  finished_after named chosen =
      finish_test (worked t (released t st named) named chosen)
      (worked_keep t (released t st named) named chosen (released_keep t st named (fits_work t st fitting))) i p sixteen four
      ∙ ap (λ (c : Bool). live (worked t (released t st named) named chosen) i p && c)
      (none_when_done t (worked t (released t st named) named chosen) i p (good.each i b).v_high (spare_after named chosen))

-- ---- "one whose costs are all 0 finishes in its release tick"
module _ (choose : Table → State → List ℕ) (t : Table) (good : GoodTable t) (st : State) (named i : ℕ) (b : i < t.n)
    (n : bit named i ≡ true) (free : (u : ℕ) → u < vertices t i → cost t i u ≡ 0) where
  below : i < 16
  below = let h = good.n_high in omega arith

  abbrev worn : State
  worn = after_work choose t st named

  no_cost : (u : ℕ) → u < 16 → cost t i u ≡ 0
  no_cost u h = elim (dec_lt u (vertices t i)) [ yes l ↦ free u l | no l ↦ (good.each i b).unused u (omega arith) h ]

  new : is_new st named i (jobs_of st i) ≡ true
  new = is_new_lem st named i n

  module _ (a : Admitted choose t st named) where
    waits_not : wait st i ≡ 0
    unfolding too_soon
    waits_not = elim (dec_lt 0 (wait st i)) [
      | yes l ↦ absurd (clash (and_true _ _ n (lt-ltb 0 (wait st i) l)) (a.free i b))
      | no l ↦ omega arith
    ]

    -- the new one has a place
    room : jobs_of st i < 4
    room = let h = fifth_place t good st a.fitting a.running i b waits_not in omega arith

    no_work_lem : work_of worn i (jobs_of st i) ≡ 0
    no_work_lem =
        let w = worked_work t (released t st named) named (chosen_in choose t st named) i below (jobs_of st i) room in
        let r : work_of (released t st named) i (jobs_of st i) ≡ 0 =
        released_work t st named i below (jobs_of st i) room ∙ ap (λ (c : Bool). pick c (sum 16 (cost t i)) (work_of st i (jobs_of st i))) new ∙ sum_none 16 (cost t i) no_cost in
        omega arith

    ends : finishes worn i (jobs_of st i) ≡ true
    unfolding finishes
    ends = and_true _ _
        (worked_live t (released t st named) named (chosen_in choose t st named) i below (jobs_of st i) ∙ released_live t st named i below (jobs_of st i) room
        ∙ ap (λ (c : Bool). pick c true (live st i (jobs_of st i))) new)
        (eq-eqb (work_of worn i (jobs_of st i)) 0 no_work_lem)

    in_set_lem : bit (finished worn) i ≡ true
    unfolding finished
    in_set_lem = bit_set 16 (λ i. any_place (finishes worn i)) i below ∙ place_any (finishes worn i) (jobs_of st i) room ends

    -- each of its jobs afterwards is one that it had before
    older : (q : ℕ) → q < jobs_of (after_ends choose t st named) i → was worn i q < jobs_of st i
    older q l =
        let e = ended_jobs worn i below in
        let r = was_live worn i q (omega arith) in
        elim (dec_lt (was worn i q) (jobs_of st i)) [
          | yes k ↦ k
          | no k ↦ absurd (go (is_new st named i (was worn i q)) refl r k)
        ]
      where
        go : (c : Bool) → is_new st named i (was worn i q) ≡ c → (was worn i q < 4) × (live worn i (was worn i q) ≡ true) × (finishes worn i (was worn i q) ≡ false)
            → (was worn i q < jobs_of st i → ⊥) → ⊥
        go true e r k = clash (ap (finishes worn i) (new_is st named i (was worn i q) e).1 ∙ ends) r.2
        go false e r k =
            let was-not : live worn i (was worn i q) ≡ live st i (was worn i q) =
            worked_live t (released t st named) named (chosen_in choose t st named) i below (was worn i q) ∙ released_live t st named i below (was worn i q) r.0
            ∙ ap (λ (c : Bool). pick c true (live st i (was worn i q))) e in
            clash (sym was-not ∙ r.1) ((used_task t st a.fitting a.running i below b).others (was worn i q) (omega arith) r.0).idles

  -- its task is in the set of tasks finished, and the job is gone afterwards: all that the task has left are older
  abbrev Ends : Ticked → Type 0
  Ends x = (x.answer.reply.number ≡ 0) ⊎ (x.answer.reply.number ≡ 34) → (bit x.answer.finished i ≡ true) × ((q : ℕ) → q < jobs_of x.state i → was worn i q < jobs_of st i)

  refused : (k task : ℕ) → 30 ≤ k → k < 34 → Ends (refuse st k 0 task)
  unfolding refuse
  refused k task low high e = absurd (⊎_elim (λ z. omega arith) (λ z. omega arith) e)

  ends_34 : Admitted choose t st named → (k : ℕ)
      → Ends (ticked 34 k (chosen_in choose t st named) (finished worn) (zeros (after_ends choose t st named).clock (Stopped k)))
  unfolding ticked
  ends_34 a k e = (in_set_lem a, λ q l. let z = zeros_jobs (after_ends choose t st named).clock (Stopped k) i in absurd (omega arith))

  ends_0 : Admitted choose t st named → Ends (ticked 0 255 (chosen_in choose t st named) (finished worn) (after_ends choose t st named))
  unfolding ticked
  ends_0 a e = (in_set_lem a, older a)

  pub zero_job_ends : ((tick_on choose t st named).answer.reply.number ≡ 0) ⊎ ((tick_on choose t st named).answer.reply.number ≡ 34)
      → (bit (tick_on choose t st named).answer.finished i ≡ true)
      × ((q : ℕ) → q < jobs_of (tick_on choose t st named).state i → was (after_work choose t st named) i q < jobs_of st i)
  zero_job_ends = go (tick_on choose t st named) (cases choose t st named)
    where
      go : (x : Ticked) → Case choose t st named x → Ends x
      go x (unfit e q) = subst Ends (sym q) (refused 30 255 (omega arith) (omega arith))
      go x (halted e k p q) = subst Ends (sym q) (refused 32 255 (omega arith) (omega arith))
      go x (no_task_past e p k l q) = subst Ends (sym q) (refused 31 k (omega arith) (omega arith))
      go x (early e p m k l q) = subst Ends (sym q) (refused 33 k (omega arith) (omega arith))
      go x (misses a k l q) = subst Ends (sym q) (ends_34 a k)
      go x (goes_on_lem a m q) = subst Ends (sym q) (ends_0 a)

-- the machine's own tick on a file that is read, answered 0 or 34
pub zero_job_finishes : (s : List ℕ) → (read s).outcome ≡ Read → (st : State) (named i : ℕ) → i < (read s).table.n → bit named i ≡ true
    → ((u : ℕ) → u < vertices (read s).table i → cost (read s).table i u ≡ 0)
    → ((tick s st named).answer.reply.number ≡ 0) ⊎ ((tick s st named).answer.reply.number ≡ 34)
    → (bit (tick s st named).answer.finished i ≡ true)
    × ((q : ℕ) → q < jobs_of (tick s st named).state i → was (after_work own_choice (read s).table st named) i q < jobs_of st i)
unfolding tick
zero_job_finishes s well st named i b n free =
    subst
    (λ (x : Ticked). (x.answer.reply.number ≡ 0) ⊎ (x.answer.reply.number ≡ 34)
    → (bit x.answer.finished i ≡ true) × ((q : ℕ) → q < jobs_of x.state i → was (after_work own_choice (read s).table st named) i q < jobs_of st i))
    (sym (on_table own_choice s st named well)) (zero_job_ends own_choice (read s).table (read_good s well) st named i b n free)

-- ---- NO VERTEX RUNS WHILE SOMETHING REMAINS OF ONE BEFORE IT in its job: by any legal choice, a path of edges leading from the one to the other
pub before_nothing_left : (t : Table) → GoodTable t → (st : State) (chosen : List ℕ) → Legal t st chosen
    → (i p u : ℕ) → i < t.n → p < 4 → u < 16 → is_in (64 * i + 16 * p + u) chosen ≡ true → (w : ℕ) → Path (edge_in t i) w u → remaining st i p w ≡ 0
unfolding availables edge_in
before_nothing_left t good st chosen legal i p u b four h e w path =
    let a : Available t st i p u = rw (name_task i p u four h, name_age i p u four h, name_vertex i p u four h)
    at (available_is t st (64 * i + 16 * p + u) (below_pass 1024 (available t st) (64 * i + 16 * p + u) (legal.only (64 * i + 16 * p + u) e)).1) in
    let l : Last (edge_in t i) w u = last path in
    let g = good.each i b in
    let o = g.ends l.before u l.edge in
    let d = clear_is t st i p u a.clears l.before o.0 l.edge in
    ⊎_elim
    (λ z. rw z (done_zero (vertices t i) (edge_in t i) (remaining st i p) l.before d))
    (λ z. before_done (vertices t i) (succ t i) g.v_high g.no_cycle (remaining st i p) (λ x y k. ((g.ends x y k).0, (g.ends x y k).1)) z d)
    l.rest
