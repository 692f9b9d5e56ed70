-- The state within a tick, its releases made, of any sound state: each named task has one job more, at the place after its others, with its costs remaining
-- and D ticks left; every other job is as it was. The jobs stay T ticks apart, for with wait 0 the newest before has at most D minus T ticks left; and
-- there is room for the new one. The costs come last, of a state that stands.
use Rattle.std.proofs.Common.{◌≡◌, ℕ, zero, suc, ◌+◌, ◌-◌, ◌<◌, ◌≤◌, Bool, true, false, ◌⊎◌, sym, refl, ap, ◌∙◌, inl, inr, ⊎_elim, arith}
use native.Mathlib.Decide.{dec_lt, ℕ_discrete}
use Rattle.graph.specs.Words.{flag, pick, bit}
use Rattle.graph.specs.Graph.{done}
use Rattle.graph.proofs.Facts.{clash, off_when}
use Rattle.graph.proofs.Done.{done_keeps}
use Rattle.table.specs.declared.Table.{Table}
use Rattle.table.specs.Memory.{vertices, D, T, edge_in, cost}
use Rattle.table.specs.Good.{GoodTable}
use Rattle.machine.specs.declared.State.{State}
use Rattle.machine.specs.States.{live, wait, deadline, jobs_of, remaining, wrap, ticks_left, left}
use Rattle.machine.specs.Steps.{is_new, released}
use Rattle.machine.proofs.Places.{jobs_are}
use Rattle.machine.proofs.Clauses.{jobs_four}
use Rattle.machine.proofs.Fifth.{within_four}
use Rattle.machine.proofs.Index.{left_new, wrap_small, is_new_lem, new_is, not_new, released_clock, released_live, released_deadline, released_remaining}
use Rattle.machine.proofs.Working.{WorkKept, released_keep}
use Rattle.machine.proofs.Standing.{Going, Resting, Standing}
use Rattle.machine.proofs.Sound.{Dated, Sound, stands_sound, at_most_three}

-- what is not done was not done before, when more remained
pub falls_open : (v : ℕ) (E : ℕ → ℕ → Bool) (rest less : ℕ → ℕ) → ((x : ℕ) → x < v → rest x ≡ 0 → less x ≡ 0) → (u : ℕ) → u < v
    → done v E less u ≡ false → done v E rest u ≡ false
falls_open v E rest less falls u b e = off_when (done v E rest u) (λ h. clash (done_keeps v E rest less falls u b h) e)

module _ (t : Table) (good : GoodTable t) (st : State) (s : Sound t st) (named : ℕ)
    (tasks : (i : ℕ) → bit named i ≡ true → i < t.n) (free : (i : ℕ) → bit named i ≡ true → wait st i ≡ 0) where
  -- the state within the tick, its releases made
  unfoldable pub mid : State
  mid = released t st named

  pub sixteen : (i : ℕ) → i < t.n → i < 16
  sixteen i b = let h = good.n_high in omega arith

  pub unnamed : (i : ℕ) → t.n ≤ i → bit named i ≡ false
  unnamed i h = off_when (bit named i) (λ n. let b = tasks i n in omega arith)

  -- there is room for the new one
  pub room : (i : ℕ) → bit named i ≡ true → jobs_of st i ≤ 3
  room i e = let b = tasks i e in at_most_three t st s i b (within_four t good i b) (free i e)

  module _ (i : ℕ) (b : i < 16) (p : ℕ) (h : p < 4) where
    -- a place that is not new is as it was
    module _ (e : is_new st named i p ≡ false) where
      pub kept_live : live mid i p ≡ live st i p
      unfolding mid
      kept_live = released_live t st named i b p h ∙ ap (λ (c : Bool). pick c true (live st i p)) e

      pub kept_deadline : deadline mid i p ≡ deadline st i p
      unfolding mid
      kept_deadline = released_deadline t st named i b p h ∙ ap (λ (c : Bool). pick c (wrap (st.clock + D t i)) (deadline st i p)) e

      pub kept_left : left mid i p ≡ left st i p
      unfolding mid left
      kept_left =
          ap (λ (c : ℕ). ticks_left (deadline (released t st named) i p) c) (released_clock t st named)
          ∙ ap (λ (d : ℕ). ticks_left d st.clock) (released_deadline t st named i b p h ∙ ap (λ (c : Bool). pick c (wrap (st.clock + D t i)) (deadline st i p)) e)

      pub kept_remaining : (u : ℕ) → u < 16 → remaining mid i p u ≡ remaining st i p u
      unfolding mid
      kept_remaining u l = released_remaining t st named i b p h u l ∙ ap (λ (c : Bool). pick c (cost t i u) (remaining st i p u)) e

    -- the new one
    module _ (e : is_new st named i p ≡ true) where
      pub new_live : live mid i p ≡ true
      unfolding mid
      new_live = released_live t st named i b p h ∙ ap (λ (c : Bool). pick c true (live st i p)) e

      pub new_deadline : deadline mid i p ≡ wrap (st.clock + D t i)
      unfolding mid
      new_deadline = released_deadline t st named i b p h ∙ ap (λ (c : Bool). pick c (wrap (st.clock + D t i)) (deadline st i p)) e

      pub new_left : left mid i p ≡ D t i
      unfolding mid left
      new_left =
          ap (λ (c : ℕ). ticks_left (deadline (released t st named) i p) c) (released_clock t st named)
          ∙ ap (λ (d : ℕ). ticks_left d st.clock) (released_deadline t st named i b p h ∙ ap (λ (c : Bool). pick c (wrap (st.clock + D t i)) (deadline st i p)) e)
          ∙ left_new st.clock (D t i) s.clock (good.each i (tasks i (new_is st named i p e).0)).D_high

      pub new_remaining : (u : ℕ) → u < 16 → remaining mid i p u ≡ cost t i u
      unfolding mid
      new_remaining u l = released_remaining t st named i b p h u l ∙ ap (λ (c : Bool). pick c (cost t i u) (remaining st i p u)) e

  -- the work of each is what remains of it
  pub mid_works : WorkKept mid
  unfolding mid
  mid_works = released_keep t st named s.works

  -- ---- how many jobs there are then
  flag_true : (i : ℕ) → bit named i ≡ true → flag (bit named i) ≡ 1
  unfolding flag
  flag_true i e = ap flag e

  flag_false : (i : ℕ) → bit named i ≡ false → flag (bit named i) ≡ 0
  unfolding flag
  flag_false i e = ap flag e

  rest_kept : (i p : ℕ) → i < 16 → p < 4 → Resting st i p → is_new st named i p ≡ false → Resting mid i p
  rest_kept i p b h r e = record { idles = kept_live i b p h e ∙ r.idles; none = λ u l. kept_remaining i b p h e u l ∙ r.none u l }

  -- the first places are live, those past the new one rest
  module _ (i : ℕ) (b : i < t.n) where
    mid_first : (p : ℕ) → p < 4 → p < jobs_of st i + flag (bit named i) → live mid i p ≡ true
    mid_first p h l = elim (dec_lt p (jobs_of st i)) [
      | yes k ↦ kept_live i (sixteen i b) p h (not_new st named i p (λ n z. omega arith)) ∙ s.lives i p b k
      | no k ↦ go (bit named i) refl k
    ]
      where
        go : (c : Bool) → bit named i ≡ c → (p < jobs_of st i → ⊥) → live mid i p ≡ true
        go true n k =
            let f = flag_true i n in
            let z : jobs_of st i ≡ p = omega arith in
            new_live i (sixteen i b) p h (ap (is_new st named i) (sym z) ∙ is_new_lem st named i n)
        go false n k = let f = flag_false i n in absurd (omega arith)

    mid_past : (p : ℕ) → p < 4 → jobs_of st i + flag (bit named i) ≤ p → Resting mid i p
    mid_past p h l = rest_kept i p (sixteen i b) h (s.resting i p b (omega arith) h) (not_new st named i p (λ n z. let f = flag_true i n in omega arith))

    mid_four : jobs_of st i + flag (bit named i) ≤ 4
    mid_four = go (bit named i) refl
      where
        go : (c : Bool) → bit named i ≡ c → jobs_of st i + flag (bit named i) ≤ 4
        go true n = let f = flag_true i n in let r = room i n in omega arith
        go false n = let f = flag_false i n in let r = jobs_four st i in omega arith

    -- ONE MORE OF A NAMED TASK
    pub mid_jobs : jobs_of mid i ≡ jobs_of st i + flag (bit named i)
    mid_jobs =
        let four = mid_four in
        jobs_are mid i (jobs_of st i + flag (bit named i)) four (λ p l. mid_first p (omega arith) l) (λ p l h. (mid_past p h l).idles)

    pub mid_lives : (p : ℕ) → p < jobs_of mid i → live mid i p ≡ true
    mid_lives p l = let four = jobs_four mid i in let e = mid_jobs in mid_first p (omega arith) (omega arith)

    pub mid_rests : (p : ℕ) → jobs_of mid i ≤ p → p < 4 → Resting mid i p
    mid_rests p l h = let e = mid_jobs in mid_past p h (omega arith)

    -- a live job then was live before, or is the new one
    pub mid_place : (p : ℕ) → p < jobs_of mid i → (p < jobs_of st i) ⊎ (is_new st named i p ≡ true)
    mid_place p l = elim (dec_lt p (jobs_of st i)) [
      | yes k ↦ inl k
      | no k ↦ inr (go (bit named i) refl k)
    ]
      where
        go : (c : Bool) → bit named i ≡ c → (p < jobs_of st i → ⊥) → is_new st named i p ≡ true
        go true n k =
            let f = flag_true i n in
            let e = mid_jobs in
            let z : jobs_of st i ≡ p = omega arith in
            ap (is_new st named i) (sym z) ∙ is_new_lem st named i n
        go false n k = let f = flag_false i n in let e = mid_jobs in absurd (omega arith)

    -- ---- each live job is as it should be, and has at most D ticks left
    old_going : (p : ℕ) → p < jobs_of st i → Dated mid i p
    old_going p l =
        let four = jobs_four st i in
        let g = s.going i p b l in
        let h : p < 4 = omega arith in
        let e = not_new st named i p (λ n z. omega arith) in
        record {
          small = let q = kept_deadline i (sixteen i b) p h e in let y = g.small in omega arith;
          ahead = let q = kept_left i (sixteen i b) p h e in let y = g.ahead in omega arith;
        }

    new_going : (p : ℕ) → p < 4 → is_new st named i p ≡ true → Dated mid i p
    new_going p h e = record {
      small = let q = new_deadline i (sixteen i b) p h e in let y = wrap_small (st.clock + D t i) in omega arith;
      ahead = let q = new_left i (sixteen i b) p h e in let d = (good.each i b).D_low in omega arith;
    }

    pub mid_going : (p : ℕ) → p < jobs_of mid i → Dated mid i p
    mid_going p l =
        let four = jobs_four mid i in
        ⊎_elim (λ k. old_going p k) (λ e. new_going p (omega arith) e) (mid_place p l)

    pub mid_soon : (p : ℕ) → p < jobs_of mid i → left mid i p ≤ D t i
    mid_soon p l =
        let four = jobs_four mid i in
        ⊎_elim
        (λ k.
        let q = kept_left i (sixteen i b) p (omega arith) (not_new st named i p (λ n z. omega arith)) in
        let y = s.soon i p b k in
        omega arith)
        (λ e. let q = new_left i (sixteen i b) p (omega arith) e in omega arith)
        (mid_place p l)

    -- ---- T ticks apart, also from the one before the new one
    pub mid_apart : (p : ℕ) → p + 1 < jobs_of mid i → left mid i p + T t i ≤ left mid i (p + 1)
    mid_apart p l = ⊎_elim old new (mid_place (p + 1) l)
      where
        old : p + 1 < jobs_of st i → left mid i p + T t i ≤ left mid i (p + 1)
        old k =
            let four = jobs_four st i in
            let q₁ = kept_left i (sixteen i b) p (omega arith) (not_new st named i p (λ n z. omega arith)) in
            let q₂ = kept_left i (sixteen i b) (p + 1) (omega arith) (not_new st named i (p + 1) (λ n z. omega arith)) in
            let y = s.apart i p b k in
            omega arith

        new : is_new st named i (p + 1) ≡ true → left mid i p + T t i ≤ left mid i (p + 1)
        new e =
            let four = jobs_four mid i in
            let r = new_is st named i (p + 1) e in
            let z : jobs_of st i ≡ p + 1 = sym r.1 in
            let q₁ = kept_left i (sixteen i b) p (omega arith) (not_new st named i p (λ n z. omega arith)) in
            let q₂ = new_left i (sixteen i b) (p + 1) (omega arith) e in
            let w = free i r.0 in
            let y = s.waits i b (omega arith) in
            let newest : jobs_of st i - 1 ≡ p = omega arith in
            let same = ap (left st i) newest in
            omega arith

    -- however far apart they stand
    pub mid_before : (p q : ℕ) → p < q → q < jobs_of mid i → left mid i p + T t i ≤ left mid i q
    mid_before p zero l k = absurd (omega arith)
    mid_before p (suc q) l k = elim (ℕ_discrete p q) [
      | yes e ↦
          let a = mid_apart q (omega arith) in
          let z : q + 1 ≡ suc q = omega arith in
          let y = ap (left mid i) z in
          let x = ap (left mid i) e in
          omega arith
      | no d ↦
          let a = mid_apart q (omega arith) in
          let r = mid_before p q (omega arith) (omega arith) in
          let z : q + 1 ≡ suc q = omega arith in
          let y = ap (left mid i) z in
          omega arith
    ]

    -- the newest has the most ticks left
    pub mid_most : (p : ℕ) → p < jobs_of mid i → left mid i p ≤ left mid i (jobs_of mid i - 1)
    mid_most p l = elim (ℕ_discrete p (jobs_of mid i - 1)) [
      | yes e ↦ let z = ap (left mid i) e in omega arith
      | no d ↦ let r = mid_before p (jobs_of mid i - 1) (omega arith) (omega arith) in omega arith
    ]

    -- what step 4 makes of the wait is enough
    pub mid_waits : 1 ≤ jobs_of mid i → T t i + (left mid i (jobs_of mid i - 1) - 1) ≤ pick (bit named i) (T t i - 1) (wait st i - 1) + D t i
    mid_waits l = go (bit named i) refl
      where
        go : (c : Bool) → bit named i ≡ c → T t i + (left mid i (jobs_of mid i - 1) - 1) ≤ pick (bit named i) (T t i - 1) (wait st i - 1) + D t i
        go true n =
            let k : pick (bit named i) (T t i - 1) (wait st i - 1) ≡ T t i - 1 = rw n refl in
            let m = mid_soon (jobs_of mid i - 1) (omega arith) in
            let a = (mid_going (jobs_of mid i - 1) (omega arith)).ahead in
            let g = (good.each i b).T_low in
            omega arith
        go false n =
            let k : pick (bit named i) (T t i - 1) (wait st i - 1) ≡ wait st i - 1 = rw n refl in
            let f = flag_false i n in
            let e = mid_jobs in
            let four = jobs_four st i in
            let z : jobs_of mid i ≡ jobs_of st i = omega arith in
            let y = ap (λ (x : ℕ). left mid i (x - 1)) z in
            let q = kept_left i (sixteen i b) (jobs_of st i - 1) (omega arith) (not_new st named i (jobs_of st i - 1) (λ c z. clash c n)) in
            let w = s.waits i b (omega arith) in
            let a = (s.going i (jobs_of st i - 1) b (omega arith)).ahead in
            omega arith

  -- ---- a task that is not used
  pub mid_unused : (i p : ℕ) → t.n ≤ i → i < 16 → p < 4 → Resting mid i p
  mid_unused i p h b l = rest_kept i p b l (s.unused i p h b l) (not_new st named i p (λ n z. clash n (unnamed i h)))

-- ---- of a state that stands: no more remains of a job than its costs, and a vertex that waits has its whole cost
module _ (t : Table) (good : GoodTable t) (st : State) (s : Standing t st) (named : ℕ)
    (tasks : (i : ℕ) → bit named i ≡ true → i < t.n) (free : (i : ℕ) → bit named i ≡ true → wait st i ≡ 0) (i : ℕ) (b : i < t.n) where
  abbrev snd : Sound t st
  snd = stands_sound t st s

  abbrev now : State
  now = mid t good st (stands_sound t st s) named tasks free

  pub mid_costs : (p : ℕ) → p < jobs_of now i → Going t now i p
  mid_costs p l = ⊎_elim old new (mid_place t good st snd named tasks free i b p l)
    where
      six : i < 16
      six = sixteen t good st snd named tasks free i b

      four : p < 4
      four = let h = jobs_four now i in omega arith

      dated : Dated now i p
      dated = mid_going t good st snd named tasks free i b p l

      old : p < jobs_of st i → Going t now i p
      old k =
          let g = s.going i p b k in
          let e = not_new st named i p (λ n z. omega arith) in
          record {
            small = dated.small;
            ahead = dated.ahead;
            within = λ u l. let q = kept_remaining t good st snd named tasks free i six p four e u l in let y = g.within u l in omega arith;
            behind = λ u w l₁ l₂ x y.
                let v = (good.each i b).v_high in
                kept_remaining t good st snd named tasks free i six p four e u l₁
                ∙ g.behind u w l₁ l₂ x (falls_open (vertices t i) (edge_in t i) (remaining st i p) (remaining now i p)
                (λ z c q. kept_remaining t good st snd named tasks free i six p four e z (omega arith) ∙ q) w ((good.each i b).ends w u x).0 y);
          }

      new : is_new st named i p ≡ true → Going t now i p
      new e = record {
        small = dated.small;
        ahead = dated.ahead;
        within = λ u l. let q = new_remaining t good st snd named tasks free i six p four e u l in omega arith;
        behind = λ u w l₁ l₂ x y. new_remaining t good st snd named tasks free i six p four e u l₁;
      }
