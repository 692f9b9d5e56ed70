-- A TICK KEEPS EACH JOB'S ACCOUNT, of any good table, accepted or not. One that is answered 0: a job that goes on has what ran of it less remaining, and no
-- two of a task have the same ticks left, so what stands in the run list with its age place is what ran of it. One that is refused changes nothing, and
-- nothing stands in its run list.
use mathlib.Core.Path.{◌≡◌, ap, ◌∙◌}
use mathlib.Core.Bool.{true}
use mathlib.Core.List.{List}
use Prim.Native.Nat.{ℕ, suc, ◌+◌, ◌-◌, ◌≤◌, ◌<◌}
use native.Mathlib.Omega.{arith}
use native.Mathlib.Decide.{dec_lt}
use Rattle.graph.specs.Words.{bit, row, sum}
use Rattle.graph.proofs.Facts.{sum_same}
use Rattle.table.specs.declared.Table.{Table}
use Rattle.table.specs.Memory.{D, cost}
use Rattle.table.specs.Good.{GoodTable}
use Rattle.machine.specs.declared.State.{State}
use Rattle.machine.specs.declared.Answer.{Answer}
use Rattle.machine.specs.declared.Triple.{Triple}
use Rattle.machine.specs.States.{live, wait, jobs_of, remaining, left}
use Rattle.machine.specs.Steps.{released, worked, ended, Legal}
use Rattle.machine.specs.Ticking.{nobody, run_list}
use Rattle.promise.specs.Runs.{taking, Drawn}
use Rattle.promise.specs.Account.{times_in, times_of, stood_since}
use Rattle.machine.proofs.Sound.{Sound}
use Rattle.promise.proofs.Counting as Counting
use Rattle.promise.proofs.OneTick.{Stems, old, new, stems, alone, comes_from}

-- ---- the accounts of a run: its times, its states within the ticks, its answers, and the times that a release draws
module _ (t : Table) (rel hour : ℕ → ℕ) (within : ℕ → State) (answer : ℕ → Answer) (drew : ℕ → ℕ → ℕ → ℕ) where
  abbrev pub so_far : ℕ → ℕ → ℕ → ℕ
  so_far = stood_since t hour within answer

  -- of the job at age place p of task i, before tick x
  pub record Counts (x : ℕ) (st : State) (i p : ℕ) : Type 0 where
    pub at : ℕ
    pub past : at < x
    pub taken : (answer at).reply.number ≡ 0
    pub released : bit (rel at) i ≡ true
    pub ticks : left st i p + hour x ≡ hour at + D t i
    pub adds : so_far i at x + sum 16 (remaining st i p) ≡ sum 16 (drew at i)
    pub most : (u : ℕ) → u < 16 → remaining st i p u ≤ drew at i u

  pub none_yet : (i a : ℕ) → so_far i a a ≡ 0
  unfolding stood_since sum
  none_yet i a = let e : a - a ≡ 0 = omega arith in ap (λ (n : ℕ). sum n (λ j. times_of t (within (a + j)) (answer (a + j)).ran i (hour a) (hour (a + j)))) e

  -- a tick more
  one_more_lem : (i a x : ℕ) → a ≤ x → so_far i a (suc x) ≡ so_far i a x + times_of t (within x) (answer x).ran i (hour a) (hour x)
  unfolding stood_since sum
  one_more_lem i a x h =
      let e : suc x - a ≡ suc (x - a) = omega arith in
      let f : a + (x - a) ≡ x = omega arith in
      ap (λ (n : ℕ). sum n (λ j. times_of t (within (a + j)) (answer (a + j)).ran i (hour a) (hour (a + j)))) e
      ∙ ap (λ (z : ℕ). sum (x - a) (λ j. times_of t (within (a + j)) (answer (a + j)).ran i (hour a) (hour (a + j))) + times_of t (within z) (answer z).ran i (hour a) (hour z)) f

  -- ---- a tick that changes nothing
  pub rests : (x : ℕ) (st : State) (i p : ℕ) → i < 16 → hour (suc x) ≡ hour x → (answer x).ran ≡ row 8 (λ j. nobody) → Counts x st i p → Counts (suc x) st i p
  rests x st i p b h r k =
      let l = k.past in
      let o = one_more_lem i k.at x (omega arith) in
      let z : times_of t (within x) (answer x).ran i (hour k.at) (hour x) ≡ 0 =
      ap (λ (ran : List Triple). times_of t (within x) ran i (hour k.at) (hour x)) r ∙ Counting.times_of_none t (within x) i (hour k.at) (hour x) b in
      let a = k.adds in
      let e = k.ticks in
      record { at = k.at; past = omega arith; taken = k.taken; released = k.released; ticks = omega arith; adds = omega arith; most = k.most }

  -- ---- a tick that is answered 0
  module _ (good : GoodTable t) (x : ℕ) (st : State) (sound : Sound t st)
      (tasks : (i : ℕ) → bit (rel x) i ≡ true → i < t.n) (free : (i : ℕ) → bit (rel x) i ≡ true → wait st i ≡ 0)
      (c : List ℕ) (drawn : Drawn t c)
      (within-is : within x ≡ released (taking t c) st (rel x)) (drew_is : (i u : ℕ) → i < t.n → u < 16 → cost (taking t c) i u ≡ drew x i u)
      (before : (i p : ℕ) → i < t.n → p < jobs_of st i → Counts x st i p) where
    abbrev mid_now : State
    mid_now = released (taking t c) st (rel x)

    -- within it
    pub record Within (i p : ℕ) : Type 0 where
      pub at : ℕ
      pub past : at ≤ x
      pub taken : at < x → (answer at).reply.number ≡ 0
      pub released_at : bit (rel at) i ≡ true
      pub ticks : left mid_now i p + hour x ≡ hour at + D t i
      pub adds : so_far i at x + sum 16 (remaining mid_now i p) ≡ sum 16 (drew at i)
      pub most : (u : ℕ) → u < 16 → remaining mid_now i p u ≤ drew at i u

    pub within_tick : (i p : ℕ) → i < t.n → p < jobs_of mid_now i → Within i p
    within_tick i p b l = go (stems t good st sound (rel x) tasks free c drawn i p b l)
      where
        go : Stems t good st sound (rel x) tasks free c drawn i p → Within i p
        go (old w) =
            let k = before i p b w.among in
            let h = k.past in
            let a = k.adds in
            let e = k.ticks in
            let f = w.ticks in
            let s = sum_same 16 (remaining mid_now i p) (remaining st i p) w.rest in
            record {
              at = k.at;
              past = omega arith;
              taken = λ z. k.taken;
              released_at = k.released;
              ticks = omega arith;
              adds = omega arith;
              most = λ u v. let y = w.rest u v in let z = k.most u v in omega arith;
            }
        go (new w) =
            let n = none_yet i x in
            let f = w.ticks in
            let s = sum_same 16 (remaining mid_now i p) (drew x i) (λ u v. w.rest u v ∙ drew_is i u b v) in
            record {
              at = x;
              past = omega arith;
              taken = λ z. absurd (omega arith);
              released_at = w.named_now;
              ticks = omega arith;
              adds = omega arith;
              most = λ u v. let y = w.rest u v in let z = drew_is i u b v in omega arith;
            }

    -- and after it
    module _ (chosen : List ℕ) (legal : Legal t mid_now chosen) (later : hour (suc x) ≡ hour x + 1) (taken : (answer x).reply.number ≡ 0)
        (ran_is : (answer x).ran ≡ run_list chosen) where
      pub goes_on_lem : (i q : ℕ) → i < t.n → q < jobs_of (ended (worked t mid_now (rel x) chosen)) i → Counts (suc x) (ended (worked t mid_now (rel x) chosen)) i q
      goes_on_lem i q b l =
          let f = comes_from t good st sound (rel x) tasks free c drawn chosen legal i q b l in
          let p = f.place in
          let w = within_tick i p b f.among in
          let e = w.ticks in
          let past = w.past in
          let o = one_more_lem i w.at x past in
          let z = stood p f.below f.lives w.at e in
          let s = f.ran_off in
          let a = w.adds in
          let y = f.less in
          record {
            at = w.at;
            past = omega arith;
            taken = elim (dec_lt w.at x) [
              | yes k ↦ w.taken k
              | no k ↦ let same : w.at ≡ x = omega arith in ap (λ (n : ℕ). (answer n).reply.number) same ∙ taken
            ];
            released = w.released_at;
            ticks = omega arith;
            adds = omega arith;
            most = λ u v. let m = w.most u v in let n = f.falls u v in omega arith;
          }
        where
          stood : (p : ℕ) → p < 4 → live mid_now i p ≡ true → (a : ℕ) → left mid_now i p + hour x ≡ hour a + D t i
              → times_of t (within x) (answer x).ran i (hour a) (hour x) ≡ times_in i p (run_list chosen)
          stood p h e a y =
              ap (λ (s : State). times_of t s (answer x).ran i (hour a) (hour x)) within-is
              ∙ Counting.times_at t mid_now (answer x).ran i (hour a) (hour x) p h e y
              (λ r m g z. alone t good st sound (rel x) tasks free c drawn i r p g e z)
              ∙ ap (times_in i p) ran_is
