-- THE ACCOUNT OF EACH JOB WHERE STEPS END EARLY, proved for files that no verdict has accepted: a release sets what remains to the times it drew; then what
-- runs falls by one, and nothing else does, as long as ticks are answered 0. Releases that are spaced in true time find their wait at 0.
use mathlib.Core.Path.{◌≡◌, refl, sym, ap, subst, ◌∙◌}
use mathlib.Core.Logic.{⊎_elim}
use mathlib.Core.Bool.{Bool, true, false, cond}
use mathlib.Core.List.{List}
use Prim.Native.Nat.{ℕ, zero, suc, ◌+◌, ◌*◌, ◌-◌, ◌^◌, ◌≤◌, ◌<◌}
use native.Mathlib.Omega.{arith}
use native.Mathlib.Decide.{dec_le}
use lib.ListN.{get_or}
use Rattle.graph.specs.Words.{pick, bit, sum}
use Rattle.graph.proofs.Facts.{sum_upto, lowest_or_cases}
use Rattle.table.specs.declared.Table.{Table}
use Rattle.table.specs.declared.Outcome.TheVariants.{Read}
use Rattle.table.specs.Memory.{vertices, T, cost}
use Rattle.table.specs.Reading.{read}
use Rattle.table.specs.Good.{GoodTable}
use Rattle.table.proofs.Sound.{read_good}
use Rattle.machine.specs.declared.Phase.TheVariants.{Running, Stopped}
use Rattle.machine.specs.declared.State.{State}
use Rattle.machine.specs.declared.Ticked.{Ticked}
use Rattle.machine.specs.States.{live, wait, jobs_of, remaining, zeros}
use Rattle.machine.specs.Steps.{released, worked, ended, finished, missed}
use Rattle.machine.specs.Ticking.{run_list, ticked, judged, advance_to}
use Rattle.machine.proofs.Index.{zeros_wait, zeros_jobs}
use Rattle.theory.proofs.Time.{clock, clock_last}
use Rattle.promise.specs.Runs.{table_of, taking, Plan, Sporadic, Drawn, early, tick_at, state_at, mid_at, answer_at, LegalBefore}
use Rattle.promise.specs.Demand3.{EachAnswered}
use Rattle.promise.specs.Account.{stood_since, EarlyAccount, EarlyAccounts}
use Rattle.machine.proofs.Sound.{Sound, opened_sound}
use Rattle.promise.proofs.Moves.{opens}
use Rattle.promise.proofs.OneTick as OneTick
use Rattle.promise.proofs.Lasting as Lasting
use Rattle.promise.proofs.Lasting.{Counts}

-- answered 0, steps 5 and 6 miss no deadline and hand back the state after step 5
answered_0 : (chosen : List ℕ) (w : State) → (advance_to chosen w).answer.reply.number ≡ 0
    → ((i : ℕ) → i < 16 → missed (ended w) i ≡ false) × (advance_to chosen w ≡ ticked 0 255 chosen (finished w) (ended w))
unfolding advance_to judged ticked
answered_0 chosen w e = ⊎_elim
    (λ r. absurd (let z = sym (ap (λ (x : Ticked). x.answer.reply.number) r.3) ∙ e in omega arith))
    (λ r. (r.0, r.1))
    (lowest_or_cases 16 (missed (ended w)) (λ i. ticked 34 i chosen (finished w) (zeros (ended w).clock (Stopped i))) (ticked 0 255 chosen (finished w) (ended w)))

module _ (file : List ℕ) (well : (read file).outcome ≡ Read) (good : GoodTable (table_of file)) (c : ℕ) (small : c < 2 ^ 32) (plan : Plan) (x : ℕ)
    (sporadic : Sporadic (table_of file) plan.rel (suc x)) (times : (y : ℕ) → y ≤ x → Drawn (table_of file) (plan.times y))
    (legal : LegalBefore early file c plan x) (answered : EachAnswered (answer_at early file c plan) x) where
  abbrev t : Table
  t = table_of file

  abbrev rel : ℕ → ℕ
  rel = plan.rel

  abbrev st : ℕ → State
  st y = state_at early file c plan y

  abbrev mid : ℕ → State
  mid y = mid_at early file c plan y

  drew : ℕ → ℕ → ℕ → ℕ
  drew a i u = get_or (plan.times a) (16 * i + u) 0

  abbrev Counted : ℕ → State → ℕ → ℕ → Type 0
  Counted = Counts t rel (λ z. z) (mid_at early file c plan) (answer_at early file c plan) drew

  -- before tick y
  record Before (y : ℕ) (s : State) : Type 0 where
    sound : Sound t s
    waits : (i : ℕ) → i < t.n → wait s i ≡ clock (T t i) (λ a. bit (rel a) i) y
    counts : (i p : ℕ) → i < t.n → p < jobs_of s i → Counted y s i p

  opened : Before 0 (st 0)
  unfolding state_at clock
  opened = rw (opens file well c) (record {
    sound = opened_sound t good c small;
    waits = λ i b. zeros_wait c Running i;
    counts = λ i p b l. let z = zeros_jobs c Running i in absurd (omega arith);
  })

  tasks : (y : ℕ) → y ≤ x → (i : ℕ) → bit (rel y) i ≡ true → i < t.n
  tasks y b i = sporadic.tasks y i (omega arith)

  free : (y : ℕ) → y ≤ x → Before y (st y) → (i : ℕ) → bit (rel y) i ≡ true → wait (st y) i ≡ 0
  free y b p i e = p.waits i (tasks y b i e) ∙ out (dec_le 1 (clock (T t i) (λ a. bit (rel a) i) y))
    where
      out : Dec (1 ≤ clock (T t i) (λ a. bit (rel a) i) y) → clock (T t i) (λ a. bit (rel a) i) y ≡ 0
      out (yes h) = let r = clock_last (T t i) (λ a. bit (rel a) i) y h in absurd (omega (arith, r.3, sporadic.apart i r.0 y r.1 (omega arith) r.2 e))
      out (no h) = omega arith

  drew_is : (y i u : ℕ) → cost (taking t (plan.times y)) i u ≡ drew y i u
  unfolding cost taking drew
  drew_is y i u = refl

  -- within it
  mid_is : (y : ℕ) → mid y ≡ released (taking t (plan.times y)) (st y) (rel y)
  unfolding mid_at
  mid_is y = refl

  -- ---- a tick that is answered 0
  module _ (y : ℕ) (b : y < x) where
    abbrev after : State
    after = ended (worked t (mid y) (rel y) (plan.choice y))

    tick_is : ((i : ℕ) → i < 16 → missed after i ≡ false)
        × (tick_at early file c plan y (st y) ≡ ticked 0 255 (plan.choice y) (finished (worked t (mid y) (rel y) (plan.choice y))) after)
    unfolding tick_at mid_at answer_at
    tick_is = answered_0 (plan.choice y) _ (answered y b)

    state_is : st (suc y) ≡ after
    unfolding state_at ticked
    state_is = ap (λ (z : Ticked). z.state) tick_is.1

    ran_is : (answer_at early file c plan y).ran ≡ run_list (plan.choice y)
    unfolding answer_at ticked
    ran_is = ap (λ (z : Ticked). z.answer.ran) tick_is.1

    falls : (q : Bool) (m w : ℕ) → pick q (m - 1) (w - 1) ≡ cond q m w - 1
    falls true m w = refl
    falls false m w = refl

    moves : Before y (st y) → Before (suc y) (st (suc y))
    unfolding clock mid_at
    moves p =
        let h : y ≤ x = omega arith in
        let f = free y h p in
        let later : suc y ≡ y + 1 = omega arith in
        subst (Before (suc y)) (sym state_is) (record {
          sound = OneTick.after_sound t good (st y) p.sound (rel y) (tasks y h) f (plan.times y) (times y h) (plan.choice y) (legal y b)
              (OneTick.kept_when t good (st y) p.sound (rel y) (tasks y h) f (plan.times y) (times y h) (plan.choice y) (legal y b) tick_is.0);
          waits = λ i l.
              OneTick.after_wait t good (st y) p.sound (rel y) (tasks y h) f (plan.times y) (times y h) (plan.choice y) (legal y b) i l
              ∙ ap (λ (w : ℕ). pick (bit (rel y) i) (T t i - 1) (w - 1)) (p.waits i l)
              ∙ falls (bit (rel y) i) (T t i) (clock (T t i) (λ a. bit (rel a) i) y);
          counts = Lasting.goes_on_lem t rel (λ z. z) (mid_at early file c plan) (answer_at early file c plan) drew good y (st y) p.sound
              (tasks y h) f (plan.times y) (times y h) (mid_is y) (λ i u l k. drew_is y i u) p.counts (plan.choice y) (legal y b) later (answered y b) ran_is;
        })

  before : (y : ℕ) → y ≤ x → Before y (st y)
  before zero b = opened
  before (suc y) b = moves y b (before y (omega arith))

  -- ---- within tick x; vertices from v on take no time
  none_past : (a i u : ℕ) → a ≤ x → i < t.n → vertices t i ≤ u → u < 16 → drew a i u ≡ 0
  unfolding drew cost
  none_past a i u b l m h =
      let n = good.n_high in
      let k : 16 * i + u < 256 = omega arith in
      let z = (times a b).most (16 * i + u) k in
      let y = (good.each i l).unused u m h in
      omega arith

  now_at : x ≤ x
  now_at = omega arith

  module _ (w : Before x (st x)) (f : (i : ℕ) → bit (rel x) i ≡ true → wait (st x) i ≡ 0) (i p : ℕ) (l : i < t.n) where
    abbrev Within : Type 0
    Within = Lasting.Within t rel (λ z. z) (mid_at early file c plan) (answer_at early file c plan) drew good x (st x) w.sound
        (tasks x now_at) f (plan.times x) (times x now_at) (mid_is x) (λ i u l k. drew_is x i u) w.counts i p

    adds_up : Within → EarlyAccount file c plan x i p
    unfolding mid_at drew
    adds_up k =
        let v = (good.each i l).v_high in
        let now = released (taking t (plan.times x)) (st x) (rel x) in
        let y = sum_upto (vertices t i) 16 (drew k.at i) v (λ u m h. none_past k.at i u k.past l m h) in
        let z = sum_upto (vertices t i) 16 (remaining now i p) v (λ u m h. let q = k.most u h in let n = none_past k.at i u k.past l m h in omega arith) in
        let a = k.adds in
        let all : stood_since t (λ z. z) (mid_at early file c plan) (answer_at early file c plan) i k.at x + sum (vertices t i) (remaining now i p)
        ≡ sum (vertices t i) (drew k.at i) = omega arith in
        record { at = k.at; past = k.past; released = k.released_at; ticks = k.ticks; adds = all }

  account : (i p : ℕ) → i < 16 → p < 4 → live (mid x) i p ≡ true → EarlyAccount file c plan x i p
  account i p b h e = go (rw (mid_is x) at e)
    where
      go : live (released (taking t (plan.times x)) (st x) (rel x)) i p ≡ true → EarlyAccount file c plan x i p
      go l =
          let w = before x now_at in
          let f = free x now_at w in
          let k = OneTick.below t good (st x) w.sound (rel x) (tasks x now_at) f (plan.times x) (times x now_at) i p l in
          adds_up w f i p k.0 (Lasting.within_tick t rel (λ z. z) (mid_at early file c plan) (answer_at early file c plan) drew good x (st x) w.sound
          (tasks x now_at) f (plan.times x) (times x now_at) (mid_is x) (λ i u l k. drew_is x i u) w.counts i p k.0 k.1)

pub early_accounts : EarlyAccounts
unfolding table_of
early_accounts file well c small plan x sporadic times legal answered = account file well (read_good file well) c small plan x sporadic times legal answered
