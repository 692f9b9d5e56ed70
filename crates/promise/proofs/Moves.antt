-- WHAT THE TWO KINDS OF RUN SHARE: with releases that are due, a tick makes step 1 with the times drawn, then steps 4 to 6. Of a stated run this is so because
-- its states stand, so they fit and nothing is refused; of an early run it is how its tick is defined.
use mathlib.Core.Path.{◌≡◌, refl, sym, ap, subst, ◌∙◌}
use mathlib.Core.Bool.{Bool, true, false, ◌&&◌}
use mathlib.Core.List.{List}
use Prim.Native.Nat.{ℕ, ◌^◌, ◌≤◌, ◌<◌}
use native.Mathlib.Omega.{arith}
use lib.ListN.{get_or}
use lib.Dec.{ltb, leb}
use borrow.Author.Tests.{ltb-true, leb-true, ltb-false, leb-false}
use Rattle.graph.specs.Words.{bit, is_in}
use Rattle.graph.proofs.Facts.{clash, both_true, off_when}
use Rattle.graph.proofs.Members.{held_below}
use Rattle.table.specs.declared.Table.{Table}
use Rattle.table.specs.declared.Outcome.{Outcome}
use Rattle.table.specs.declared.Outcome.TheVariants.{Read}
use Rattle.table.specs.Numbers.{number, place}
use Rattle.table.specs.Reading.{when_read, read}
use Rattle.table.specs.Good.{GoodTable}
use Rattle.machine.specs.declared.Phase.TheVariants.{Running}
use Rattle.machine.specs.declared.State.{State}
use Rattle.machine.specs.States.{wait, jobs_of, left, zeros, unopened, open_read, opening}
use Rattle.machine.specs.Steps.{released, available, worked, ended}
use Rattle.machine.specs.Ticking.{advance_to, advance, refuse, tick_on, tick_read, tick_by}
use Rattle.machine.proofs.Cases.{beyond, too_soon, Admitted, admitted_advances}
use Rattle.machine.proofs.Standing.{Standing, opened_stands, stands_fits}
use Rattle.machine.proofs.Within.{mid}
use Rattle.machine.proofs.Moving.{ran, next, next_stands}
use Rattle.promise.specs.Runs.{table_of, taking, Kind, stated, early, Drawn}
use Rattle.promise.proofs.Costs.{stated_drawn, taking_own}

-- ---- a file that is read
module _ (file : List ℕ) (well : (read file).outcome ≡ Read) where
  pub opens : (c : ℕ) → (opening file c).state ≡ zeros c Running
  unfolding opening open_read
  opens c = ap (λ (o : Outcome). (when_read o unopened (λ _. record { reply = record { number = 0; place = 0; task = 255 }; state = zeros c Running })).state) well

  pub ticks : (choose : Table → State → List ℕ) (st : State) (named : ℕ) → tick_by choose file st named ≡ tick_on choose (table_of file) st named
  unfolding tick_by tick_read table_of
  ticks choose st named = ap (λ (o : Outcome). when_read o (λ o. refuse st (number o) (place o) 255) (λ _. tick_on choose (read file).table st named)) well

-- ---- releases that are due, on a state that stands, are not refused
module _ (t : Table) (good : GoodTable t) (st : State) (s : Standing t st) (named : ℕ)
    (tasks : (i : ℕ) → bit named i ≡ true → i < t.n) (free : (i : ℕ) → bit named i ≡ true → wait st i ≡ 0) (choose : Table → State → List ℕ) where
  admitted : Admitted choose t st named
  unfolding beyond too_soon
  admitted = record {
    fitting = stands_fits t good st s;
    running = s.running;
    tasks = λ i b. off_when _ (λ e.
        let h = both_true (bit named i) (leb t.n i) e in
        let l = tasks i h.0 in
        let k = leb-true t.n i h.1 in
        omega arith);
    free = λ i b. off_when _ (λ e.
        let h = both_true (bit named i) (ltb 0 (wait st i)) e in
        let l = free i h.0 in
        let k = ltb-true 0 (wait st i) h.1 in
        omega arith);
  }

  on_table : tick_on choose t st named ≡ advance_to (choose t (released t st named)) (worked t (released t st named) named (choose t (released t st named)))
  unfolding advance
  on_table = admitted_advances choose t st named admitted

-- ---- and releases that are not refused are due: they name tasks of the file whose wait is 0
not_both : (a b : Bool) → a && b ≡ false → a ≡ true → b ≡ false
not_both true b h e = h
not_both false b h e = absurd (clash e refl)

module _ (choose : Table → State → List ℕ) (t : Table) (st : State) (named : ℕ) (small : named < 2 ^ 16) (a : Admitted choose t st named) where
  pub names_tasks_lem : (i : ℕ) → bit named i ≡ true → i < t.n
  unfolding beyond
  names_tasks_lem i e = leb-false t.n i (not_both (bit named i) _ (a.tasks i (held_below named i small e)) e)

  pub finds_free : (i : ℕ) → bit named i ≡ true → wait st i ≡ 0
  unfolding too_soon
  finds_free i e = let z = ltb-false 0 (wait st i) (not_both (bit named i) _ (a.free i (names_tasks_lem i e)) e) in omega arith

-- ---- the state within a tick, and that after it
abbrev pub within : Table → State → ℕ → List ℕ → State
within t st named times = released (taking t times) st named

abbrev pub after : Table → State → ℕ → List ℕ → List ℕ → State
after t st named times chosen = ended (worked t (within t st named times) named chosen)

-- ---- a kind of run, by what is true of its states beside that they are safe
pub record Going (kind : Kind) : Type 1 where
  pub Also : Table → State → Type 0
  pub first : (t : Table) → GoodTable t → (c : ℕ) → c < 2 ^ 32 → Also t (zeros c Running)
  pub drawn : (t : Table) (times : List ℕ) → kind.Times t times → Drawn t times
  -- how a tick goes
  pub goes : (file : List ℕ) → (read file).outcome ≡ Read → GoodTable (table_of file) → (st : State) → Also (table_of file) st
      → (named : ℕ) → ((i : ℕ) → bit named i ≡ true → i < (table_of file).n) → ((i : ℕ) → bit named i ≡ true → wait st i ≡ 0)
      → (times : List ℕ) → kind.Times (table_of file) times → (chosen : List ℕ)
      → kind.tick file st named times chosen ≡ advance_to chosen (worked (table_of file) (within (table_of file) st named times) named chosen)
  -- and that it is true again where no deadline is missed
  pub again : (t : Table) → GoodTable t → (st : State) → Also t st
      → (named : ℕ) → ((i : ℕ) → bit named i ≡ true → i < t.n) → ((i : ℕ) → bit named i ≡ true → wait st i ≡ 0)
      → (times : List ℕ) → kind.Times t times
      → (chosen : List ℕ) → ((k : ℕ) → is_in k chosen ≡ true → available t (within t st named times) k ≡ true)
      → ((i q : ℕ) → i < t.n → q < jobs_of (after t st named times chosen) i → 1 ≤ left (after t st named times chosen) i q)
      → Also t (after t st named times chosen)

-- stated: the states stand
own_within : (t : Table) (st : State) (named : ℕ) (times : List ℕ) → times ≡ t.costs → released t st named ≡ within t st named times
own_within t st named times e = ap (λ (d : Table). released d st named) (sym (ap (taking t) e ∙ taking_own t))

stated_goes : (file : List ℕ) → (read file).outcome ≡ Read → GoodTable (table_of file) → (st : State) → Standing (table_of file) st
    → (named : ℕ) → ((i : ℕ) → bit named i ≡ true → i < (table_of file).n) → ((i : ℕ) → bit named i ≡ true → wait st i ≡ 0)
    → (times : List ℕ) → times ≡ (table_of file).costs → (chosen : List ℕ)
    → tick_by (λ t s. chosen) file st named ≡ advance_to chosen (worked (table_of file) (within (table_of file) st named times) named chosen)
stated_goes file well good st s named tasks free times e chosen =
    ticks file well (λ t s. chosen) st named
    ∙ on_table (table_of file) good st s named tasks free (λ t s. chosen)
    ∙ ap (λ (m : State). advance_to chosen (worked (table_of file) m named chosen)) (own_within (table_of file) st named times e)

module _ (t : Table) (good : GoodTable t) (st : State) (s : Standing t st) (named : ℕ)
    (tasks : (i : ℕ) → bit named i ≡ true → i < t.n) (free : (i : ℕ) → bit named i ≡ true → wait st i ≡ 0) (chosen : List ℕ) where
  pub own : ((k : ℕ) → is_in k chosen ≡ true → available t (released t st named) k ≡ true)
      → ((i q : ℕ) → i < t.n → q < jobs_of (ended (worked t (released t st named) named chosen)) i → 1 ≤ left (ended (worked t (released t st named) named chosen)) i q)
      → Standing t (ended (worked t (released t st named) named chosen))
  unfolding next ran mid
  own only kept = next_stands t good st s named tasks free chosen only kept

  -- where the state within the tick is the one that the releases of the table itself make
  stated_by : (m : State) → released t st named ≡ m → ((k : ℕ) → is_in k chosen ≡ true → available t m k ≡ true)
      → ((i q : ℕ) → i < t.n → q < jobs_of (ended (worked t m named chosen)) i → 1 ≤ left (ended (worked t m named chosen)) i q)
      → Standing t (ended (worked t m named chosen))
  stated_by m e = subst (λ (m : State). ((k : ℕ) → is_in k chosen ≡ true → available t m k ≡ true)
      → ((i q : ℕ) → i < t.n → q < jobs_of (ended (worked t m named chosen)) i → 1 ≤ left (ended (worked t m named chosen)) i q)
      → Standing t (ended (worked t m named chosen))) e own

pub stated_going : Going stated
stated_going = record {
  Also = Standing;
  first = opened_stands;
  drawn = λ t times e. stated_drawn t times (λ k b. ap (λ (l : List ℕ). get_or l k 0) e);
  goes = stated_goes;
  again = λ t good st s named tasks free times e chosen only kept. stated_by t good st s named tasks free chosen (within t st named times) (own_within t st named times e) only kept;
}

-- early: nothing more
pub early_going : Going early
early_going = record {
  Also = λ t st. Unit;
  first = λ t good c h. tt;
  drawn = λ t times h. h;
  goes = λ file well good st s named tasks free times e chosen. refl;
  again = λ t good st s named tasks free times e chosen only kept. tt;
}
