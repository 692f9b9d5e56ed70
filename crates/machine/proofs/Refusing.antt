-- A tick's refusals and the parts of its reply: for every file, table, state, release set and way to choose. Each tick is one of the six
-- cases, and each case says its reply.
use Rattle.std.proofs.Common.{◌≡◌, ℕ, ◌<◌, ◌≤◌, false, ◌⊎◌, List, sym, refl, ap, subst, inl, inr, ⊎_elim, arith}
use Rattle.graph.specs.Words.{row}
use Rattle.graph.proofs.Facts.{off_when}
use Rattle.table.specs.declared.Outcome.{Outcome}
use Rattle.table.specs.declared.Outcome.TheVariants.{Read, Short, Mark, Range, Ticks, Order, Edge, Cycle, Extra}
use Rattle.table.specs.declared.Table.{Table}
use Rattle.table.specs.Numbers.{number, place}
use Rattle.table.specs.Reading.{when_read, read}
use Rattle.machine.specs.declared.Phase.TheVariants.{Running, Stopped}
use Rattle.machine.specs.declared.State.{State}
use Rattle.machine.specs.declared.Ticked.{Ticked}
use Rattle.machine.specs.States.{zeros, unopened, open_read, opening}
use Rattle.machine.specs.Steps.{missed}
use Rattle.machine.specs.Fitting.{fits}
use Rattle.machine.specs.Ticking.{nobody, ticked, refuse, tick_on, tick_read, tick_by}
use Rattle.machine.proofs.Clauses.{stopped_below}
use Rattle.machine.proofs.Lowest.{Lowest, None}
use Rattle.machine.proofs.Cases.{beyond, too_soon, after_ends, Case, unfit, halted, no_task_past, early, misses, goes_on_lem, cases}

-- ---- reading's outcome: it read, or it refused with a number from 1 to 8
pub refusal_number : (o : Outcome) → (o ≡ Read → ⊥) → (1 ≤ number o) × (number o ≤ 8)
unfolding number
refusal_number Read h = absurd (h refl)
refusal_number (Short p) h = (omega arith, omega arith)
refusal_number (Mark p) h = (omega arith, omega arith)
refusal_number (Range p) h = (omega arith, omega arith)
refusal_number (Ticks p) h = (omega arith, omega arith)
refusal_number (Order p) h = (omega arith, omega arith)
refusal_number (Edge p) h = (omega arith, omega arith)
refusal_number (Cycle p) h = (omega arith, omega arith)
refusal_number (Extra p) h = (omega arith, omega arith)

pub refusal_stops : {X : Type 0} (o : Outcome) → (o ≡ Read → ⊥) → (stop : Outcome → X) (go : Unit {0} → X) → when_read o stop go ≡ stop o
refusal_stops Read h stop go = absurd (h refl)
refusal_stops (Short p) h stop go = refl
refusal_stops (Mark p) h stop go = refl
refusal_stops (Range p) h stop go = refl
refusal_stops (Ticks p) h stop go = refl
refusal_stops (Order p) h stop go = refl
refusal_stops (Edge p) h stop go = refl
refusal_stops (Cycle p) h stop go = refl
refusal_stops (Extra p) h stop go = refl

pub read_or_not : (o : Outcome) → (o ≡ Read) ⊎ (o ≡ Read → ⊥)
unfolding number
read_or_not Read = inl refl
read_or_not (Short p) = inr (λ e. let z = ap number e in omega arith)
read_or_not (Mark p) = inr (λ e. let z = ap number e in omega arith)
read_or_not (Range p) = inr (λ e. let z = ap number e in omega arith)
read_or_not (Ticks p) = inr (λ e. let z = ap number e in omega arith)
read_or_not (Order p) = inr (λ e. let z = ap number e in omega arith)
read_or_not (Edge p) = inr (λ e. let z = ap number e in omega arith)
read_or_not (Cycle p) = inr (λ e. let z = ap number e in omega arith)
read_or_not (Extra p) = inr (λ e. let z = ap number e in omega arith)

-- ---- "A refused tick returns the same state, eight unused places and the empty set."
pub record Refused (st : State) (x : Ticked) : Type 0 where
  pub state : x.state ≡ st
  pub ran : x.answer.ran ≡ row 8 (λ j. nobody)
  pub finished : x.answer.finished ≡ 0

pub refuse_refused : (st : State) (n p k : ℕ) → Refused st (refuse st n p k)
unfolding refuse
refuse_refused st n p k = record { state = refl; ran = refl; finished = refl }

-- A REPLY on a table: "the place is 0 except for reading's numbers, the task 255 except for 31, 33 and 34"; 31 names the lowest
-- bit at or above n, 33 the lowest named task with a wait above 0, 34 the lowest task with a live job at its deadline
pub record Replies (choose : Table → State → List ℕ) (t : Table) (st : State) (named : ℕ) (x : Ticked) : Type 0 where
  pub number : (x.answer.reply.number ≡ 0) ⊎ (30 ≤ x.answer.reply.number)
  pub place : x.answer.reply.place ≡ 0
  pub task : (x.answer.reply.number ≡ 31 → ⊥) → (x.answer.reply.number ≡ 33 → ⊥) → (x.answer.reply.number ≡ 34 → ⊥) → x.answer.reply.task ≡ 255
  pub names_31 : x.answer.reply.number ≡ 31 → Lowest 16 (beyond t named) x.answer.reply.task
  pub names_33 : x.answer.reply.number ≡ 33 → None 16 (beyond t named) × Lowest t.n (too_soon st named) x.answer.reply.task
  pub names_34 : x.answer.reply.number ≡ 34 → Lowest 16 (missed (after_ends choose t st named)) x.answer.reply.task
  pub refuses : (x.answer.reply.number ≡ 0 → ⊥) → (x.answer.reply.number ≡ 34 → ⊥) → Refused st x

module _ (choose : Table → State → List ℕ) (t : Table) (st : State) (named : ℕ) where
  -- 30 and 32
  says_bare : (n : ℕ) → 30 ≤ n → n < 33 → (n ≡ 31 → ⊥) → Replies choose t st named (refuse st n 0 255)
  unfolding refuse
  says_bare n low high other = record {
    number = inr low;
    place = refl;
    task = λ a b c. refl;
    names_31 = λ e. absurd (other e);
    names_33 = λ e. absurd (omega arith);
    names_34 = λ e. absurd (omega arith);
    refuses = λ a b. refuse_refused st n 0 255;
  }

  says_31 : (i : ℕ) → Lowest 16 (beyond t named) i → Replies choose t st named (refuse st 31 0 i)
  unfolding refuse
  says_31 i l = record {
    number = inr (omega arith);
    place = refl;
    task = λ a b c. absurd (a refl);
    names_31 = λ e. l;
    names_33 = λ e. absurd (omega arith);
    names_34 = λ e. absurd (omega arith);
    refuses = λ a b. refuse_refused st 31 0 i;
  }

  says_33 : (i : ℕ) → None 16 (beyond t named) → Lowest t.n (too_soon st named) i → Replies choose t st named (refuse st 33 0 i)
  unfolding refuse
  says_33 i n l = record {
    number = inr (omega arith);
    place = refl;
    task = λ a b c. absurd (b refl);
    names_31 = λ e. absurd (omega arith);
    names_33 = λ e. (n, l);
    names_34 = λ e. absurd (omega arith);
    refuses = λ a b. refuse_refused st 33 0 i;
  }

  says_34 : (i : ℕ) → Lowest 16 (missed (after_ends choose t st named)) i → (chosen : List ℕ) (done : ℕ) (next : State)
      → Replies choose t st named (ticked 34 i chosen done next)
  unfolding ticked
  says_34 i l chosen done next = record {
    number = inr (omega arith);
    place = refl;
    task = λ a b c. absurd (c refl);
    names_31 = λ e. absurd (omega arith);
    names_33 = λ e. absurd (omega arith);
    names_34 = λ e. l;
    refuses = λ a b. absurd (b refl);
  }

  says_0 : (chosen : List ℕ) (done : ℕ) (next : State) → Replies choose t st named (ticked 0 255 chosen done next)
  unfolding ticked
  says_0 chosen done next = record {
    number = inl refl;
    place = refl;
    task = λ a b c. refl;
    names_31 = λ e. absurd (omega arith);
    names_33 = λ e. absurd (omega arith);
    names_34 = λ e. absurd (omega arith);
    refuses = λ a b. absurd (a refl);
  }

  -- EVERY REPLY is by these rules
  pub replies : Replies choose t st named (tick_on choose t st named)
  replies = go (tick_on choose t st named) (cases choose t st named)
    where
      go : (x : Ticked) → Case choose t st named x → Replies choose t st named x
      go x (unfit e q) = subst (Replies choose t st named) (sym q) (says_bare 30 (omega arith) (omega arith) (λ z. absurd (omega arith)))
      go x (halted e k p q) = subst (Replies choose t st named) (sym q) (says_bare 32 (omega arith) (omega arith) (λ z. absurd (omega arith)))
      go x (no_task_past e p i l q) = subst (Replies choose t st named) (sym q) (says_31 i l)
      go x (early e p n i l q) = subst (Replies choose t st named) (sym q) (says_33 i n l)
      go x (misses a i l q) = subst (Replies choose t st named) (sym q) (says_34 i l _ _ _)
      go x (goes_on_lem a n q) = subst (Replies choose t st named) (sym q) (says_0 _ _ _)

-- THE REFUSALS of a tick that takes bytes, in one statement
module _ (choose : Table → State → List ℕ) (s : List ℕ) (st : State) (named : ℕ) where
  abbrev answered : Ticked
  answered = tick_by choose s st named

  -- a file that is not read: its number and place, task 255
  pub unread : ((read s).outcome ≡ Read → ⊥) → tick_by choose s st named ≡ refuse st (number (read s).outcome) (place (read s).outcome) 255
  unfolding tick_by tick_read
  unread h = refusal_stops (read s).outcome h _ _

  -- one that is: its table
  pub on_table : (read s).outcome ≡ Read → tick_by choose s st named ≡ tick_on choose (read s).table st named
  unfolding tick_by tick_read
  on_table e = ap (λ (o : Outcome). when_read o (λ o. refuse st (number o) (place o) 255) (λ _. tick_on choose (read s).table st named)) e

  -- what holds of a tick on the file's table and of a refused reading holds of the tick
  pub either_way : (P : Ticked → Type 0) → ((read s).outcome ≡ Read → P (tick_on choose (read s).table st named))
      → (((read s).outcome ≡ Read → ⊥) → P (refuse st (number (read s).outcome) (place (read s).outcome) 255)) → P answered
  either_way P f g = ⊎_elim
      (λ e. subst P (sym (on_table e)) (f e))
      (λ h. subst P (sym (unread h)) (g h))
      (read_or_not (read s).outcome)

  -- "the place is 0 except for reading's numbers", 1 to 8
  pub place_zero : (answered.answer.reply.number ≡ 0) ⊎ (9 ≤ answered.answer.reply.number) → answered.answer.reply.place ≡ 0
  unfolding refuse
  place_zero = either_way (λ x. (x.answer.reply.number ≡ 0) ⊎ (9 ≤ x.answer.reply.number) → x.answer.reply.place ≡ 0)
      (λ e n. (replies choose (read s).table st named).place)
      (λ h n. let b = refusal_number (read s).outcome h in absurd (⊎_elim (λ k. omega (arith, b.0)) (λ k. omega (arith, b.1)) n))

  -- "the task 255 except for 31, 33 and 34"
  pub task_255 : (answered.answer.reply.number ≡ 31 → ⊥) → (answered.answer.reply.number ≡ 33 → ⊥) → (answered.answer.reply.number ≡ 34 → ⊥)
      → answered.answer.reply.task ≡ 255
  unfolding refuse
  task_255 = either_way (λ x. (x.answer.reply.number ≡ 31 → ⊥) → (x.answer.reply.number ≡ 33 → ⊥) → (x.answer.reply.number ≡ 34 → ⊥) → x.answer.reply.task ≡ 255)
      (λ e. (replies choose (read s).table st named).task)
      (λ h a b c. refl)

  -- a tick that is not answered 0 or 34 returns the same state, eight unused places and the empty set
  pub refused_tick : (answered.answer.reply.number ≡ 0 → ⊥) → (answered.answer.reply.number ≡ 34 → ⊥) → Refused st answered
  refused_tick = either_way (λ x. (x.answer.reply.number ≡ 0 → ⊥) → (x.answer.reply.number ≡ 34 → ⊥) → Refused st x)
      (λ e. (replies choose (read s).table st named).refuses)
      (λ h a b. refuse_refused st _ _ 255)

-- OPENING'S REPLY is reading's number and place, 0 and 0 where it read; its task is 255
pub opening_reply : (s : List ℕ) (clock : ℕ) → (opening s clock).reply ≡ record { number = number (read s).outcome; place = place (read s).outcome; task = 255 }
unfolding opening open_read unopened number place
opening_reply s clock = go (read s).outcome
  where
    go : (o : Outcome) → (when_read o unopened (λ _. record { reply = record { number = 0; place = 0; task = 255 }; state = zeros clock Running })).reply
        ≡ record { number = number o; place = place o; task = 255 }
    go Read = refl
    go (Short p) = refl
    go (Mark p) = refl
    go (Range p) = refl
    go (Ticks p) = refl
    go (Order p) = refl
    go (Edge p) = refl
    go (Cycle p) = refl
    go (Extra p) = refl

-- A REFUSED OPENING: reading's number and place, task 255, a state of zeros that is stopped at task 255
pub opening_refused : (s : List ℕ) (clock : ℕ) → ((read s).outcome ≡ Read → ⊥) → opening s clock ≡ unopened (read s).outcome
unfolding opening open_read
opening_refused s clock h = refusal_stops (read s).outcome h _ _

-- that state fits no table of the format, whose n is at most 16
pub unopened_unfit : (t : Table) → t.n ≤ 16 → (c : ℕ) → fits t (zeros c (Stopped 255)) ≡ false
unfolding zeros
unopened_unfit t h c = off_when (fits t (zeros c (Stopped 255))) (λ e. let b = stopped_below t (zeros c (Stopped 255)) e 255 refl in omega arith)
