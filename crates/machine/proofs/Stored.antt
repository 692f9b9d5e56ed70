-- THE STORED WORK IS KEPT (document 02, M-104): "opening, release, running, finishing and stopping keep it equal to the sum of its vertices'
-- remainings", and so does a refused tick; for every table, every way to choose and every release set. For each step keeps it (proofs/Working.antt).
use Rattle.std.proofs.Common.{◌≡◌, ℕ, ◌<◌, true, ◌&&◌, List, sym, subst, ⊎_elim}
use Rattle.table.specs.declared.Table.{Table}
use Rattle.table.specs.Reading.{read}
use Rattle.machine.specs.declared.Phase.TheVariants.{Running, Stopped}
use Rattle.machine.specs.declared.State.{State}
use Rattle.machine.specs.declared.Opened.{Opened}
use Rattle.machine.specs.declared.Ticked.{Ticked}
use Rattle.machine.specs.States.{live, zeros, unopened, open_read, opening}
use Rattle.machine.specs.Steps.{released, own_choice, finishes, finished}
use Rattle.machine.specs.Fitting.{nothing_left, fits}
use Rattle.machine.specs.Ticking.{ticked, refuse, tick_on, tick_by, tick}
use Rattle.machine.proofs.Working.{WorkKept, zeros_keep, released_keep, worked_keep, ended_keep, finish_test}
use Rattle.machine.proofs.Fitted.{fits_work}
use Rattle.machine.proofs.Cases.{chosen_in, after_work, after_ends, Case, unfit, halted, no_task_past, early, misses, goes_on_lem, cases}
use Rattle.machine.proofs.Refusing.{refusal_stops, read_or_not, either_way}
use Rattle.machine.proofs.Files.{opening_read}

module _ (choose : Table → State → List ℕ) (t : Table) (st : State) (named : ℕ) (kept : WorkKept st) where
  after_work_lem : WorkKept (after_work choose t st named)
  after_work_lem = worked_keep t (released t st named) named (chosen_in choose t st named) (released_keep t st named kept)

  refused : (n task : ℕ) → WorkKept (refuse st n 0 task).state
  unfolding refuse
  refused n task = kept

  done : WorkKept (ticked 0 255 (chosen_in choose t st named) (finished (after_work choose t st named)) (after_ends choose t st named)).state
  unfolding ticked
  done = ended_keep (after_work choose t st named) after_work_lem

  stops : (k : ℕ) → WorkKept (ticked 34 k (chosen_in choose t st named) (finished (after_work choose t st named)) (zeros (after_ends choose t st named).clock (Stopped k))).state
  unfolding ticked
  stops k = zeros_keep (after_ends choose t st named).clock (Stopped k)

  -- EVERY TICK KEEPS IT
  pub tick_keeps_work : WorkKept (tick_on choose t st named).state
  tick_keeps_work = go (tick_on choose t st named) (cases choose t st named)
    where
      go : (x : Ticked) → Case choose t st named x → WorkKept x.state
      go x (unfit e q) = subst (λ (y : Ticked). WorkKept y.state) (sym q) (refused 30 255)
      go x (halted e k p q) = subst (λ (y : Ticked). WorkKept y.state) (sym q) (refused 32 255)
      go x (no_task_past e p k l q) = subst (λ (y : Ticked). WorkKept y.state) (sym q) (refused 31 k)
      go x (early e p m k l q) = subst (λ (y : Ticked). WorkKept y.state) (sym q) (refused 33 k)
      go x (misses a k l q) = subst (λ (y : Ticked). WorkKept y.state) (sym q) (stops k)
      go x (goes_on_lem a m q) = subst (λ (y : Ticked). WorkKept y.state) (sym q) done

  -- and in each the finish test asks whether nothing remains
  pub finish_means : (i p : ℕ) → i < 16 → p < 4
      → finishes (after_work choose t st named) i p ≡ (live (after_work choose t st named) i p && nothing_left (after_work choose t st named) i p)
  finish_means i p b h = finish_test (after_work choose t st named) after_work_lem i p b h

-- FROM A STATE THAT FITS every tick leaves each job's work the sum of its vertices' remainings
pub work_kept : (choose : Table → State → List ℕ) (t : Table) (st : State) (named : ℕ) → fits t st ≡ true → WorkKept (tick_on choose t st named).state
work_kept choose t st named f = tick_keeps_work choose t st named (fits_work t st f)

-- ON A FILE, read or not: opening gives it, and each tick keeps it
pub opening_work : (s : List ℕ) (clock : ℕ) → WorkKept (opening s clock).state
unfolding opening open_read unopened
opening_work s clock = ⊎_elim
    (λ e. subst (λ (x : Opened). WorkKept x.state) (sym (opening_read s e clock)) (zeros_keep clock Running))
    (λ h. subst (λ (x : Opened). WorkKept x.state) (sym (refusal_stops (read s).outcome h unopened _)) (zeros_keep 0 (Stopped 255)))
    (read_or_not (read s).outcome)

pub file_work_kept : (choose : Table → State → List ℕ) (s : List ℕ) (st : State) (named : ℕ) → WorkKept st → WorkKept (tick_by choose s st named).state
unfolding refuse
file_work_kept choose s st named kept =
    either_way choose s st named (λ x. WorkKept x.state) (λ e. tick_keeps_work choose (read s).table st named kept) (λ h. kept)

pub own_work_kept : (s : List ℕ) (st : State) (named : ℕ) → WorkKept st → WorkKept (tick s st named).state
unfolding tick
own_work_kept s st named kept = file_work_kept own_choice s st named kept
