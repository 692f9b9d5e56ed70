-- For each public function: any two results that its contract allows are equal. The contract is the one that the checker reads from the source.
use Rattle.std.proofs.Common.{◌≡◌}
use seplogic.Ra.Ura.{Ura}
use base.Logic.{SProp, ent, emp}
use prog.Memory.{Memory}
use prog.Routine.{Routine}
use types.Logic.{Logic}
use contract.Conj.{conj}
use contract.Monad.{Fun, fact, fact_i, guard-conj, conj-guard}
use contract.Lifetimes.{Lfts}
use denote.Triple.Entry.{Args}
use denote.Triple.Clauses.{AtExit}
use Rattle.graph.proofs.Unique.{by_definition}
use Rattle.table.proofs.Unique.{OneResult}
use Rattle.machine.proofs.opening.open.Kinds as open-kinds
use Rattle.machine.proofs.opening.open.Reads as open-reads
use Rattle.machine.proofs.opening.zeros.Kinds as zeros-kinds
use Rattle.machine.proofs.opening.zeros.Reads as zeros-reads
use Rattle.machine.proofs.State.tick.Kinds as tick-kinds
use Rattle.machine.proofs.State.tick.Reads as tick-reads
use Rattle.machine.proofs.showing.live_slots.Kinds as live-slots-kinds
use Rattle.machine.proofs.showing.live_slots.Reads as live-slots-reads
use Rattle.machine.proofs.ticking.advance.Kinds as advance-kinds
use Rattle.machine.proofs.ticking.advance.Reads as advance-reads
use Rattle.machine.proofs.ticking.offered.Kinds as offered-kinds
use Rattle.machine.proofs.ticking.offered.Reads as offered-reads
use Rattle.machine.proofs.ticking.first_beyond.Kinds as first-beyond-kinds
use Rattle.machine.proofs.ticking.first_beyond.Reads as first-beyond-reads
use Rattle.machine.proofs.ticking.first_early.Kinds as first-early-kinds
use Rattle.machine.proofs.ticking.first_early.Reads as first-early-reads
use Rattle.machine.proofs.Job.is_live.Kinds as is-live-kinds
use Rattle.machine.proofs.Job.is_live.Reads as is-live-reads
use Rattle.machine.proofs.Job.deadline.Kinds as deadline-kinds
use Rattle.machine.proofs.Job.deadline.Reads as deadline-reads
use Rattle.machine.specs.contracts.tick_in_place as in_place
use Rattle.machine.specs.declared.Answer.{Answer}

pub open_one : OneResult 1 open-kinds.ps open-kinds.r open-reads.Post
open_one κs args x y s t = by_definition

pub zeros_one : OneResult 0 zeros-kinds.ps zeros-kinds.r zeros-reads.Post
zeros_one κs args x y s t = by_definition

pub tick_one : OneResult 1 tick-kinds.ps tick-kinds.r tick-reads.Post
tick_one κs args x y s t = by_definition

-- the set of live slots, for the screen
pub live_slots_one : OneResult 0 live-slots-kinds.ps live-slots-kinds.r live-slots-reads.Post
live_slots_one κs args x y s t = by_definition

-- the steps with a given choice, and what a choice goes by
pub advance_one : OneResult 0 advance-kinds.ps advance-kinds.r advance-reads.Post
advance_one κs args x y s t = by_definition

pub offered_one : OneResult 0 offered-kinds.ps offered-kinds.r offered-reads.Post
offered_one κs args x y s t = by_definition

pub first_beyond_one : OneResult 0 first-beyond-kinds.ps first-beyond-kinds.r first-beyond-reads.Post
first_beyond_one κs args x y s t = by_definition

pub first_early_one : OneResult 0 first-early-kinds.ps first-early-kinds.r first-early-reads.Post
first_early_one κs args x y s t = by_definition

pub is_live_one : OneResult 0 is-live-kinds.ps is-live-kinds.r is-live-reads.Post
is_live_one κs args x y s t = by_definition

pub deadline_one : OneResult 0 deadline-kinds.ps deadline-kinds.r deadline-reads.Post
deadline_one κs args x y s t = by_definition

-- The tick in place is lent a state, and its contract is an assertion: where it holds of two answers and two states at the return, they are equal.
module _ {M : Type 1} {𝓤 : Ura M} (𝓛 : Logic 𝓤) (at_mem : Memory → SProp 𝓤) (run : Routine → Fun 𝓤) (κs : Lfts 2) (args : Args in_place.signature κs) where
  abbrev Allowed : Answer → AtExit in_place.ended κs → SProp 𝓤
  Allowed = (in_place.clauses 𝓛 at_mem run κs args).ensures tt

  pub tick_in_place_one : (x y : Answer) (s t : AtExit in_place.ended κs) → ent 𝓤 (conj 𝓤 (Allowed x s) (Allowed y t)) (fact 𝓤 ((x ≡ y) × (s.0.now ≡ t.0.now)))
  tick_in_place_one x y s t =
      guard-conj 𝓤 _ (emp 𝓤) (Allowed y t) (λ p. conj-guard 𝓤 _ (emp 𝓤) (emp 𝓤) (λ q. fact_i 𝓤 _ _ (by_definition p.0 q.0, by_definition p.1 q.1)))
