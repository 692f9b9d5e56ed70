-- A simulation that goes well, a later release that misses, and the verdict, computed by bare ticks.
use mathlib.Core.Path.{◌≡◌, refl, sym, ap, ◌∙◌}
use mathlib.Core.Bool.{true}
use Prim.Native.Nat.{◌^◌}
use lib.Dec.{T, ltb, ltb→lt}
use Rattle.graph.specs.Words.{flag, bit, sum, all, row_from, row, largest, also_if, those, those_below, lowest, is_in, any_of, is_none, set_of, join_from, in_order, first_or, lowest_or}
use Rattle.graph.specs.Graph.{edge, led_to, sweep, sweeps, acyclic_among, acyclic, done_within, done, one_more, longest_from, maximum, longest}
use Rattle.chains.specs.Chains.{first_with, listed_after, listed_from, first_chain}
use Rattle.table.specs.Memory.{no_succ, no_costs, zero_task, no_tasks, no_row, no_table, no_task, task, vertices, D, succ, edge_in, cost}
use Rattle.table.specs.Memory
use Rattle.table.specs.Numbers.{number, place}
use Rattle.table.specs.Reading.{field, mark_at, ranged, byte_at, value4, ticks_at, not_under, period_at, edge_ok, edge_at, costs_at, add_edge, edges_at, bad_task, parts_at, task_at, put_costs, bad_table, with_task, tasks_at, table_at, refused, ending, read}
use Rattle.table.specs.Writing.{bytes4}
use Rattle.table.specs.declared.Outcome.TheVariants.{Read}
use Rattle.verdict.specs.Verdicts.{vol, len, rounded_up, due, margin, chain, in_places, listed, naming, verdict_on, unread, verdict_read, verdict}
use Rattle.machine.specs.declared.Phase.TheVariants.{Running}
use Rattle.machine.specs.declared.State.{State}
use Rattle.machine.specs.States.{no_job, idle, task_of, wait, job_at, is_live, deadline_of, live, deadline, jobs_of, remaining, work_of, wrap, ticks_left, left, zeros}
use Rattle.machine.specs.Steps.{task_in, age_in, vertex_in, name_at, is_new, released, clear, available, availables, left_in, before, insert, ranked, own_choice, run_of, worked, finishes, going_on, closed, ended, any_place, finished, missed}
use Rattle.machine.specs.Ticking.{nobody, triple_of, run_list, ticked, judged, advance_to, refuse, when_running}
use Rattle.examples.specs.Examples.{same, same_z, flat, eight, same_run, answered, judges, holds, on, goes}
use Rattle.examples.specs.Later.{file_later, at_once, later, after, LaterHolds}
use Rattle.examples.proofs.Going.{bare_steps, bare_tick, is_read, bare_plays, bare_opens, bare_due, bare_holds, bare_hold, bare_after, small_sets, bare_hold_lem, bare_after_lem, start_is, start_fine}

record Computed : Type 0 where
  examples : bare_hold later ≡ true
  is_read_lem : (read file_later).outcome ≡ Read
  sets : small_sets at_once ≡ true
  clock : T (ltb 0 (2 ^ 32))
  round : bare_after (read file_later).table (zeros 0 Running) at_once ≡ zeros 6 Running

computed : Computed
unfolding flag bit sum all row_from row largest also_if those those_below lowest is_in any_of is_none set_of join_from in_order first_or lowest_or edge led_to sweep sweeps acyclic_among acyclic done_within done one_more longest_from maximum longest no_succ no_costs zero_task no_tasks no_row no_table no_task task vertices D succ edge_in cost Memory.T number place field mark_at ranged byte_at value4 ticks_at not_under period_at edge_ok edge_at costs_at add_edge edges_at bad_task parts_at task_at put_costs bad_table with_task tasks_at table_at refused ending read bytes4 vol len rounded_up due margin chain in_places listed naming verdict_on unread verdict_read verdict first_with listed_after listed_from first_chain no_job idle task_of wait job_at is_live deadline_of live deadline jobs_of remaining work_of wrap ticks_left left zeros task_in age_in vertex_in name_at is_new released clear available availables left_in before insert ranked own_choice run_of worked finishes going_on closed ended any_place finished missed nobody triple_of run_list ticked judged advance_to refuse when_running same same_z flat eight same_run answered judges holds on goes file_later at_once later bare_steps bare_tick is_read bare_plays bare_opens bare_due bare_holds bare_hold bare_after small_sets
computed = record { examples = refl; is_read_lem = refl; sets = refl; clock = tt; round = refl }

pub later_holds : LaterHolds
later_holds = record {
  examples = bare_hold_lem later computed.examples;
  round =
      ap (λ (st : State). after file_later st at_once) (start_is file_later computed.is_read_lem 0)
      ∙ bare_after_lem file_later computed.is_read_lem at_once (zeros 0 Running) (start_fine file_later computed.is_read_lem 0 (ltb→lt 0 (2 ^ 32) computed.clock)) computed.sets
      ∙ computed.round
      ∙ sym (start_is file_later computed.is_read_lem 6);
}
