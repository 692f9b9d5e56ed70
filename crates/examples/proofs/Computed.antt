-- P1 to P12 and the report of A, computed by bare ticks.
use mathlib.Core.Path.{◌≡◌, refl}
use mathlib.Core.Bool.{true}
use Rattle.graph.specs.Words.{flag, bit, sum, all, row_from, row, largest, also_if, those, those_below, lowest, is_in, any_of, is_none, set_of, join_from, in_order, first_or, lowest_or}
use Rattle.graph.specs.Graph.{edge, led_to, sweep, sweeps, acyclic_among, acyclic, done_within, done, one_more, longest_from, maximum, longest}
use Rattle.chains.specs.Chains.{first_with, listed_after, listed_from, first_chain}
use Rattle.table.specs.Memory.{no_succ, no_costs, zero_task, no_tasks, no_row, no_table, no_task, task, vertices, D, succ, edge_in, cost}
use Rattle.table.specs.Memory
use Rattle.table.specs.Numbers.{number, place}
use Rattle.table.specs.Reading.{field, mark_at, ranged, byte_at, value4, ticks_at, not_under, period_at, edge_ok, edge_at, costs_at, add_edge, edges_at, bad_task, parts_at, task_at, put_costs, bad_table, with_task, tasks_at, table_at, refused, ending, read}
use Rattle.table.specs.Writing.{bytes4}
use Rattle.verdict.specs.Verdicts.{vol, len, rounded_up, due, margin, chain, in_places, listed, naming, verdict_on, unread, verdict_read, verdict, figures_on}
use Rattle.text.specs.Text.{text, newline, digits_before, decimal, signed}
use Rattle.reports.specs.Report.{head_line, task_line, vertex_at, last_line, bad_line, report_on, report_read, report}
use Rattle.machine.specs.States.{no_job, idle, task_of, wait, job_at, is_live, deadline_of, live, deadline, jobs_of, remaining, work_of, wrap, ticks_left, left, zeros}
use Rattle.machine.specs.Steps.{task_in, age_in, vertex_in, name_at, is_new, released, clear, available, availables, left_in, before, insert, ranked, own_choice, run_of, worked, finishes, going_on, closed, ended, any_place, finished, missed}
use Rattle.machine.specs.Ticking.{nobody, triple_of, run_list, ticked, judged, advance_to, refuse, when_running}
use Rattle.examples.specs.Examples.{file_a, plain_task, file_one, file_low, same, same_z, flat, eight, same_run, answered, judges, holds, on, goes, lines_a, start_a, examples, AllHold}
use Rattle.examples.proofs.Going.{bare_steps, bare_tick, is_read, bare_plays, bare_opens, bare_due, bare_holds, bare_hold, bare_hold_lem}

computed : bare_hold examples ≡ true
unfolding flag bit sum all row_from row largest also_if those those_below lowest is_in any_of is_none set_of join_from in_order first_or lowest_or edge led_to sweep sweeps acyclic_among acyclic done_within done one_more longest_from maximum longest no_succ no_costs zero_task no_tasks no_row no_table no_task task vertices D succ edge_in cost Memory.T number place field mark_at ranged byte_at value4 ticks_at not_under period_at edge_ok edge_at costs_at add_edge edges_at bad_task parts_at task_at put_costs bad_table with_task tasks_at table_at refused ending read bytes4 vol len rounded_up due margin chain in_places listed naming verdict_on unread verdict_read verdict figures_on first_with listed_after listed_from first_chain text newline digits_before decimal signed head_line task_line vertex_at last_line bad_line report_on report_read report no_job idle task_of wait job_at is_live deadline_of live deadline jobs_of remaining work_of wrap ticks_left left zeros task_in age_in vertex_in name_at is_new released clear available availables left_in before insert ranked own_choice run_of worked finishes going_on closed ended any_place finished missed nobody triple_of run_list ticked judged advance_to refuse when_running file_a plain_task file_one file_low same same_z flat eight same_run answered judges holds on goes lines_a start_a examples bare_steps bare_tick is_read bare_plays bare_opens bare_due bare_holds bare_hold
computed = refl

pub all_hold : AllHold
all_hold = bare_hold_lem examples computed
