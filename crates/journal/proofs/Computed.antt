-- The examples hold, by computing.
use Rattle.graph.specs.Words.{flag, bit, sum, all, row_from, row, largest, also_if, those, those_below, is_in, any_of, is_none, set_of, first_or, lowest_or}
use Rattle.graph.specs.Graph.{edge, led_to, done_within, done, sweep, sweeps, acyclic_among, acyclic}
use Rattle.table.specs.Memory.{no_succ, no_costs, zero_task, no_tasks, no_row, no_table, no_task, task, vertices, D, succ, edge_in, cost}
use Rattle.table.specs.Memory
use Rattle.table.specs.Numbers.{number, place}
use Rattle.table.specs.Reading.{field, mark_at, ranged, byte_at, value4, ticks_at, not_under, period_at, edge_ok, edge_at, costs_at, add_edge, edges_at, bad_task, parts_at, task_at, put_costs, bad_table, with_task, tasks_at, table_at, refused, ending, read}
use Rattle.machine.specs.States.{no_job, idle, task_of, wait, job_at, is_live, deadline_of, live, deadline, jobs_of, remaining, work_of, wrap, ticks_left, left, zeros}
use Rattle.machine.specs.Steps.{task_in, age_in, vertex_in, name_at, is_new, released, clear, available, availables, left_in, run_of, worked, finishes, going_on, closed, ended, any_place, finished, missed}
use Rattle.machine.specs.Ticking.{nobody, triple_of, run_list, ticked, judged, advance_to, advance}
use Rattle.journal.specs.Rows.{row_set, row_count, row_task, row_age, row_vertex, row_end, row_key, listed, is_stopped, cut_short, wrong_mark, row_triple, ascending, bad_list, triple_available, not_available, too_few, passes_over, choice_fault, set_fault, fault}
use Rattle.journal.specs.Judging.{ruled, judge_row, is_over, rows_for, judge_rows, start, ruling, judge_on, unread, judge_read, judge}
use Rattle.journal.specs.Examples as E
use Rattle.journal.specs.Examples.{three, pair, late, often, line, begins, runs, same, holds, hold, accepts, refuses, examples, AllHold}

pub all_hold : AllHold
unfolding flag bit sum all row_from row largest also_if those those_below is_in any_of is_none set_of first_or lowest_or edge led_to done_within done sweep sweeps acyclic_among acyclic no_succ no_costs zero_task no_tasks no_row no_table no_task task vertices D Memory.T succ edge_in cost number place field mark_at ranged byte_at value4 ticks_at not_under period_at edge_ok edge_at costs_at add_edge edges_at bad_task parts_at task_at put_costs bad_table with_task tasks_at table_at refused ending read no_job idle task_of wait job_at is_live deadline_of live deadline jobs_of remaining work_of wrap ticks_left left zeros task_in age_in vertex_in name_at is_new released clear available availables left_in run_of worked finishes going_on closed ended any_place finished missed nobody triple_of run_list ticked judged advance_to advance row_set row_count row_task row_age row_vertex row_end row_key listed is_stopped cut_short wrong_mark row_triple ascending bad_list triple_available not_available too_few passes_over choice_fault set_fault fault ruled judge_row is_over rows_for judge_rows start ruling judge_on unread judge_read judge E.task three pair late often line begins runs same holds hold accepts refuses examples
all_hold = tt
