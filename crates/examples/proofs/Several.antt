-- Four live jobs of one task, the rule for deadlines and the verdicts, computed.
use mathlib.Core.Path.{◌≡◌, refl}
use mathlib.Core.Bool.{true}
use lib.IntN.{pos}
use mathlib.Core.List.{[], ◌∷◌}
use Rattle.graph.specs.Words.{flag, bit, sum, all, row_from, row, largest, also_if, those, those_below, lowest, is_in, any_of, is_none, set_of, join_from, in_order, first_or, lowest_or}
use Rattle.graph.specs.Graph.{edge, led_to, sweep, sweeps, acyclic_among, acyclic, done_within, done, one_more, longest_from, maximum, longest}
use Rattle.chains.specs.Chains.{first_with, listed_after, listed_from, first_chain}
use Rattle.chains.specs.Tails.{tail}
use Rattle.table.specs.Memory.{no_succ, no_costs, zero_task, no_tasks, no_row, no_table, no_task, task, vertices, D, succ, edge_in, cost}
use Rattle.table.specs.Memory
use Rattle.table.specs.Numbers.{number, place}
use Rattle.table.specs.Reading.{field, mark_at, ranged, byte_at, value4, ticks_at, not_under, period_at, edge_ok, edge_at, costs_at, add_edge, edges_at, bad_task, parts_at, task_at, put_costs, bad_table, with_task, tasks_at, table_at, refused, ending, read}
use Rattle.table.specs.Writing.{bytes4}
use Rattle.verdict.specs.Verdicts.{vol, len, rounded_up, due, margin, chain, in_places, listed, naming, verdict_on, unread, verdict_read, verdict}
use Rattle.sharp.specs.Sharp.{tail_of, asked, due_from, sharp_due, sharp_margin, sharp_naming, sharp_on, sharp_read, sharp}
use Rattle.machine.specs.States.{no_job, idle, task_of, wait, job_at, is_live, deadline_of, live, deadline, jobs_of, remaining, work_of, wrap, ticks_left, left, zeros}
use Rattle.machine.specs.Steps.{task_in, age_in, vertex_in, name_at, is_new, released, clear, available, availables, left_in, before, insert, ranked, own_choice, run_of, worked, finishes, going_on, closed, ended, any_place, finished, missed}
use Rattle.machine.specs.Ticking.{nobody, triple_of, run_list, ticked, judged, advance_to, refuse, when_running}
use Rattle.examples.specs.Examples.{same, same_z, flat, eight, same_run, answered, judges, holds, goes}
use Rattle.examples.specs.Several.{file_d, aged, four_ticks, every_four, several, SeveralHold}
use Rattle.examples.proofs.Going.{bare_steps, bare_tick, is_read, bare_plays, bare_opens, bare_due, bare_holds, bare_hold, bare_hold_lem}

computed : bare_hold several ≡ true
unfolding flag bit sum all row_from row largest also_if those those_below lowest is_in any_of is_none set_of join_from in_order first_or lowest_or edge led_to sweep sweeps acyclic_among acyclic done_within done one_more longest_from maximum longest no_succ no_costs zero_task no_tasks no_row no_table no_task task vertices D succ edge_in cost Memory.T number place field mark_at ranged byte_at value4 ticks_at not_under period_at edge_ok edge_at costs_at add_edge edges_at bad_task parts_at task_at put_costs bad_table with_task tasks_at table_at refused ending read bytes4 vol len rounded_up due margin chain in_places listed naming verdict_on unread verdict_read verdict first_with listed_after listed_from first_chain no_job idle task_of wait job_at is_live deadline_of live deadline jobs_of remaining work_of wrap ticks_left left zeros task_in age_in vertex_in name_at is_new released clear available availables left_in before insert ranked own_choice run_of worked finishes going_on closed ended any_place finished missed nobody triple_of run_list ticked judged advance_to refuse when_running same same_z flat eight same_run answered judges holds goes file_d aged four_ticks every_four several bare_steps bare_tick is_read bare_plays bare_opens bare_due bare_holds bare_hold
computed = refl

by_sharp : sharp (file_d 16) ≡ record { number = 0; place = 0; task = 0; margin = pos 0; count = 1; chain = in_places (0 ∷ []) }
unfolding flag bit sum all row_from row largest also_if those those_below lowest is_in any_of is_none set_of join_from in_order first_or lowest_or edge led_to sweep sweeps acyclic_among acyclic done_within done one_more longest_from maximum longest no_succ no_costs zero_task no_tasks no_row no_table no_task task vertices D succ edge_in cost Memory.T number place field mark_at ranged byte_at value4 ticks_at not_under period_at edge_ok edge_at costs_at add_edge edges_at bad_task parts_at task_at put_costs bad_table with_task tasks_at table_at refused ending read bytes4 vol len rounded_up due margin chain in_places listed naming verdict_on unread verdict_read verdict first_with listed_after listed_from first_chain tail tail_of asked due_from sharp_due sharp_margin sharp_naming sharp_on sharp_read sharp file_d
by_sharp = refl

pub several_hold : SeveralHold
several_hold = record { examples = bare_hold_lem several computed; accepted = by_sharp }
