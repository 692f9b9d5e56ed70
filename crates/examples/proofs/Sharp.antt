-- The sharp verdict's examples, computed.
use mathlib.Core.Path.{refl}
use Rattle.graph.specs.Words.{bit, sum, all, row_from, row, largest, also_if, those, those_below, lowest, any_of, is_none, join_from, in_order, first_or, lowest_or}
use Rattle.graph.specs.Graph.{edge, led_to, sweep, sweeps, acyclic_among, acyclic, one_more, longest_from, maximum, longest}
use Rattle.chains.specs.Chains.{first_with, listed_after, listed_from, first_chain}
use Rattle.chains.specs.Tails.{tail}
use Rattle.table.specs.Memory.{no_succ, no_costs, zero_task, no_tasks, no_row, no_table, no_task, task, vertices, D, T, succ, edge_in, cost}
use Rattle.table.specs.Numbers.{number, place}
use Rattle.table.specs.Reading.{field, mark_at, ranged, byte_at, value4, ticks_at, not_under, period_at, edge_ok, edge_at, costs_at, add_edge, edges_at, bad_task, parts_at, task_at, put_costs, bad_table, with_task, tasks_at, table_at, refused, ending, read}
use Rattle.table.specs.Writing.{bytes4}
use Rattle.verdict.specs.Verdicts.{vol, len, rounded_up, due, margin, chain, in_places, naming, verdict_on, unread, verdict_read, verdict}
use Rattle.sharp.specs.Sharp.{tail_of, asked, due_from, sharp_due, sharp_margin, sharp_naming, sharp_on, sharp_read, sharp}
use Rattle.examples.specs.Examples.{file_a}
use Rattle.examples.specs.Sharp.{file_only, file_wide, file_both, SharpHolds}

pub sharp_holds : SharpHolds
unfolding bit sum all row_from row largest also_if those those_below lowest any_of is_none join_from in_order first_or lowest_or edge led_to sweep sweeps acyclic_among acyclic one_more longest_from maximum longest tail no_succ no_costs zero_task no_tasks no_row no_table no_task task vertices D T succ edge_in cost number place field mark_at ranged byte_at value4 ticks_at not_under period_at edge_ok edge_at costs_at add_edge edges_at bad_task parts_at task_at put_costs bad_table with_task tasks_at table_at refused ending read bytes4 vol len rounded_up due margin first_with listed_after listed_from first_chain chain in_places naming verdict_on unread verdict_read verdict tail_of asked due_from sharp_due sharp_margin sharp_naming sharp_on sharp_read sharp file_a file_only file_wide file_both
sharp_holds = record { a = refl; only_old = refl; only = refl; wide_old = refl; wide = refl; both = refl; unread = refl }
