-- Both ends of the margin's range (`margin_range` of the crate verdict) are exact: each is some file's margin.
use mathlib.Core.Path.{◌≡◌, refl}
use mathlib.Core.List.{List, [], ◌∷◌, ◌++◌}
use Prim.Native.Nat.{ℕ, suc}
use Rattle.graph.specs.Words.{bit, sum, all, row_from, row, largest, also_if, those, those_below, lowest, any_of, is_none, join_from, in_order, first_or, lowest_or}
use Rattle.graph.specs.Graph.{edge, led_to, sweep, sweeps, acyclic_among, acyclic, one_more, longest_from, maximum, longest}
use Rattle.chains.specs.Chains.{first_with, listed_after, listed_from, first_chain}
use Rattle.table.specs.Memory.{no_succ, no_costs, zero_task, no_tasks, no_row, no_table, no_task, task, vertices, D, T, succ, edge_in, cost}
use Rattle.table.specs.Numbers.{number, place}
use Rattle.table.specs.Reading.{field, mark_at, ranged, byte_at, value4, ticks_at, not_under, period_at, edge_ok, edge_at, costs_at, add_edge, edges_at, bad_task, parts_at, task_at, put_costs, bad_table, with_task, tasks_at, table_at, refused, ending, read}
use Rattle.table.specs.Writing.{bytes4}
use Rattle.verdict.specs.Verdicts.{vol, len, rounded_up, due, margin, chain, in_places, naming, verdict_on, unread, verdict_read, verdict}
use Rattle.verdict.proofs.Margins.{low_end, high_end}

-- a task with its D and T, some vertices of one cost, and some edges 0-1, 1-2, ..
unfoldable pub chained : ℕ → ℕ → ℕ → ℕ → ℕ → List ℕ
chained vertices edges deadline period each =
    0x54 ∷ 0x4B ∷ vertices ∷ edges ∷ (bytes4 deadline ++ bytes4 period ++ in_order vertices (λ u. bytes4 each) ++ in_order edges (λ u. u ∷ suc u ∷ []))

-- m 8; task 0 a chain of sixteen with D = 1,000,000 and T a quarter of it, fifteen with D = T = 1; each cost 1,000,000
unfoldable pub low_file : List ℕ
low_file = 0x54 ∷ 0x42 ∷ 8 ∷ 16 ∷ (chained 16 15 1000000 250000 1000000 ++ in_order 15 (λ i. chained 16 0 1 1 1000000))

-- m 8, one vertex of cost 0, D = T = 1,000,000
unfoldable pub high_file : List ℕ
high_file = 0x54 ∷ 0x42 ∷ 8 ∷ 1 ∷ chained 1 0 1000000 1000000 0

-- with the longest chain that there is, all sixteen vertices, and the shortest
pub ends_reached : (verdict low_file ≡ record { number = 20; place = 0; task = 0; margin = low_end; count = 16; chain = row 16 (λ i. i) })
    × (verdict high_file ≡ record { number = 0; place = 0; task = 0; margin = high_end; count = 1; chain = in_places (0 ∷ []) })
unfolding low_end high_end bit sum all row_from row largest also_if those those_below lowest any_of is_none join_from in_order first_or lowest_or edge led_to sweep sweeps acyclic_among acyclic one_more longest_from maximum longest no_succ no_costs zero_task no_tasks no_row no_table no_task task vertices D T succ edge_in cost number place field mark_at ranged byte_at value4 ticks_at not_under period_at edge_ok edge_at costs_at add_edge edges_at bad_task parts_at task_at put_costs bad_table with_task tasks_at table_at refused ending read bytes4 vol len rounded_up due margin first_with listed_after listed_from first_chain chain in_places naming verdict_on unread verdict_read verdict chained low_file high_file
ends_reached = (refl, refl)
