-- Both ends of the sharp margin's range (`sharp_range` of the crate sharp) are exact: each is some file's margin. The low end's file is that of the old
-- verdict's: its sum has 240 million terms, so it is computed by the closed form.
use mathlib.Core.Path.{◌≡◌, refl, ap, ◌∙◌}
use mathlib.Core.Bool.{true}
use mathlib.Core.List.{[], ◌∷◌}
use Prim.Native.Nat.{ℕ, ◌+◌, ◌*◌, ◌-◌}
use native.Mathlib.Omega.{arith}
use lib.IntN.{pos, ◌-ℤ◌}
use Rattle.graph.specs.Words.{bit, sum, all, row_from, row, largest, also_if, those, those_below, lowest, any_of, is_none, join_from, in_order, first_or, lowest_or}
use Rattle.graph.specs.Graph.{edge, led_to, sweep, sweeps, acyclic_among, acyclic, one_more, longest_from, maximum, longest}
use Rattle.graph.proofs.Facts.{sum_same}
use Rattle.chains.specs.Chains.{first_with, listed_after, listed_from, first_chain}
use Rattle.chains.specs.Tails.{tail}
use Rattle.table.specs.declared.Table.{Table}
use Rattle.table.specs.declared.Outcome.TheVariants.{Read}
use Rattle.table.specs.Memory.{no_succ, no_costs, zero_task, no_tasks, no_row, no_table, no_task, task, vertices, D, T, succ, edge_in, cost}
use Rattle.table.specs.Numbers.{number, place}
use Rattle.table.specs.Reading.{field, mark_at, ranged, byte_at, value4, ticks_at, not_under, period_at, edge_ok, edge_at, costs_at, add_edge, edges_at, bad_task, parts_at, task_at, put_costs, bad_table, with_task, tasks_at, table_at, refused, ending, read}
use Rattle.table.specs.Writing.{bytes4}
use Rattle.table.specs.Good.{GoodTable}
use Rattle.table.proofs.Sound.{read_good}
use Rattle.verdict.specs.declared.Verdict.{Verdict}
use Rattle.verdict.specs.Verdicts.{vol, len, rounded_up, chain, in_places, unread}
use Rattle.verdict.proofs.Margins.{high_end}
use Rattle.sharp.specs.Sharp.{tail_of, asked, due_from, sharp_due, sharp_margin, sharp_naming, sharp_on, sharp_read, sharp}
use Rattle.sharp.specs.Closed.{below, ramp, part}
use Rattle.sharp.proofs.Sums.{sum_swap, part_is}
use Rattle.sharp.proofs.Range.{sharp_low_end}
use Rattle.sharp.proofs.Says.{late, some_late, sharp_got}
use Rattle.examples.proofs.Ends.{chained, low_file, high_file}

-- the due work by the closed form
unfoldable pub due_closed : Table → ℕ → ℕ
due_closed t k = sum t.n (λ i. sum (vertices t i) (λ u. part (cost t i u) (T t i) (D t k - tail_of t i u)))

closed : (t : Table) → GoodTable t → (k : ℕ) → sharp_due t k ≡ due_closed t k
unfolding sharp_due due_from due_closed asked
closed t good k = sum_same t.n _ _ (λ i b.
    sum_swap (rounded_up (D t k) (T t i)) (vertices t i) (asked t k i)
    ∙ sum_same (vertices t i) _ _ (λ u l. part_is (cost t i u) (T t i) (D t k) (tail_of t i u) (good.each i b).T_low))

abbrev low : Table
low = (read low_file).table

-- what is computed of the low end's file: it is read, task 0's chain is longer than its D, and its margin by the closed form
record Computed : Type 0 where
  is_read_lem : (read low_file).outcome ≡ Read
  tasks : low.n ≡ 16
  long : late low 0 ≡ true
  its_margin : pos (low.m * D low 0) -ℤ pos ((low.m - 1) * len low 0 + due_closed low 0) ≡ sharp_low_end
  high : sharp high_file ≡ record { number = 0; place = 0; task = 0; margin = high_end; count = 1; chain = in_places (0 ∷ []) }

computed : Computed
unfolding sharp_low_end high_end late due_closed below ramp part bit sum all row_from row largest also_if those those_below lowest any_of is_none join_from in_order first_or lowest_or edge led_to sweep sweeps acyclic_among acyclic one_more longest_from maximum longest tail no_succ no_costs zero_task no_tasks no_row no_table no_task task vertices D T succ edge_in cost number place field mark_at ranged byte_at value4 ticks_at not_under period_at edge_ok edge_at costs_at add_edge edges_at bad_task parts_at task_at put_costs bad_table with_task tasks_at table_at refused ending read bytes4 vol len rounded_up first_with listed_after listed_from first_chain chain in_places unread tail_of asked due_from sharp_due sharp_margin sharp_naming sharp_on sharp_read sharp chained low_file high_file
computed = record { is_read_lem = refl; tasks = refl; long = refl; its_margin = refl; high = refl }

low_margin : sharp_margin low 0 ≡ sharp_low_end
unfolding sharp_margin
low_margin = ap (λ (x : ℕ). pos (low.m * D low 0) -ℤ pos ((low.m - 1) * len low 0 + x)) (closed low (read_good low_file computed.is_read_lem) 0) ∙ computed.its_margin

low_named : sharp low_file ≡ sharp_naming 22 low 0
low_named =
    sharp_got low_file computed.is_read_lem
    ∙ some_late low (read_good low_file computed.is_read_lem) 0 (omega (arith, computed.tasks), computed.long, λ j b. absurd (omega arith))

-- the low end with 22, the high end with 0
pub sharp_ends : ((sharp low_file).number ≡ 22) × ((sharp low_file).task ≡ 0) × ((sharp low_file).margin ≡ sharp_low_end)
    × (sharp high_file ≡ record { number = 0; place = 0; task = 0; margin = high_end; count = 1; chain = in_places (0 ∷ []) })
unfolding sharp_naming
sharp_ends = (
  ap (λ (v : Verdict). v.number) low_named,
  ap (λ (v : Verdict). v.task) low_named,
  ap (λ (v : Verdict). v.margin) low_named ∙ low_margin,
  computed.high,
)
