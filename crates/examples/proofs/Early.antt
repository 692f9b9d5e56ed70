-- DEMAND 3 IS NOT EMPTY WHERE STEPS END EARLY, computed.
use mathlib.Core.Path.{◌≡◌, refl}
use mathlib.Core.Bool.{true, false}
use mathlib.Core.List.{◌++◌}
use Prim.Native.Nat.{ℕ, suc, ◌+◌, ◌^◌, ◌≤◌}
use native.Mathlib.Omega.{arith}
use native.Mathlib.Decide.{dec_lt}
use lib.ListN.{length, get_or, take}
use lib.Dec.{T, ltb, ltb→lt}
use Rattle.graph.specs.Words.{flag, bit, sum, all, row_from, row, largest, also_if, those, those_below, lowest, is_in, any_of, is_none, set_of, join_from, in_order, first_or, lowest_or}
use Rattle.graph.specs.Graph.{edge, led_to, sweep, sweeps, acyclic_among, acyclic, done_within, done, one_more, longest_from, maximum, longest}
use Rattle.graph.proofs.Facts.{past_end, all_at}
use Rattle.chains.specs.Chains.{first_with, listed_after, listed_from, first_chain}
use Rattle.table.specs.Memory.{no_succ, no_costs, zero_task, no_tasks, no_row, no_table, no_task, task, vertices, D, succ, edge_in, cost}
use Rattle.table.specs.Memory
use Rattle.table.specs.Numbers.{number, place}
use Rattle.table.specs.Reading.{field, mark_at, ranged, byte_at, value4, ticks_at, not_under, period_at, edge_ok, edge_at, costs_at, add_edge, edges_at, bad_task, parts_at, task_at, put_costs, bad_table, with_task, tasks_at, table_at, refused, ending, read}
use Rattle.table.specs.Writing.{bytes4}
use Rattle.verdict.specs.Verdicts.{vol, len, rounded_up, due, margin, chain, in_places, listed, naming, verdict_on, unread, verdict_read, verdict}
use Rattle.machine.specs.States.{no_job, idle, task_of, wait, job_at, is_live, deadline_of, live, deadline, jobs_of, remaining, work_of, wrap, ticks_left, left, zeros, unopened, open_read, opening}
use Rattle.machine.specs.Steps.{task_in, age_in, vertex_in, name_at, is_new, released, clear, available, availables, left_in, before, insert, ranked, own_choice, run_of, worked, finishes, going_on, closed, ended, any_place, finished, missed}
use Rattle.machine.specs.Ticking.{nobody, triple_of, run_list, ticked, judged, advance_to, refuse, when_running}
use Rattle.promise.specs.Runs.{table_of, Sporadic, taking, early, Drawn, tick_at, state_at, mid_at, answer_at, LegalBefore}
use Rattle.promise.proofs.Holds.{demand3_old_early}
use Rattle.promise.proofs.Tests.{every, distinct, legal_among, legal_test, walk, names_tasks, apart_at, spaced_test, drawn_test, is_drawn, all_legal, is_sporadic}
use Rattle.examples.specs.Examples.{file_a}
use Rattle.examples.specs.Witness.{some_clock}
use Rattle.examples.specs.Early.{times_a, at_least, early_round, early_draws, early_picks, early_releases, early_times, early_choices, early_plan, EarlyWitness}

-- all that is computed of the run: each choice is legal, releases are spaced, times are drawn within the costs, the verdict, and what the run shows
record Computed : Type 0 where
  walks : walk early file_a some_clock early_plan (table_of file_a) 26 0 (state_at early file_a some_clock early_plan 0) ≡ true
  spaced : spaced_test (table_of file_a) early_releases 26 ≡ true
  draws : all 26 (λ x. drawn_test (table_of file_a).costs (early_times x)) ≡ true
  last : drawn_test (table_of file_a).costs at_least ≡ true
  accepted : (verdict file_a).number ≡ 0
  small : T (ltb some_clock (2 ^ 32))
  wraps : T (ltb (2 ^ 32) (some_clock + 26))
  many : (length (early_round ++ early_round ++ take 2 early_round) ≡ 26) × (length (early_draws ++ early_draws ++ take 2 early_draws) ≡ 26)
  sooner : (get_or (early_times 5) 0 0 ≡ 1) × (cost (table_of file_a) 0 0 ≡ 2) × (is_in 1 (availables (table_of file_a) (mid_at early file_a some_clock early_plan 6)) ≡ true)
  otherwise : (is_in 1 (own_choice (table_of file_a) (mid_at early file_a some_clock early_plan 7)) ≡ true) × (is_in 1 (early_choices 7) ≡ false)
  ends : bit (answer_at early file_a some_clock early_plan 9).finished 0 ≡ true

computed : Computed
unfolding flag bit sum all row_from row largest also_if those those_below lowest is_in any_of is_none set_of join_from in_order first_or lowest_or edge led_to sweep sweeps acyclic_among acyclic done_within done one_more longest_from maximum longest no_succ no_costs zero_task no_tasks no_row no_table no_task task vertices D succ edge_in cost Memory.T number place field mark_at ranged byte_at value4 ticks_at not_under period_at edge_ok edge_at costs_at add_edge edges_at bad_task parts_at task_at put_costs bad_table with_task tasks_at table_at refused ending read bytes4 vol len rounded_up due margin chain in_places listed naming verdict_on unread verdict_read verdict first_with listed_after listed_from first_chain no_job idle task_of wait job_at is_live deadline_of live deadline jobs_of remaining work_of wrap ticks_left left zeros unopened open_read opening task_in age_in vertex_in name_at is_new released clear available availables left_in before insert ranked own_choice run_of worked finishes going_on closed ended any_place finished missed nobody triple_of run_list ticked judged advance_to refuse when_running file_a table_of taking tick_at state_at mid_at answer_at some_clock times_a at_least early_round early_draws early_picks early_releases early_times early_choices early_plan every distinct legal_among legal_test walk names_tasks apart_at spaced_test drawn_test
computed = record {
  walks = refl;
  spaced = refl;
  draws = refl;
  last = refl;
  accepted = refl;
  small = tt;
  wraps = tt;
  many = (refl, refl);
  sooner = (refl, refl, refl);
  otherwise = (refl, refl);
  ends = refl;
}

-- nothing is released past the 26 ticks
none_later : (x : ℕ) → 26 ≤ x → early_releases x ≡ 0
unfolding early_releases
none_later x h = past_end (early_round ++ early_round ++ take 2 early_round) x 0 (omega (arith, computed.many.0))

least_later : (x : ℕ) → 26 ≤ x → early_times x ≡ at_least
unfolding early_times
least_later x h = past_end (early_draws ++ early_draws ++ take 2 early_draws) x at_least (omega (arith, computed.many.1))

pub early_witness : EarlyWitness
unfolding early_plan
early_witness = record {
  accepted = computed.accepted;
  small = ltb→lt some_clock (2 ^ 32) computed.small;
  sporadic = sporadic;
  drawn = drawn;
  legal = legal;
  kept = λ x b. demand3_old_early file_a computed.accepted some_clock (ltb→lt some_clock (2 ^ 32) computed.small) early_plan x (sporadic (suc x)) (λ y l. drawn y) (λ y l. legal y (omega arith));
  wraps = ltb→lt (2 ^ 32) (some_clock + 26) computed.wraps;
  sooner = computed.sooner;
  otherwise = computed.otherwise;
  ends = computed.ends;
}
  where
    sporadic : (N : ℕ) → Sporadic (table_of file_a) early_releases N
    sporadic = is_sporadic (table_of file_a) early_releases 26 none_later computed.spaced

    drawn : (x : ℕ) → Drawn (table_of file_a) (early_times x)
    drawn x = elim (dec_lt x 26) [
      | yes b ↦ is_drawn (table_of file_a) (early_times x) (all_at 26 _ computed.draws x b)
      | no b ↦ rw (least_later x (omega arith)) (is_drawn (table_of file_a) at_least computed.last)
    ]

    legal : LegalBefore early file_a some_clock early_plan 26
    legal = all_legal early file_a some_clock early_plan 26 computed.walks
