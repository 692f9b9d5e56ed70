-- DEMAND 3 IS NOT EMPTY, computed: each choice of the runs is legal and their releases are spaced, by tests that compute, tick by tick.
use mathlib.Core.Path.{◌≡◌, refl}
use mathlib.Core.Bool.{true, false}
use mathlib.Core.List.{[], ◌∷◌}
use Prim.Native.Nat.{ℕ, suc, ◌+◌, ◌*◌, ◌^◌, ◌≤◌}
use native.Mathlib.Omega.{arith}
use native.Mathlib.Decide.{dec_lt}
use lib.Dec.{T, ltb, ltb→lt}
use lib.IntN.{pos}
use Rattle.graph.specs.Words.{flag, bit, sum, all, row_from, row, largest, also_if, those, those_below, lowest, is_in, any_of, is_none, set_of, join_from, in_order, first_or, lowest_or}
use Rattle.graph.specs.Graph.{edge, led_to, sweep, sweeps, acyclic_among, acyclic, done_within, done, one_more, longest_from, maximum, longest}
use Rattle.graph.proofs.Facts.{past_end, all_at}
use Rattle.table.specs.Memory as M
use Rattle.table.specs.Memory.{no_succ, no_costs, zero_task, no_tasks, no_row, no_table, no_task, task, vertices, succ, edge_in, cost}
use Rattle.table.specs.Numbers.{number, place}
use Rattle.table.specs.Reading.{field, mark_at, ranged, byte_at, value4, ticks_at, not_under, period_at, edge_ok, edge_at, costs_at, add_edge, edges_at, bad_task, parts_at, task_at, put_costs, bad_table, with_task, tasks_at, table_at, refused, ending, read}
use Rattle.verdict.specs.Verdicts.{vol, len, rounded_up, due, margin, naming, verdict_on, unread, verdict_read, verdict}
use Rattle.machine.specs.States.{no_job, idle, task_of, wait, job_at, is_live, deadline_of, live, deadline, jobs_of, remaining, work_of, wrap, ticks_left, left, zeros, unopened, open_read, opening}
use Rattle.machine.specs.Fitting.{within_cost, nothing_left, whole_behind, work_agrees, fits_job, zero_place, fits_place, spaced, fits_wait, fits_used, zero_task_in, fits_task, fits_phase, fits}
use Rattle.machine.specs.Steps.{task_in, age_in, vertex_in, name_at, is_new, released, clear, available, availables, left_in, before, insert, ranked, own_choice, run_of, worked, finishes, going_on, closed, ended, any_place, finished, missed}
use Rattle.machine.specs.Ticking.{nobody, triple_of, run_list, ticked, judged, advance_to, advance, refuse, when_running, tick_on, tick_read, tick_by}
use Rattle.promise.specs.Runs.{table_of, Sporadic, taking, stated, early, Drawn, tick_at, state_at, mid_at, answer_at, LegalBefore}
use Rattle.promise.specs.Witness.{late_clock, file_long, long_releases, long_choices, long_plan, Witness, file_wide, wide_releases, wide_times, wide_choices, wide_plan, EarlyWitness}
use Rattle.promise.proofs.Holds.{demand3_old, demand3_old_early}
use Rattle.promise.proofs.Tests.{every, distinct, legal_among, legal_test, drawn_test, is_drawn, walk, all_legal, names_tasks, apart_at, spaced_test, is_sporadic}

-- ---- three at once
record Computed : Type 0 where
  walks : walk stated file_long late_clock long_plan (table_of file_long) 8 0 (state_at stated file_long late_clock long_plan 0) ≡ true
  apart : spaced_test (table_of file_long) long_releases 8 ≡ true
  accepted : (verdict file_long).number ≡ 0
  tight : (verdict file_long).margin ≡ pos 0
  long : M.D (table_of file_long) 0 ≡ 4 * M.T (table_of file_long) 0
  small : T (ltb late_clock (2 ^ 32))
  wraps : T (ltb (2 ^ 32) (late_clock + 8))
  otherwise : (is_in 0 (own_choice (table_of file_long) (mid_at stated file_long late_clock long_plan 0)) ≡ true) × (is_in 0 (long_choices 0) ≡ false)

computed : Computed
unfolding bit sum all row_from row largest also_if those those_below lowest is_in any_of is_none set_of join_from in_order first_or lowest_or flag edge led_to sweep sweeps acyclic_among acyclic done_within done one_more longest_from maximum longest no_succ no_costs zero_task no_tasks no_row no_table no_task task vertices M.D M.T succ edge_in cost number place field mark_at ranged byte_at value4 ticks_at not_under period_at edge_ok edge_at costs_at add_edge edges_at bad_task parts_at task_at put_costs bad_table with_task tasks_at table_at refused ending read vol len rounded_up due margin naming verdict_on unread verdict_read verdict no_job idle task_of wait job_at is_live deadline_of live deadline jobs_of remaining work_of wrap ticks_left left zeros unopened open_read opening within_cost nothing_left whole_behind work_agrees fits_job zero_place fits_place spaced fits_wait fits_used zero_task_in fits_task fits_phase fits task_in age_in vertex_in name_at is_new released clear available availables left_in before insert ranked own_choice run_of worked finishes going_on closed ended any_place finished missed nobody triple_of run_list ticked judged advance_to advance refuse when_running tick_on tick_read tick_by table_of taking tick_at state_at mid_at answer_at every distinct legal_among legal_test drawn_test walk names_tasks apart_at spaced_test late_clock file_long long_releases long_choices long_plan
computed = record { walks = refl; apart = refl; accepted = refl; tight = refl; long = refl; small = tt; wraps = tt; otherwise = (refl, refl) }

three_live : jobs_of (mid_at stated file_long late_clock long_plan 4) 0 ≡ 3
unfolding bit sum all row_from row largest also_if those those_below lowest is_in any_of is_none set_of join_from in_order first_or lowest_or flag edge led_to sweep sweeps acyclic_among acyclic done_within done one_more longest_from maximum longest no_succ no_costs zero_task no_tasks no_row no_table no_task task vertices M.D M.T succ edge_in cost number place field mark_at ranged byte_at value4 ticks_at not_under period_at edge_ok edge_at costs_at add_edge edges_at bad_task parts_at task_at put_costs bad_table with_task tasks_at table_at refused ending read vol len rounded_up due margin naming verdict_on unread verdict_read verdict no_job idle task_of wait job_at is_live deadline_of live deadline jobs_of remaining work_of wrap ticks_left left zeros unopened open_read opening within_cost nothing_left whole_behind work_agrees fits_job zero_place fits_place spaced fits_wait fits_used zero_task_in fits_task fits_phase fits task_in age_in vertex_in name_at is_new released clear available availables left_in before insert ranked own_choice run_of worked finishes going_on closed ended any_place finished missed nobody triple_of run_list ticked judged advance_to advance refuse when_running tick_on tick_read tick_by table_of taking tick_at state_at mid_at answer_at every distinct legal_among legal_test drawn_test walk names_tasks apart_at spaced_test late_clock file_long long_releases long_choices long_plan
three_live = refl

none_later : (x : ℕ) → 8 ≤ x → long_releases x ≡ 0
unfolding long_releases
none_later x h = past_end (3 ∷ 0 ∷ 1 ∷ 0 ∷ 1 ∷ 0 ∷ 1 ∷ 0 ∷ []) x 0 h

pub witness : Witness
unfolding long_plan
witness = record {
  accepted = computed.accepted;
  small = ltb→lt late_clock (2 ^ 32) computed.small;
  sporadic = sporadic;
  legal = legal;
  kept = λ x b. demand3_old file_long computed.accepted late_clock (ltb→lt late_clock (2 ^ 32) computed.small) long_plan x
      (sporadic (suc x)) (λ y l. refl) (λ y l. legal y (omega arith));
  tight = computed.tight;
  long = computed.long;
  wraps = ltb→lt (2 ^ 32) (late_clock + 8) computed.wraps;
  otherwise = computed.otherwise;
  three = three_live;
}
  where
    sporadic : (N : ℕ) → Sporadic (table_of file_long) long_releases N
    sporadic = is_sporadic (table_of file_long) long_releases 8 none_later computed.apart

    legal : LegalBefore stated file_long late_clock long_plan 8
    legal = all_legal stated file_long late_clock long_plan 8 computed.walks

-- ---- a younger job ends first
record EarlyComputed : Type 0 where
  walks : walk early file_wide late_clock wide_plan (table_of file_wide) 10 0 (state_at early file_wide late_clock wide_plan 0) ≡ true
  apart : spaced_test (table_of file_wide) wide_releases 5 ≡ true
  draws : all 5 (λ x. drawn_test (table_of file_wide).costs (wide_times x)) ≡ true
  last : drawn_test (table_of file_wide).costs (4 ∷ []) ≡ true
  accepted : (verdict file_wide).number ≡ 0
  tight : (verdict file_wide).margin ≡ pos 0
  small : T (ltb late_clock (2 ^ 32))
  wraps : T (ltb (2 ^ 32) (late_clock + 10))
  two : (jobs_of (mid_at early file_wide late_clock wide_plan 2) 0 ≡ 2)
      × (left (mid_at early file_wide late_clock wide_plan 2) 0 0 + 2 ≡ 0 + M.D (table_of file_wide) 0)
      × (left (mid_at early file_wide late_clock wide_plan 2) 0 1 + 2 ≡ 2 + M.D (table_of file_wide) 0)
  younger_first : (bit (answer_at early file_wide late_clock wide_plan 2).finished 0 ≡ true)
      × (jobs_of (mid_at early file_wide late_clock wide_plan 3) 0 ≡ 1)
      × (left (mid_at early file_wide late_clock wide_plan 3) 0 0 + 3 ≡ 0 + M.D (table_of file_wide) 0)

early_computed : EarlyComputed
unfolding bit sum all row_from row largest also_if those those_below lowest is_in any_of is_none set_of join_from in_order first_or lowest_or flag edge led_to sweep sweeps acyclic_among acyclic done_within done one_more longest_from maximum longest no_succ no_costs zero_task no_tasks no_row no_table no_task task vertices M.D M.T succ edge_in cost number place field mark_at ranged byte_at value4 ticks_at not_under period_at edge_ok edge_at costs_at add_edge edges_at bad_task parts_at task_at put_costs bad_table with_task tasks_at table_at refused ending read vol len rounded_up due margin naming verdict_on unread verdict_read verdict no_job idle task_of wait job_at is_live deadline_of live deadline jobs_of remaining work_of wrap ticks_left left zeros unopened open_read opening within_cost nothing_left whole_behind work_agrees fits_job zero_place fits_place spaced fits_wait fits_used zero_task_in fits_task fits_phase fits task_in age_in vertex_in name_at is_new released clear available availables left_in before insert ranked own_choice run_of worked finishes going_on closed ended any_place finished missed nobody triple_of run_list ticked judged advance_to advance refuse when_running tick_on tick_read tick_by table_of taking tick_at state_at mid_at answer_at every distinct legal_among legal_test drawn_test walk names_tasks apart_at spaced_test late_clock file_wide wide_releases wide_times wide_choices wide_plan
early_computed = record {
  walks = refl;
  apart = refl;
  draws = refl;
  last = refl;
  accepted = refl;
  tight = refl;
  small = tt;
  wraps = tt;
  two = (refl, refl, refl);
  younger_first = (refl, refl, refl);
}

none_released : (x : ℕ) → 5 ≤ x → wide_releases x ≡ 0
unfolding wide_releases
none_released x h = past_end (1 ∷ 0 ∷ 1 ∷ 0 ∷ 1 ∷ []) x 0 h

all_drawn : (x : ℕ) → 5 ≤ x → wide_times x ≡ 4 ∷ []
unfolding wide_times
all_drawn x h = past_end ((4 ∷ []) ∷ (4 ∷ []) ∷ (1 ∷ []) ∷ (4 ∷ []) ∷ (2 ∷ []) ∷ []) x (4 ∷ []) h

pub early_witness : EarlyWitness
unfolding wide_plan
early_witness = record {
  accepted = early_computed.accepted;
  small = ltb→lt late_clock (2 ^ 32) early_computed.small;
  sporadic = sporadic;
  drawn = drawn;
  legal = legal;
  kept = λ x b. demand3_old_early file_wide early_computed.accepted late_clock (ltb→lt late_clock (2 ^ 32) early_computed.small) wide_plan x
      (sporadic (suc x)) (λ y l. drawn y) (λ y l. legal y (omega arith));
  tight = early_computed.tight;
  wraps = ltb→lt (2 ^ 32) (late_clock + 10) early_computed.wraps;
  two = early_computed.two;
  younger_first = early_computed.younger_first;
}
  where
    sporadic : (N : ℕ) → Sporadic (table_of file_wide) wide_releases N
    sporadic = is_sporadic (table_of file_wide) wide_releases 5 none_released early_computed.apart

    drawn : (x : ℕ) → Drawn (table_of file_wide) (wide_times x)
    drawn x = elim (dec_lt x 5) [
      | yes b ↦ is_drawn (table_of file_wide) (wide_times x) (all_at 5 _ early_computed.draws x b)
      | no b ↦ rw (all_drawn x (omega arith)) (is_drawn (table_of file_wide) (4 ∷ []) early_computed.last)
    ]

    legal : LegalBefore early file_wide late_clock wide_plan 10
    legal = all_legal early file_wide late_clock wide_plan 10 early_computed.walks
