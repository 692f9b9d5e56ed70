-- DEMAND 3 IS NOT EMPTY, computed: by its steps alone, which are those of an early run (proofs/Alike).
use mathlib.Core.Path.{◌≡◌, refl, ap, ◌∙◌}
use mathlib.Core.Bool.{true, false}
use mathlib.Core.List.{◌++◌}
use Prim.Native.Nat.{ℕ, suc, ◌+◌, ◌^◌, ◌≤◌, ◌<◌}
use native.Mathlib.Omega.{arith}
use lib.ListN.{length, take}
use lib.Dec.{T, leb, ltb, ltb→lt}
use lib.IntN.{pos}
use borrow.Author.Tests.{leb-true}
use Rattle.graph.specs.Words.{flag, bit, sum, all, row_from, row, largest, also_if, those, those_below, lowest, is_in, any_of, is_none, set_of, join_from, in_order, first_or, lowest_or}
use Rattle.graph.specs.Graph.{edge, led_to, sweep, sweeps, acyclic_among, acyclic, done_within, done, one_more, longest_from, maximum, longest}
use Rattle.graph.proofs.Facts.{past_end, all_at}
use Rattle.table.specs.Memory.{no_succ, no_costs, zero_task, no_tasks, no_row, no_table, no_task, task, vertices, D, succ, edge_in, cost}
use Rattle.table.specs.Memory
use Rattle.table.specs.Numbers.{number, place}
use Rattle.table.specs.Reading.{field, mark_at, ranged, byte_at, value4, ticks_at, not_under, period_at, edge_ok, edge_at, costs_at, add_edge, edges_at, bad_task, parts_at, task_at, put_costs, bad_table, with_task, tasks_at, table_at, refused, ending, read}
use Rattle.table.specs.Writing.{bytes4}
use Rattle.table.specs.declared.Outcome.TheVariants.{Read}
use Rattle.verdict.specs.Verdicts.{vol, len, rounded_up, due, margin, chain, in_places, listed, naming, verdict_on, unread, verdict_read, verdict}
use Rattle.machine.specs.declared.State.{State}
use Rattle.chains.specs.Chains.{first_with, listed_after, listed_from, first_chain}
use Rattle.machine.specs.States.{no_job, idle, task_of, wait, job_at, is_live, deadline_of, live, deadline, jobs_of, remaining, work_of, wrap, ticks_left, left, zeros, unopened, open_read, opening}
use Rattle.machine.specs.Steps.{task_in, age_in, vertex_in, name_at, is_new, released, clear, available, availables, left_in, before, insert, ranked, own_choice, run_of, worked, finishes, going_on, closed, ended, any_place, finished, missed}
use Rattle.machine.specs.Ticking.{nobody, triple_of, run_list, ticked, judged, advance_to, refuse, when_running}
use Rattle.promise.specs.Runs.{table_of, Sporadic, taking, stated, early, tick_at, state_at, mid_at, answer_at, LegalBefore}
use Rattle.promise.specs.Demand3.{Kept, none}
use Rattle.promise.proofs.Holds.{demand3_old}
use Rattle.promise.proofs.Tests.{every, distinct, legal_among, legal_test, walk, names_tasks, apart_at, spaced_test, all_legal, is_sporadic}
use Rattle.examples.specs.Examples.{file_a}
use Rattle.examples.specs.Witness.{some_clock, round_releases, round_choices, some_releases, some_choices, some_plan, Witness}
use Rattle.examples.proofs.Alike.{alike, alike_legal}

-- all that is computed of the run: each choice is legal, releases are spaced, the verdict, how often each task is released,
-- a vertex that is passed over, and one that the machine would have chosen
record Computed : Type 0 where
  walks : walk early file_a some_clock some_plan (table_of file_a) 30 0 (state_at early file_a some_clock some_plan 0) ≡ true
  spaced : spaced_test (table_of file_a) some_releases 30 ≡ true
  is_read_lem : (read file_a).outcome ≡ Read
  accepted : (verdict file_a).number ≡ 0
  tight : (verdict file_a).margin ≡ pos 0
  small : T (ltb some_clock (2 ^ 32))
  wraps : T (ltb (2 ^ 32) (some_clock + 30))
  many : length (round_releases ++ round_releases ++ take 4 round_releases) ≡ 30
  often : all (table_of file_a).n (λ i. leb 3 (sum 30 (λ x. flag (bit (some_releases x) i)))) ≡ true
  passed_over : (is_in 0 (availables (table_of file_a) (mid_at early file_a some_clock some_plan 0)) ≡ true) × (is_in 0 (some_choices 0) ≡ false)
  otherwise : (is_in 64 (own_choice (table_of file_a) (mid_at early file_a some_clock some_plan 6)) ≡ true) × (is_in 64 (some_choices 6) ≡ false)

computed : Computed
unfolding flag bit sum all row_from row largest also_if those those_below lowest is_in any_of is_none set_of join_from in_order first_or lowest_or edge led_to sweep sweeps acyclic_among acyclic done_within done one_more longest_from maximum longest no_succ no_costs zero_task no_tasks no_row no_table no_task task vertices D succ edge_in cost Memory.T number place field mark_at ranged byte_at value4 ticks_at not_under period_at edge_ok edge_at costs_at add_edge edges_at bad_task parts_at task_at put_costs bad_table with_task tasks_at table_at refused ending read bytes4 vol len rounded_up due margin chain in_places listed naming verdict_on unread verdict_read verdict first_with listed_after listed_from first_chain no_job idle task_of wait job_at is_live deadline_of live deadline jobs_of remaining work_of wrap ticks_left left zeros unopened open_read opening task_in age_in vertex_in name_at is_new released clear available availables left_in before insert ranked own_choice run_of worked finishes going_on closed ended any_place finished missed nobody triple_of run_list ticked judged advance_to refuse when_running file_a table_of taking tick_at state_at mid_at some_clock round_releases round_choices some_releases some_choices some_plan every distinct legal_among legal_test walk names_tasks apart_at spaced_test
computed = record {
  walks = refl;
  spaced = refl;
  is_read_lem = refl;
  accepted = refl;
  tight = refl;
  small = tt;
  wraps = tt;
  many = refl;
  often = refl;
  passed_over = (refl, refl);
  otherwise = (refl, refl);
}

-- nothing is released past the 30 ticks
none_later : (x : ℕ) → 30 ≤ x → some_releases x ≡ 0
unfolding some_releases
none_later x h = past_end (round_releases ++ round_releases ++ take 4 round_releases) x 0 (omega (arith, computed.many))

pub witness : Witness
unfolding some_plan
witness = record {
  accepted = computed.accepted;
  small = small;
  sporadic = sporadic;
  legal = legal;
  kept = kept;
  tight = computed.tight;
  wraps = ltb→lt (2 ^ 32) (some_clock + 30) computed.wraps;
  often = λ i b. leb-true 3 _ (all_at (table_of file_a).n _ computed.often i b);
  passed_over = (ap (λ (mid : State). is_in 0 (availables (table_of file_a) mid)) (within 0 (omega arith)) ∙ computed.passed_over.0, computed.passed_over.1);
  otherwise = (ap (λ (mid : State). is_in 64 (own_choice (table_of file_a) mid)) (within 6 (omega arith)) ∙ computed.otherwise.0, computed.otherwise.1);
}
  where
    small : some_clock < 2 ^ 32
    small = ltb→lt some_clock (2 ^ 32) computed.small

    sporadic : (N : ℕ) → Sporadic (table_of file_a) some_releases N
    sporadic = is_sporadic (table_of file_a) some_releases 30 none_later computed.spaced

    steps_legal : LegalBefore early file_a some_clock some_plan 30
    steps_legal = all_legal early file_a some_clock some_plan 30 computed.walks

    within : (x : ℕ) → x ≤ 30 → mid_at stated file_a some_clock some_plan x ≡ mid_at early file_a some_clock some_plan x
    within = alike file_a computed.is_read_lem computed.accepted some_clock small some_plan sporadic (λ x. refl) 30 steps_legal

    legal : LegalBefore stated file_a some_clock some_plan 30
    legal = alike_legal file_a computed.is_read_lem computed.accepted some_clock small some_plan sporadic (λ x. refl) 30 steps_legal

    kept : (x : ℕ) → x ≤ 30 → Kept (table_of file_a) (none (table_of file_a)) some_releases (mid_at stated file_a some_clock some_plan) (answer_at stated file_a some_clock some_plan) x
    kept x b = demand3_old file_a computed.accepted some_clock small some_plan x (sporadic (suc x)) (λ y l. refl) (λ y l. legal y (omega arith))
