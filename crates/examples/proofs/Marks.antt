-- The examples of M-103, computed: what is played by bare ticks; a journal is judged without the test that a state fits.
use mathlib.Core.Path.{◌≡◌, refl, sym, ap, subst, ◌∙◌}
use mathlib.Core.Bool.{Bool, true}
use Prim.Native.Nat.{◌^◌}
use lib.Dec.{T, ltb, eqb, ltb→lt}
use Rattle.graph.specs.Words.{flag, bit, sum, all, row_from, row, largest, also_if, those, those_below, lowest, is_in, any_of, is_none, set_of, join_from, in_order, first_or, lowest_or}
use Rattle.graph.specs.Graph.{edge, led_to, sweep, sweeps, acyclic_among, acyclic, done_within, done, one_more, longest_from, maximum, longest}
use Rattle.graph.proofs.Facts.{and_true}
use Rattle.table.specs.Memory.{no_succ, no_costs, zero_task, no_tasks, no_row, no_table, no_task, task, vertices, D, succ, edge_in, cost}
use Rattle.table.specs.Memory
use Rattle.table.specs.Numbers.{number, place}
use Rattle.table.specs.Reading.{field, mark_at, ranged, byte_at, value4, ticks_at, not_under, period_at, edge_ok, edge_at, costs_at, add_edge, edges_at, bad_task, parts_at, task_at, put_costs, bad_table, with_task, tasks_at, table_at, refused, ending, read}
use Rattle.table.specs.Writing.{bytes4}
use Rattle.table.specs.declared.Outcome.TheVariants.{Read}
use Rattle.machine.specs.declared.Phase.TheVariants.{Running}
use Rattle.machine.specs.declared.State.{State}
use Rattle.machine.specs.declared.Ticked.{Ticked}
use Rattle.machine.specs.States.{no_job, idle, task_of, wait, job_at, is_live, deadline_of, live, deadline, jobs_of, remaining, work_of, wrap, ticks_left, left, zeros, opening}
use Rattle.machine.specs.Steps.{task_in, age_in, vertex_in, name_at, is_new, released, clear, available, availables, left_in, before, insert, ranked, own_choice, run_of, worked, finishes, going_on, closed, ended, any_place, finished, missed}
use Rattle.machine.specs.Ticking.{nobody, triple_of, run_list, ticked, judged, advance_to, advance, refuse, when_running, tick}
use Rattle.journal.specs.Rows as R
use Rattle.journal.specs.Judging as G
use Rattle.journal.specs.Examples as J
use Rattle.examples.specs.Examples.{flat, eight, same_run, answered, on, goes}
use Rattle.examples.specs.Marks.{file_marks, file_nothing, played, journals, MarksHold}
use Rattle.examples.proofs.Going.{bare_steps, bare_tick, is_read, bare_plays, bare_opens, bare_due, bare_holds, bare_hold, all_bare, bare_is, start_is, start_fine}

record Computed : Type 0 where
  by_machine : bare_hold played ≡ true
  by_judge : J.hold journals ≡ true
  is_read_lem : (read file_nothing).outcome ≡ Read
  clock : T (ltb 0 (2 ^ 32))
  ends : eqb (bare_tick (read file_nothing).table (zeros 0 Running) 1).answer.finished 1 ≡ true

computed : Computed
unfolding flag bit sum all row_from row largest also_if those those_below lowest is_in any_of is_none set_of join_from in_order first_or lowest_or edge led_to sweep sweeps acyclic_among acyclic done_within done one_more longest_from maximum longest no_succ no_costs zero_task no_tasks no_row no_table no_task task vertices D succ edge_in cost Memory.T number place field mark_at ranged byte_at value4 ticks_at not_under period_at edge_ok edge_at costs_at add_edge edges_at bad_task parts_at task_at put_costs bad_table with_task tasks_at table_at refused ending read bytes4 no_job idle task_of wait job_at is_live deadline_of live deadline jobs_of remaining work_of wrap ticks_left left zeros task_in age_in vertex_in name_at is_new released clear available availables left_in before insert ranked own_choice run_of worked finishes going_on closed ended any_place finished missed nobody triple_of run_list ticked judged advance_to advance refuse when_running R.row_set R.row_count R.row_task R.row_age R.row_vertex R.row_end R.row_key R.listed R.is_stopped R.cut_short R.wrong_mark R.row_triple R.ascending R.bad_list R.triple_available R.not_available R.too_few R.passes_over R.choice_fault R.set_fault R.fault G.ruled G.judge_row G.is_over G.rows_for G.judge_rows G.start G.ruling G.judge_on G.unread G.judge_read G.judge J.line J.same J.holds J.hold J.accepts J.refuses flat eight same_run answered on goes file_marks file_nothing played journals bare_steps bare_tick is_read bare_plays bare_opens bare_due bare_holds bare_hold
computed = record { by_machine = refl; by_judge = refl; is_read_lem = refl; clock = tt; ends = refl }

-- in its release tick
finishes_at_once : eqb (tick file_nothing (opening file_nothing 0).state 1).answer.finished 1 ≡ true
finishes_at_once =
    ap (λ (x : Ticked). eqb x.answer.finished 1)
    (ap (λ (st : State). tick file_nothing st 1) (start_is file_nothing computed.is_read_lem 0)
    ∙ bare_is file_nothing computed.is_read_lem (zeros 0 Running) (start_fine file_nothing computed.is_read_lem 0 (ltb→lt 0 (2 ^ 32) computed.clock)) 1)
    ∙ computed.ends

pub marks_hold : MarksHold
marks_hold = subst (λ (b : Bool). T b) (sym (and_true _ _ (and_true _ _ (all_bare played computed.by_machine) computed.by_judge) finishes_at_once)) tt
