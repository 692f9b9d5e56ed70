-- P9 to P12 as they are shown, computed by bare ticks.
use mathlib.Core.Path.{◌≡◌, refl, ap, ◌∙◌}
use mathlib.Core.Bool.{Bool, true, ◌&&◌}
use mathlib.Core.List.{List, [], ◌∷◌, ◌++◌}
use Prim.Native.Nat.{ℕ, ◌^◌, ◌<◌}
use lib.Dec.{T, ltb, eqb, ltb→lt}
use borrow.Author.Tests.{ltb-true}
use Rattle.graph.specs.Words.{pick, flag, bit, sum, all, row_from, row, largest, also_if, those, those_below, lowest, is_in, any_of, is_none, set_of, join_from, in_order, first_or, lowest_or}
use Rattle.graph.specs.Graph.{edge, led_to, sweep, sweeps, acyclic_among, acyclic, done_within, done, one_more, longest_from, maximum, longest}
use Rattle.graph.proofs.Facts.{both_true}
use Rattle.table.specs.Memory.{no_succ, no_costs, zero_task, no_tasks, no_row, no_table, no_task, task, vertices, D, succ, edge_in, cost}
use Rattle.table.specs.Memory
use Rattle.table.specs.Numbers.{number, place}
use Rattle.table.specs.Reading.{field, mark_at, ranged, byte_at, value4, ticks_at, not_under, period_at, edge_ok, edge_at, costs_at, add_edge, edges_at, bad_task, parts_at, task_at, put_costs, bad_table, with_task, tasks_at, table_at, refused, ending, read}
use Rattle.table.specs.declared.Table.{Table}
use Rattle.table.specs.declared.Outcome.TheVariants.{Read}
use Rattle.machine.specs.declared.Phase.TheVariants.{Running}
use Rattle.machine.specs.declared.State.{State}
use Rattle.machine.specs.declared.Opened.{Opened}
use Rattle.machine.specs.declared.Ticked.{Ticked}
use Rattle.machine.specs.States.{no_job, idle, task_of, wait, job_at, is_live, deadline_of, live, deadline, jobs_of, remaining, work_of, wrap, ticks_left, left, zeros, unopened, open_read, opening}
use Rattle.machine.specs.Steps.{task_in, age_in, vertex_in, name_at, is_new, released, clear, available, availables, left_in, before, insert, ranked, own_choice, run_of, worked, finishes, going_on, closed, ended, any_place, finished, missed}
use Rattle.machine.specs.Ticking.{nobody, triple_of, run_list, ticked, judged, advance_to, refuse, when_running}
use Rattle.machine.proofs.Files.{opening_read}
use Rattle.text.specs.Text.{text, newline, digits_before, decimal}
use Rattle.lines.specs.Lines.{refuse_line, opened_line, open_line_read, open_line, or_dash, number_in, numbers_in, vertex_text, vertices_text, work_in, left_text, went_text, miss_text, refusal_text, answer_text, tick_line}
use Rattle.lines.specs.Watching.{number2, number4, release_sets, behind, watched, ticked_line, ticks_text, run_text}
use Rattle.examples.specs.Examples.{file_a}
use Rattle.examples.specs.Shown.{table_a, input_a, lines_a, input_wrap, lines_wrap, lines_cut, AllShown}
use Rattle.examples.proofs.Going.{bare_steps, bare_tick, Fine, bare_is, bare_fine, start_fine}

-- the lines by bare ticks; each release set has sixteen bits
unfoldable pub bare_text : Table → State → List ℕ → List ℕ
bare_text t st [] = []
bare_text t st (named ∷ more) = let x = bare_tick t st named in ticked_line st named x ++ bare_text t x.state more

unfoldable pub small : List ℕ → Bool
small [] = true
small (named ∷ more) = ltb named (2 ^ 16) && small more

module _ (s : List ℕ) (well : (read s).outcome ≡ Read) where
  bare_text_lem : (sets : List ℕ) (st : State) → Fine s well st → small sets ≡ true → ticks_text s st sets ≡ bare_text (read s).table st sets
  unfolding ticks_text bare_text small
  bare_text_lem [] st f h = refl
  bare_text_lem (named ∷ more) st f h =
      let q = both_true (ltb named (2 ^ 16)) _ h in
      ap (λ (x : Ticked). ticked_line st named x ++ ticks_text s x.state more) (bare_is s well st f named)
      ∙ ap (λ (l : List ℕ). ticked_line st named (bare_tick (read s).table st named) ++ l)
      (bare_text_lem more (bare_tick (read s).table st named).state (bare_fine s well st f named (ltb-true _ _ q.0)) q.1)

  bare_run : (clock : ℕ) (sets : List ℕ) → clock < 2 ^ 32 → small sets ≡ true
      → run_text s clock sets ≡ open_line s clock ++ bare_text (read s).table (zeros clock Running) sets
  unfolding run_text
  bare_run clock sets b h =
      ap (λ (x : Opened). open_line s clock ++ pick (eqb x.reply.number 0) (ticks_text s x.state sets) []) (opening_read s well clock)
      ∙ ap (λ (l : List ℕ). open_line s clock ++ l) (bare_text_lem sets (zeros clock Running) (start_fine s well clock b) h)

-- the release sets of both inputs
unfoldable pub sets_a : List ℕ
sets_a = 3 ∷ 0 ∷ 0 ∷ 0 ∷ 0 ∷ 2 ∷ 0 ∷ 2 ∷ []

unfoldable pub sets_wrap : List ℕ
sets_wrap = 3 ∷ []

record Computed : Type 0 where
  is_read_lem : (read file_a).outcome ≡ Read
  sets : small sets_a ≡ true
  clock : T (ltb 0 (2 ^ 32))
  lines : open_line file_a 0 ++ bare_text (read file_a).table (zeros 0 Running) sets_a ≡ lines_a
  sets_wrap_lem : small sets_wrap ≡ true
  clock_wrap : T (ltb 4294967286 (2 ^ 32))
  lines_wrap_lem : open_line file_a 4294967286 ++ bare_text (read file_a).table (zeros 4294967286 Running) sets_wrap ≡ lines_wrap

computed : Computed
unfolding flag bit sum all row_from row largest also_if those those_below lowest is_in any_of is_none set_of join_from in_order first_or lowest_or edge led_to sweep sweeps acyclic_among acyclic done_within done one_more longest_from maximum longest no_succ no_costs zero_task no_tasks no_row no_table no_task task vertices D succ edge_in cost Memory.T number place field mark_at ranged byte_at value4 ticks_at not_under period_at edge_ok edge_at costs_at add_edge edges_at bad_task parts_at task_at put_costs bad_table with_task tasks_at table_at refused ending read no_job idle task_of wait job_at is_live deadline_of live deadline jobs_of remaining work_of wrap ticks_left left zeros task_in age_in vertex_in name_at is_new released clear available availables left_in before insert ranked own_choice run_of worked finishes going_on closed ended any_place finished missed nobody triple_of run_list ticked judged advance_to refuse when_running text newline digits_before decimal refuse_line opened_line open_line_read open_line or_dash number_in numbers_in vertex_text vertices_text work_in left_text went_text miss_text refusal_text answer_text tick_line ticked_line bare_steps bare_tick bare_text small sets_a sets_wrap file_a lines_a lines_wrap
computed = record { is_read_lem = refl; sets = refl; clock = tt; lines = refl; sets_wrap_lem = refl; clock_wrap = tt; lines_wrap_lem = refl }

-- what an input stands for
input_A : watched input_a ≡ run_text file_a 0 sets_a
unfolding number2 number4 release_sets behind watched table_a input_a file_a sets_a
input_A = refl

input_wrap_lem : watched input_wrap ≡ run_text file_a 4294967286 sets_wrap
unfolding number2 number4 release_sets behind watched table_a input_wrap file_a sets_wrap
input_wrap_lem = refl

-- two of which nothing is played
record Cut : Type 0 where
  no_table_cut : watched (52 ∷ []) ≡ lines_cut
  no_clock : watched table_a ≡ text "open 0 processors 2 tasks 2" ++ newline

cut : Cut
unfolding flag bit sum all row_from row largest also_if those those_below lowest is_in any_of is_none set_of join_from in_order first_or lowest_or edge led_to sweep sweeps acyclic_among acyclic done_within done one_more longest_from maximum longest no_succ no_costs zero_task no_tasks no_row no_table no_task task vertices D succ edge_in cost Memory.T number place field mark_at ranged byte_at value4 ticks_at not_under period_at edge_ok edge_at costs_at add_edge edges_at bad_task parts_at task_at put_costs bad_table with_task tasks_at table_at refused ending read zeros idle no_job unopened open_read opening text newline digits_before decimal refuse_line opened_line open_line_read open_line number2 number4 release_sets behind watched ticks_text run_text file_a table_a lines_cut
cut = record { no_table_cut = refl; no_clock = refl }

pub all_shown : AllShown
all_shown = record {
  by_hand = input_A ∙ bare_run file_a computed.is_read_lem 0 sets_a (ltb→lt 0 (2 ^ 32) computed.clock) computed.sets ∙ computed.lines;
  wrap = input_wrap_lem ∙ bare_run file_a computed.is_read_lem 4294967286 sets_wrap (ltb→lt 4294967286 (2 ^ 32) computed.clock_wrap) computed.sets_wrap_lem ∙ computed.lines_wrap_lem;
  no_table_cut = cut.no_table_cut;
  no_clock = cut.no_clock;
}
