-- The lines that show a table run, as bytes: "one line each (ending in byte 10), fields parted by one space". Documents 01 and 02 have no
-- such lines: what is quoted here and in Watching.antt is their own form.
use Rattle.std.specs.Prelude.{List, [], ◌∷◌, ◌++◌, ℕ, ◌+◌, ◌*◌, ◌/◌, ◌%◌, eqb, get_or}
use Rattle.graph.specs.Words.{pick, bit, in_order}
use Rattle.text.specs.Text.{text, newline, decimal}
use Rattle.table.specs.declared.Outcome.{Outcome}
use Rattle.table.specs.declared.Table.{Table}
use Rattle.table.specs.declared.Loaded.{Loaded}
use Rattle.table.specs.Numbers.{number, place}
use Rattle.table.specs.Reading.{when_read, read}
use Rattle.machine.specs.declared.Reply.{Reply}
use Rattle.machine.specs.declared.Triple.{Triple}
use Rattle.machine.specs.declared.Answer.{Answer}
use Rattle.text.specs.declared.page.Page.{Page}
use Rattle.text.specs.Written.{written}

-- OPENING. "refuse NUMBER at PLACE": reading's
unfoldable pub refuse_line : Outcome → List ℕ
refuse_line o = text "refuse " ++ decimal (number o) ++ text " at " ++ decimal (place o) ++ newline

-- "open CLOCK processors M tasks N"
unfoldable pub opened_line : ℕ → Table → List ℕ
opened_line clock t = text "open " ++ decimal clock ++ text " processors " ++ decimal t.m ++ text " tasks " ++ decimal t.n ++ newline

unfoldable pub open_line_read : Loaded → ℕ → List ℕ
open_line_read r clock = when_read r.outcome refuse_line λ _. opened_line clock r.table

unfoldable pub open_line : List ℕ → ℕ → List ℕ
open_line s clock = open_line_read (read s) clock

-- A TICK. A list of things, a space before each, "or `-`" where there is none
unfoldable pub or_dash : List ℕ → List ℕ
or_dash [] = text " -"
or_dash (b ∷ l) = b ∷ l

-- "R and F are task numbers ascending parted by spaces": bit i of a set is task i, up to 15 whatever the table has
unfoldable pub number_in : ℕ → ℕ → List ℕ
number_in set i = pick (bit set i) (text " " ++ decimal i) []

unfoldable pub numbers_in : ℕ → List ℕ
numbers_in set = or_dash (in_order 16 (number_in set))

-- "X is task.age.vertex in rank order parted by spaces": an unused place of the run list shows nothing
unfoldable pub vertex_text : Triple → List ℕ
vertex_text p =
    pick (eqb p.task 255) [] (text " " ++ decimal p.task ++ text "." ++ decimal p.age ++ text "." ++ decimal p.vertex)

unfoldable pub vertices_text : List Triple → List ℕ
vertices_text [] = []
vertices_text (p ∷ ps) = vertex_text p ++ vertices_text ps

-- the slot of the job that comes c-th in a line: four age places a task, and a slot is 16 times age place plus task
abbrev pub slot_in : ℕ → ℕ
slot_in c = 16 * (c % 4) + c / 4

-- "TASK.AGE:WORK": task c / 4, age place c % 4 and what is left of the work of the job there, if there is a live one
unfoldable pub work_in : ℕ → List ℕ → ℕ → List ℕ
work_in live work c =
    pick (bit live (slot_in c)) (text " " ++ decimal (c / 4) ++ text "." ++ decimal (c % 4) ++ text ":" ++ decimal (get_or work (slot_in c) 0)) []

-- "` left TASK.AGE:WORK ..` for the live jobs after the tick, ascending by task, then age place, or ` left -`"
unfoldable pub left_text : ℕ → List ℕ → List ℕ
left_text live work = text " left" ++ or_dash (in_order 64 (work_in live work))

-- "run X finish F", and the work left
unfoldable pub went_text : Answer → ℕ → List ℕ → List ℕ
went_text a live work = text " run" ++ or_dash (vertices_text a.ran) ++ text " finish" ++ numbers_in a.finished ++ left_text live work

-- "a miss adds ` miss TASK`"
unfoldable pub miss_text : Answer → ℕ → List ℕ → List ℕ
miss_text a live work = went_text a live work ++ text " miss " ++ decimal a.reply.task

-- "refuse NUMBER, with ` task TASK` where there is one": 255 is none
unfoldable pub refusal_text : Reply → List ℕ
refusal_text r = text " refuse " ++ decimal r.number ++ pick (eqb r.task 255) [] (text " task " ++ decimal r.task)

-- by the answer's number: 0, 34 or a refusal's
unfoldable pub answer_text : Answer → ℕ → List ℕ → List ℕ
answer_text a live work =
    pick (eqb a.reply.number 0) (went_text a live work) (pick (eqb a.reply.number 34) (miss_text a live work) (refusal_text a.reply))

-- "tick CLOCK release R ..", where "CLOCK is the clock before the tick"; the slots with a live job and the work left are those after it
unfoldable pub tick_line : ℕ → ℕ → Answer → ℕ → List ℕ → List ℕ
tick_line clock named a live work = text "tick " ++ decimal clock ++ text " release" ++ numbers_in named ++ answer_text a live work ++ newline

-- A LINE IN MEMORY: at the front of 2,048 bytes, with zeros behind it, and its length (`open_most`, `tick_most`, proofs/Length.antt)
unfoldable pub line_of : List ℕ → Page 2048
line_of = written 2048
