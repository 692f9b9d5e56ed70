-- Document 01, "Numbers for reading and writing", "The verdict" and "The machine", and document 02, M-100 and M-102: the answers as they cross
-- the C face.
use Rattle.std.specs.Prelude.{List, ℕ, replicate}
use Rattle.panel.specs.declared.ReadAnswer.{ReadAnswer}
use Rattle.panel.specs.declared.WriteAnswer.{WriteAnswer}
use Rattle.panel.specs.declared.VerdictAnswer.{VerdictAnswer}
use Rattle.panel.specs.declared.FaceState.{FaceState}
use Rattle.panel.specs.declared.OpenAnswer.{OpenAnswer}
use Rattle.panel.specs.declared.TickAnswer.{TickAnswer}
use Rattle.panel.specs.declared.TickedFace.{TickedFace}
use Rattle.panel.specs.declared.RulingAnswer.{RulingAnswer}
use Rattle.panel.specs.Tables.{table_face}
use Rattle.panel.specs.States.{face_of, state_of, is_proper}
use Rattle.graph.specs.Words.{pick, row}
use Rattle.machine.specs.declared.Opened.{Opened}
use Rattle.machine.specs.declared.Answer.{Answer}
use Rattle.machine.specs.declared.Ticked.{Ticked}
use Rattle.machine.specs.States.{opening}
use Rattle.machine.specs.Ticking.{nobody, tick}
use Rattle.table.specs.declared.Table.{Table}
use Rattle.table.specs.Numbers.{number, place, writing_number, writing_place}
use Rattle.table.specs.Reading.{when_read, read}
use Rattle.table.specs.Writing.{writing}
use Rattle.verdict.specs.declared.Verdict.{Verdict}
use Rattle.journal.specs.declared.Ruling.{Ruling}
use Rattle.journal.specs.Judging.{judge}

-- "A refusal returns number, place and a table of zeros"; "Success has number 0; its place is 0 for the reader"
unfoldable pub read_answer : List ℕ → ReadAnswer
read_answer s = record { place = place (read s).outcome; number = number (read s).outcome; pad = replicate 3 0; table = table_face (read s).table }

-- "3 to 7 and the place exactly as a reader would ..; then 10 at place 0; then 9"; success has "the file's length"
unfoldable pub write_answer : Table → ℕ → WriteAnswer
write_answer t room = record { place = writing_place (writing t room); number = writing_number (writing t room); pad = replicate 7 0 }

-- "The verdict takes a file's bytes." Its number and place, "the answer is the lowest such task and its margin"; M-102: "The
-- verdict hands on the chain of the task it names". The sharp verdict of M-107 crosses in the same way.
unfoldable pub verdict_face : Verdict → VerdictAnswer
verdict_face v =
    record { place = v.place; margin = v.margin; number = v.number; task = v.task; count = v.count; chain = v.chain; pad = replicate 5 0 }

-- "Each answer, opening's too, has a number, a place and a task"; "all tasks are idle with wait 0"
unfoldable pub opened_face : Opened → OpenAnswer
opened_face o = record { place = o.reply.place; number = o.reply.number; task = o.reply.task; pad = replicate 6 0; state = face_of o.state }

unfoldable pub open_answer : List ℕ → ℕ → OpenAnswer
open_answer s clock = opened_face (opening s clock)

-- "With 0 or 34 come the vertices that ran .. and the set of tasks finished"
unfoldable pub answer_face : Answer → TickAnswer
answer_face a = record {
  place = a.reply.place;
  number = a.reply.number;
  task = a.reply.task;
  finished = a.finished;
  ran = a.ran;
  pad = replicate 4 0;
}

unfoldable pub ticked_face : Ticked → TickedFace
ticked_face t = record { answer = answer_face t.answer; state = face_of t.state }

-- "A refused tick returns the same state, eight unused places and the empty set."
unfoldable pub refused_face : FaceState → ℕ → ℕ → TickedFace
refused_face f number place = record {
  answer = record { place = place; number = number; task = 255; finished = 0; ran = row 8 (λ j. nobody); pad = replicate 4 0 };
  state = f;
}

-- "Refusals, in this order: reading's numbers; 30, the state doesn't fit the table": what is no state of the machine fits none
unfoldable pub tick_answer : List ℕ → FaceState → ℕ → TickedFace
tick_answer s f named =
    when_read (read s).outcome (λ o. refused_face f (number o) (place o)) λ _.
    pick (is_proper f) (ticked_face (tick s (state_of f) named)) (refused_face f 30 0)

-- M-100: "give the number of rows and whether the last one missed; or give the refusal's number and row, counted from 0 (for
-- reading's numbers the place, row 0)"
unfoldable pub ruling_face : Ruling → RulingAnswer
ruling_face r = record { place = r.place; row = r.row; rows = r.rows; number = r.number; missed = pick r.missed 1 0; pad = replicate 6 0 }

unfoldable pub ruling_answer : List ℕ → List ℕ → RulingAnswer
ruling_answer s j = ruling_face (judge s j)
