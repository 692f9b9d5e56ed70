-- An answer put together from what the functions below the C face gave is the one that its definition gives.
use mathlib.Core.Path.{◌≡◌, refl}
use mathlib.Core.Bool.{Bool, true, false}
use mathlib.Core.List.{List}
use Prim.Native.Nat.{ℕ}
use lib.IntN.{ℤ}
use lib.ListN.{replicate}
use Rattle.panel.specs.declared.FaceTable.{FaceTable}
use Rattle.panel.specs.Tables.{table_face}
use Rattle.std.specs.Int.{from_bool}
use Rattle.graph.specs.Words.{pick, flag}
use Rattle.panel.specs.Answers.{read_answer, write_answer, verdict_face, ruling_face}
use Rattle.table.specs.declared.Loaded.{Loaded}
use Rattle.table.specs.declared.Table.{Table}
use Rattle.table.specs.declared.Written.{Written}
use Rattle.table.specs.Numbers.{number, place, writing_number, writing_place}
use Rattle.table.specs.Reading.{read}
use Rattle.table.specs.Writing.{writing}
use Rattle.verdict.specs.declared.Verdict.{Verdict}
use Rattle.journal.specs.declared.Ruling.{Ruling}
use Rattle.machine.specs.declared.Job.{Job}
use Rattle.machine.specs.declared.Job.TheVariants.{Nothing, Live}
use Rattle.machine.specs.States.{is_live}
use Rattle.panel.specs.States.{live_of}

pub answers_read : (s : List ℕ) (l : Loaded) (n p : ℕ) (f : FaceTable) → l ≡ read s → n ≡ number l.outcome → p ≡ place l.outcome → f ≡ table_face l.table
    → read_answer s ≡ record { place = p; number = n; pad = replicate 3 0; table = f }
unfolding read_answer
answers_read s l n p f is_read_lem is_number is-place is-table = rw is_number (rw is-place (rw is-table (rw is_read_lem refl)))

-- u is the table that crossed as t
pub answers_write : (t u : Table) (room : ℕ) (w : Written) (n p : ℕ) → u ≡ t → w ≡ writing u room → n ≡ writing_number w → p ≡ writing_place w
    → write_answer t room ≡ record { place = p; number = n; pad = replicate 7 0 }
unfolding write_answer
answers_write t u room w n p is-it is-written is_number is-place = rw is_number (rw is-place (rw is-written (rw is-it refl)))

-- z is the margin as the machine reads it back from its bits
pub faces_verdict : (v : Verdict) (z : ℤ) → z ≡ v.margin
    → (record { place = v.place; margin = z; number = v.number; task = v.task; count = v.count; chain = v.chain; pad = replicate 5 0 }) ≡ verdict_face v
unfolding verdict_face
faces_verdict v z e = rw e refl

pub faces_ruling : (r : Ruling) (m : ℕ) → m ≡ pick r.missed 1 0
    → record { place = r.place; row = r.row; rows = r.rows; number = r.number; missed = m; pad = replicate 6 0 } ≡ ruling_face r
unfolding ruling_face
faces_ruling r m e = rw e refl

-- ---- what crosses as a byte, 0 or 1
pub true_byte : (b : Bool) → from_bool b ≡ pick b 1 0
true_byte true = refl
true_byte false = refl

pub flag_byte : (b : Bool) → from_bool b ≡ flag b
unfolding flag
flag_byte true = refl
flag_byte false = refl

pub live_byte : (j : Job) → from_bool (is_live j) ≡ live_of j
unfolding is_live live_of
live_byte Nothing = refl
live_byte (Live d) = refl
