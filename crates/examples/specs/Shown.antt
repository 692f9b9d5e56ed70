-- P9, P10 and P11 of document 01 as an input, with all that is shown of it, and P12's first line.
use Rattle.std.specs.Prelude.{◌≡◌, List, [], ◌∷◌, ◌++◌, ℕ}
use Rattle.text.specs.Text.{text, newline}
use Rattle.lines.specs.Watching.{watched}
use Rattle.examples.specs.Examples.{file_a}

-- table A, its length before it
unfoldable pub table_a : List ℕ
table_a = 52 ∷ 0 ∷ file_a

-- clock 0; both released, task 1 named at tick 5 and again at tick 6; an odd last byte
unfoldable pub input_a : List ℕ
input_a = table_a ++ (0 ∷ 0 ∷ 0 ∷ 0 ∷ 3 ∷ 0 ∷ 0 ∷ 0 ∷ 0 ∷ 0 ∷ 0 ∷ 0 ∷ 0 ∷ 0 ∷ 2 ∷ 0 ∷ 0 ∷ 0 ∷ 2 ∷ 0 ∷ 1 ∷ [])

unfoldable pub lines_a : List ℕ
lines_a =
    text "open 0 processors 2 tasks 2" ++ newline
    ++ text "tick 0 release 0 1 run 1.0.0 1.0.1 finish - left 0.0:6 1.0:2" ++ newline
    ++ text "tick 1 release - run 1.0.0 1.0.1 finish 1 left 0.0:6" ++ newline
    ++ text "tick 2 release - run 0.0.0 finish - left 0.0:5" ++ newline
    ++ text "tick 3 release - run 0.0.0 finish - left 0.0:4" ++ newline
    ++ text "tick 4 release - run 0.0.1 0.0.2 finish - left 0.0:2" ++ newline
    ++ text "tick 5 release 1 refuse 33 task 1" ++ newline
    ++ text "tick 5 release - run 0.0.1 finish - left 0.0:1" ++ newline
    ++ text "tick 6 release 1 run 0.0.1 1.0.0 finish 0 left 1.0:3" ++ newline

-- P12: from clock 4,294,967,286 task 1 runs first
unfoldable pub input_wrap : List ℕ
input_wrap = table_a ++ (246 ∷ 255 ∷ 255 ∷ 255 ∷ 3 ∷ 0 ∷ [])

unfoldable pub lines_wrap : List ℕ
lines_wrap =
    text "open 4294967286 processors 2 tasks 2" ++ newline
    ++ text "tick 4294967286 release 0 1 run 1.0.0 1.0.1 finish - left 0.0:6 1.0:2" ++ newline

-- cut short within the table, and within the clock
unfoldable pub lines_cut : List ℕ
lines_cut = text "refuse 1 at 0" ++ newline

pub record AllShown : Type 0 where
  pub by_hand : watched input_a ≡ lines_a
  pub wrap : watched input_wrap ≡ lines_wrap
  pub no_table_cut : watched (52 ∷ []) ≡ lines_cut
  pub no_clock : watched table_a ≡ text "open 0 processors 2 tasks 2" ++ newline
