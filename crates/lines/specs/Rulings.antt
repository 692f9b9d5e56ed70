-- The judge's line, as bytes: document 02, M-100, "say that every row is a legal tick .. or give the refusal's number and row".
use Rattle.std.specs.Prelude.{List, [], ◌++◌, ℕ, eqb, leb}
use Rattle.graph.specs.Words.{pick}
use Rattle.text.specs.Text.{text, newline, decimal}
use Rattle.journal.specs.declared.Ruling.{Ruling}

-- "legal N rows", or "legal N rows, the last missed"
unfoldable pub legal_line : Ruling → List ℕ
legal_line r = text "legal " ++ decimal r.rows ++ text " rows" ++ pick r.missed (text ", the last missed") [] ++ newline

-- "unreadable NUMBER at PLACE"
unfoldable pub unread_line : Ruling → List ℕ
unread_line r = text "unreadable " ++ decimal r.number ++ text " at " ++ decimal r.place ++ newline

-- "refuse NUMBER at row R"
unfoldable pub refused_line : Ruling → List ℕ
refused_line r = text "refuse " ++ decimal r.number ++ text " at row " ++ decimal r.row ++ newline

-- by the number: 0, reading's (1 to 8), or a row's
unfoldable pub ruling_line : Ruling → List ℕ
ruling_line r = pick (eqb r.number 0) (legal_line r) (pick (leb r.number 8) (unread_line r) (refused_line r))
