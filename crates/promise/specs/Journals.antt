-- Document 02, M-100: "Demand 3 then says: an accepted table with an accepted journal has no miss." Proved in proofs/Journals.antt.
use Rattle.std.specs.Prelude.{◌≡◌, false, List, [], ◌∷◌, ℕ, ◌^◌, ◌<◌, get_or}
use Rattle.machine.specs.declared.State.{State}
use Rattle.machine.specs.States.{opening}
use Rattle.journal.specs.Judging.{judge}
use Rattle.journal.specs.Runs.{Tick, tick_with, answer_of, LegalFrom}

-- each tick of a run is answered 0
unfoldable pub EachAnswered0 : List ℕ → State → List Tick → Type 0
EachAnswered0 file st [] = Unit {0}
EachAnswered0 file st (x ∷ xs) = (answer_of (tick_with file st x) ≡ 0) × EachAnswered0 file (tick_with file st x).state xs

-- for every legal run of a table that a verdict accepts, from an idle machine at any clock: no tick of it misses
abbrev pub NoMissInRuns : (List ℕ → Type 0) → Type 0
NoMissInRuns Accepts =
    (file : List ℕ) → Accepts file
    → (clock : ℕ) → clock < 2 ^ 32
    → (run : List Tick) → LegalFrom file clock run
    → EachAnswered0 file (opening file clock).state run

-- so for every journal, a list of bytes
abbrev pub NoMissInJournals : (List ℕ → Type 0) → Type 0
NoMissInJournals Accepts =
    (file s : List ℕ) → ((k : ℕ) → get_or s k 0 < 2 ^ 8)
    → Accepts file → (judge file s).number ≡ 0
    → (judge file s).missed ≡ false
