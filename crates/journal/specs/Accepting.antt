-- WHAT THE JUDGE ACCEPTS: document 02, M-100. "It must accept every legal run so written and nothing else." Proved in
-- proofs/Accepts.antt.
use Rattle.std.specs.Prelude.{◌≡◌, ◌↔◌, List, ℕ, ◌^◌, ◌<◌, length, get_or}
use Rattle.machine.specs.States.{opening}
use Rattle.journal.specs.declared.Ruling.{Ruling}
use Rattle.journal.specs.Judging.{judge}
use Rattle.journal.specs.Runs.{Tick, LegalFrom, last_missed, writing, SameRun, own_run, NoneRefused}

-- a run's ruling: number 0, "the number of rows and whether the last one missed"
unfoldable pub accepted : List ℕ → ℕ → List Tick → Ruling
accepted file clock run = record { number = 0; place = 0; row = 0; rows = length run; missed = last_missed file clock run }

-- "It must accept every legal run so written": from an idle machine at any clock
abbrev pub EveryRun : Type 0
EveryRun =
    (file : List ℕ) (clock : ℕ) → clock < 2 ^ 32
    → (run : List Tick) → LegalFrom file clock run
    → judge file (writing run) ≡ accepted file clock run

-- "and nothing else": a journal of bytes that is accepted is the writing of a legal run, from an idle machine at any clock
abbrev pub NothingElse : Type 0
NothingElse =
    (file s : List ℕ) → ((k : ℕ) → get_or s k 0 < 2 ^ 8) → (judge file s).number ≡ 0
    → (clock : ℕ) → clock < 2 ^ 32
    → (run : List Tick) × LegalFrom file clock run × (writing run ≡ s) × (judge file s ≡ accepted file clock run)

-- Both in one: it is accepted with N rows exactly if it is the writing of a legal run of N ticks.
abbrev pub Exactly : Type 0
Exactly =
    (file s : List ℕ) → ((k : ℕ) → get_or s k 0 < 2 ^ 8) → (clock : ℕ) → clock < 2 ^ 32 → (N : ℕ)
    → (((judge file s).number ≡ 0) × ((judge file s).rows ≡ N)) ↔ ((run : List Tick) × LegalFrom file clock run × (length run ≡ N) × (writing run ≡ s))

-- It is the writing of one such run only, but for the order within a tick
abbrev pub OneRun : Type 0
OneRun =
    (file : List ℕ) (c d : ℕ) (run other : List Tick) → LegalFrom file c run → LegalFrom file d other
    → writing run ≡ writing other → SameRun run other

-- The machine's own runs, so written, are accepted: any release sets of sixteen bits that it does not refuse.
abbrev pub OwnRuns : Type 0
OwnRuns =
    (file : List ℕ) (clock : ℕ) → clock < 2 ^ 32 → (opening file clock).reply.number ≡ 0
    → (sets : List ℕ) → NoneRefused file (opening file clock).state sets
    → judge file (writing (own_run file (opening file clock).state sets)) ≡ accepted file clock (own_run file (opening file clock).state sets)
