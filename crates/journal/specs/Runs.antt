-- A legal run of the machine, and its writing as a journal: document 01, "The machine", and document 02, M-100.
use Rattle.std.specs.Prelude.{◌≡◌, ◌⊎◌, Bool, List, [], ◌∷◌, ◌++◌, ℕ, ◌+◌, ◌*◌, ◌/◌, ◌%◌, ◌^◌, ◌<◌, length, eqb}
use Rattle.graph.specs.Words.{pick, those_below, is_in}
use Rattle.table.specs.Reading.{read}
use Rattle.machine.specs.declared.State.{State}
use Rattle.machine.specs.declared.Triple.{Triple}
use Rattle.machine.specs.declared.Ticked.{Ticked}
use Rattle.machine.specs.States.{opening}
use Rattle.machine.specs.Steps.{task_in, age_in, vertex_in, released, Legal}
use Rattle.machine.specs.Ticking.{tick_by, tick}

-- A TICK of a run: its release set, and the vertices that it runs, each 64 times task, 16 times age place, vertex
pub record Tick : Type 0 where
  pub named : ℕ
  pub chosen : List ℕ

-- document 01's tick, with that choice in step 3
unfoldable pub tick_with : List ℕ → State → Tick → Ticked
tick_with file st x = tick_by (λ t s. x.chosen) file st x.named

unfoldable pub answer_of : Ticked → ℕ
answer_of x = x.answer.reply.number

-- "a legal tick in document 01's wide sense"
pub record LegalTick (file : List ℕ) (st : State) (x : Tick) : Type 0 where
  -- "release set (2 bytes)"
  pub bits : x.named < 2 ^ 16
  -- the machine does not refuse it: its answer is 0, or 34 for a miss
  pub taken : (answer_of (tick_with file st x) ≡ 0) ⊎ (answer_of (tick_with file st x) ≡ 34)
  -- "a legal tick is any choice in step 3 of min(m, available) vertices that passes over no available vertex with fewer ticks
  -- left than one chosen"
  pub choice : Legal (read file).table (released (read file).table st x.named) x.chosen

-- A LEGAL RUN from a state: each tick is legal on what the tick before hands back. (After a miss the machine is stopped and
-- refuses every tick, so only the last can miss.)
unfoldable pub LegalRun : List ℕ → State → List Tick → Type 0
LegalRun file st [] = Unit {0}
LegalRun file st (x ∷ xs) = LegalTick file st x × LegalRun file (tick_with file st x).state xs

-- "starting idle": "An idle machine is a state just opened, at any clock."
pub record LegalFrom (file : List ℕ) (clock : ℕ) (run : List Tick) : Type 0 where
  pub opened : (opening file clock).reply.number ≡ 0
  pub ticks : LegalRun file (opening file clock).state run

-- "whether the last one missed": it was answered 34; `was` is the answer before
unfoldable pub last_answer : List ℕ → State → ℕ → List Tick → ℕ
last_answer file st was [] = was
last_answer file st was (x ∷ xs) = last_answer file (tick_with file st x).state (answer_of (tick_with file st x)) xs

unfoldable pub last_missed : List ℕ → ℕ → List Tick → Bool
last_missed file clock run = eqb (last_answer file (opening file clock).state 0 run) 34

-- ITS WRITING. "rows, each with mark 4A 52, release set (2 bytes), run count (1), then that many" triples, "ascending strictly"; M-109: "(task, age place,
-- vertex) in three bytes", "and journal rows ascend by task, age place, vertex"
unfoldable pub keys_of : List ℕ → List ℕ
keys_of chosen = those_below 1024 (λ k. is_in k chosen)

unfoldable pub triple_bytes : List ℕ → List ℕ
triple_bytes [] = []
triple_bytes (k ∷ ks) = task_in k ∷ age_in k ∷ vertex_in k ∷ triple_bytes ks

unfoldable pub row_bytes : ℕ → List ℕ → List ℕ
row_bytes named keys = 0x4A ∷ 0x52 ∷ named % 256 ∷ named / 256 ∷ length keys ∷ triple_bytes keys

unfoldable pub writing : List Tick → List ℕ
writing [] = []
writing (x ∷ xs) = row_bytes x.named (keys_of x.chosen) ++ writing xs

-- THE SAME RUN but for the order within a tick
unfoldable pub SameRun : List Tick → List Tick → Type 0
SameRun [] [] = Unit {0}
SameRun [] (y ∷ ys) = ⊥
SameRun (x ∷ xs) [] = ⊥
SameRun (x ∷ xs) (y ∷ ys) = (x.named ≡ y.named) × ((k : ℕ) → is_in k x.chosen ≡ is_in k y.chosen) × SameRun xs ys

-- THE MACHINE'S OWN RUN on a list of release sets: what its answers say that it ran
unfoldable pub key_if : Triple → List ℕ → List ℕ
key_if x keys = pick (eqb x.task 255) keys ((64 * x.task + 16 * x.age + x.vertex) ∷ keys)

-- the run list's places that are used
unfoldable pub ran_keys : List Triple → List ℕ
ran_keys [] = []
ran_keys (x ∷ xs) = key_if x (ran_keys xs)

unfoldable pub own_run : List ℕ → State → List ℕ → List Tick
own_run file st [] = []
own_run file st (named ∷ sets) =
    let x = tick file st named in
    record { named = named; chosen = ran_keys x.answer.ran } ∷ own_run file x.state sets

-- none of them is refused
unfoldable pub NoneRefused : List ℕ → State → List ℕ → Type 0
NoneRefused file st [] = Unit {0}
NoneRefused file st (named ∷ sets) =
    (named < 2 ^ 16) × ((answer_of (tick file st named) ≡ 0) ⊎ (answer_of (tick file st named) ≡ 34)) × NoneRefused file (tick file st named).state sets
