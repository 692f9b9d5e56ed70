-- All that is shown for an input: "the table's length in two bytes little-endian, the table, the starting clock (4 bytes
-- little-endian), then one release set of two bytes little-endian for each tick until the input ends".
use Rattle.std.specs.Prelude.{List, [], ◌∷◌, ◌++◌, ℕ, ◌+◌, ◌*◌, ◌/◌, ◌%◌, eqb, get_or, take, drop}
use Rattle.graph.specs.Words.{pick, set_of}
use Rattle.machine.specs.declared.State.{State}
use Rattle.machine.specs.declared.Ticked.{Ticked}
use Rattle.machine.specs.States.{live, opening}
use Rattle.machine.specs.Ticking.{tick}
use Rattle.lines.specs.declared.Shown.{Shown}
use Rattle.lines.specs.Lines.{open_line, tick_line, line_of}

-- numbers at the front of the bytes, little-endian, "as if missing bytes were 0"
unfoldable pub number2 : List ℕ → ℕ
number2 s = get_or s 0 0 + 256 * get_or s 1 0

unfoldable pub number4 : List ℕ → ℕ
number4 s = number2 s + 65536 * number2 (drop 2 s)

-- "an odd last byte is ignored"
unfoldable pub release_sets : List ℕ → List ℕ
release_sets [] = []
release_sets (low ∷ []) = []
release_sets (low ∷ high ∷ s) = (low + 256 * high) ∷ release_sets s

-- a tick's line, by the state before it and what it gave
unfoldable pub ticked_line : State → ℕ → Ticked → List ℕ
ticked_line st named t = tick_line st.clock named t.answer (set_of 64 (λ s. live t.state (s % 16) (s / 16))) t.state.work

-- a line for each tick, from a state on
unfoldable pub ticks_text : List ℕ → State → List ℕ → List ℕ
ticks_text table st [] = []
ticks_text table st (named ∷ more) = ticked_line st named (tick table st named) ++ ticks_text table (tick table st named).state more

-- "or `refuse NUMBER at PLACE` and nothing more"
unfoldable pub run_text : List ℕ → ℕ → List ℕ → List ℕ
run_text table clock sets =
    open_line table clock ++ pick (eqb (opening table clock).reply.number 0) (ticks_text table (opening table clock).state sets) []

-- where the table's length runs past the input's end the table is the bytes that are there
unfoldable pub behind : List ℕ → ℕ → List ℕ
behind s length = run_text (take length (drop 2 s)) (number4 (drop (2 + length) s)) (release_sets (drop (6 + length) s))

unfoldable pub watched : List ℕ → List ℕ
watched s = behind s (number2 s)

-- ---- a step of it in memory: a line, the answer's number, the state to go on from
unfoldable pub shown_opening : List ℕ → ℕ → Shown
shown_opening table clock = record {
  line = line_of (open_line table clock);
  number = (opening table clock).reply.number;
  state = (opening table clock).state;
}

unfoldable pub shown_tick : List ℕ → State → ℕ → Shown
shown_tick table st named = record {
  line = line_of (ticked_line st named (tick table st named));
  number = (tick table st named).answer.reply.number;
  state = (tick table st named).state;
}
