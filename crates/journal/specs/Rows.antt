-- A row of a journal and its refusals: document 02, M-100. "A journal is rows, each with mark 4A 52, release set (2 bytes), run
-- count (1), then that many (task, vertex) byte pairs, ascending strictly." M-109: journal rows "name (task, age place, vertex) in three bytes" and "ascend
-- by task, age place, vertex". s is the journal, the row begins at place `at`.
use Rattle.std.specs.Prelude.{Bool, true, false, ◌&&◌, ◌||◌, not, List, ℕ, ◌+◌, ◌*◌, ◌-◌, min, length, get_or, ltb, leb, eqb}
use Rattle.graph.specs.Words.{pick, bit, all, row, is_in, any_of, lowest_or}
use Rattle.table.specs.declared.Table.{Table}
use Rattle.machine.specs.declared.Phase.{Phase}
use Rattle.machine.specs.declared.Phase.TheVariants.{Running, Stopped}
use Rattle.machine.specs.declared.State.{State}
use Rattle.machine.specs.States.{wait}
use Rattle.machine.specs.Steps.{released, available, availables, left_in}

-- FIELDS. "release set (2 bytes)": "Numbers are little-endian."
unfoldable pub row_set : List ℕ → ℕ → ℕ
row_set s at = get_or s (at + 2) 0 + 256 * get_or s (at + 3) 0

-- "run count (1)"
unfoldable pub row_count : List ℕ → ℕ → ℕ
row_count s at = get_or s (at + 4) 0

-- then that many (task, age place, vertex) byte triples: triple j
unfoldable pub row_task : List ℕ → ℕ → ℕ → ℕ
row_task s at j = get_or s (at + 5 + 3 * j) 0

unfoldable pub row_age : List ℕ → ℕ → ℕ → ℕ
row_age s at j = get_or s (at + 6 + 3 * j) 0

unfoldable pub row_vertex : List ℕ → ℕ → ℕ → ℕ
row_vertex s at j = get_or s (at + 7 + 3 * j) 0

-- the place after the row
unfoldable pub row_end : List ℕ → ℕ → ℕ
row_end s at = at + 5 + 3 * row_count s at

-- the vertices that the row lists, each 64 times task, 16 times age place, vertex
unfoldable pub row_key : List ℕ → ℕ → ℕ → ℕ
row_key s at j = 64 * row_task s at j + 16 * row_age s at j + row_vertex s at j

unfoldable pub listed : List ℕ → ℕ → List ℕ
listed s at = row (row_count s at) (row_key s at)

-- 47: "any byte after a miss": the row before left the machine stopped
unfoldable pub is_stopped : Phase → Bool
is_stopped Running = false
is_stopped (Stopped k) = true

-- 40: "a row cut short": some byte of it, of its five or of as many triples as its count says, lies past the end
unfoldable pub cut_short : List ℕ → ℕ → Bool
cut_short s at = ltb (length s) (row_end s at)

-- 41: "wrong mark", not "4A 52"
unfoldable pub wrong_mark : List ℕ → ℕ → Bool
wrong_mark s at = not (eqb (get_or s at 0) 0x4A && eqb (get_or s (at + 1) 0) 0x52)

-- 42: "count above m or pairs not ascending"; of three bytes each, triples ascend as 65536 * task + 256 * age place + vertex does
unfoldable pub row_triple : List ℕ → ℕ → ℕ → ℕ
row_triple s at j = 65536 * row_task s at j + 256 * row_age s at j + row_vertex s at j

unfoldable pub ascending : List ℕ → ℕ → Bool
ascending s at = all (row_count s at - 1) (λ j. ltb (row_triple s at j) (row_triple s at (j + 1)))

unfoldable pub bad_list : Table → List ℕ → ℕ → Bool
bad_list t s at = ltb t.m (row_count s at) || not (ascending s at)

-- 44: "a listed vertex not available"; `st` is the state after step 1, here and below. A triple that is no vertex is not available.
unfoldable pub triple_available : Table → State → ℕ → ℕ → ℕ → Bool
triple_available t st i p u = ltb i 16 && ltb p 4 && ltb u 16 && available t st (64 * i + 16 * p + u)

unfoldable pub not_available : Table → State → List ℕ → ℕ → Bool
not_available t st s at = not (all (row_count s at) (λ j. triple_available t st (row_task s at j) (row_age s at j) (row_vertex s at j)))

-- 45: "fewer listed than the smaller of m and the available"
unfoldable pub too_few : Table → State → List ℕ → ℕ → Bool
too_few t st s at = ltb (row_count s at) (min t.m (length (availables t st)))

-- 46: "an earlier deadline passed over": an available vertex that is not listed has fewer ticks left than a listed one
unfoldable pub passes_over : Table → State → List ℕ → Bool
passes_over t st chosen =
    any_of (availables t st) (λ a. not (is_in a chosen) && any_of chosen (λ b. ltb (left_in st a) (left_in st b)))

-- THE REFUSALS of a row, "in order"; 0 if there is none. Those of its choice:
unfoldable pub choice_fault : Table → State → List ℕ → ℕ → ℕ
choice_fault t st s at =
    pick (not_available t st s at) 44
    (pick (too_few t st s at) 45
    (pick (passes_over t st (listed s at)) 46 0))

-- "31, 33" are the machine's own: "31, a release bit at or above n", "33, a named task with a wait above 0"
unfoldable pub set_fault : Table → State → List ℕ → ℕ → ℕ
set_fault t st s at =
    lowest_or 16 (λ i. bit (row_set s at) i && leb t.n i) (λ i. 31)
    (lowest_or t.n (λ i. bit (row_set s at) i && ltb 0 (wait st i)) (λ i. 33)
    (choice_fault t (released t st (row_set s at)) s at))

unfoldable pub fault : Table → State → List ℕ → ℕ → ℕ
fault t st s at =
    pick (is_stopped st.phase) 47
    (pick (cut_short s at) 40
    (pick (wrong_mark s at) 41
    (pick (bad_list t s at) 42
    (set_fault t st s at))))
