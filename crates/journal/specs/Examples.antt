-- Journals and their rulings, computed: each refusal of M-100 once, a run in which ties fall differently, one that misses, and one with two live jobs of
-- a task.
use Rattle.std.specs.Prelude.{Bool, true, false, ◌&&◌, not, List, [], ◌∷◌, ◌++◌, ℕ, T, eqb}
use Rattle.graph.specs.Words.{pick}
use Rattle.journal.specs.declared.Ruling.{Ruling}
use Rattle.journal.specs.Judging.{judge}

-- a task of one vertex with a cost, D and T the same; all below 256
unfoldable pub task : ℕ → ℕ → List ℕ
task time cost = 0x54 ∷ 0x4B ∷ 1 ∷ 0 ∷ time ∷ 0 ∷ 0 ∷ 0 ∷ time ∷ 0 ∷ 0 ∷ 0 ∷ cost ∷ 0 ∷ 0 ∷ 0 ∷ []

-- m 1; three tasks of cost 1: the first has 3 ticks, the others 2
unfoldable pub three : List ℕ
three = 0x54 ∷ 0x42 ∷ 1 ∷ 3 ∷ (task 3 1 ++ task 2 1 ++ task 2 1)

-- the same tasks with m 2
unfoldable pub pair : List ℕ
pair = 0x54 ∷ 0x42 ∷ 2 ∷ 3 ∷ (task 3 1 ++ task 2 1 ++ task 2 1)

-- m 1; a task of cost 2 that has 1 tick: it misses
unfoldable pub late : List ℕ
late = 0x54 ∷ 0x42 ∷ 1 ∷ 1 ∷ task 1 2

-- m processors; a task of cost 2 that has 3 ticks and may come each tick (M-109)
unfoldable pub often : ℕ → List ℕ
often m = 0x54 ∷ 0x42 ∷ m ∷ 1 ∷ 0x54 ∷ 0x4B ∷ 1 ∷ 0 ∷ 3 ∷ 0 ∷ 0 ∷ 0 ∷ 1 ∷ 0 ∷ 0 ∷ 0 ∷ 2 ∷ 0 ∷ 0 ∷ 0 ∷ []

-- a row that names a set below 256 and lists some bytes of triples
unfoldable pub line : ℕ → ℕ → List ℕ → List ℕ
line set count triples = 0x4A ∷ 0x52 ∷ set ∷ 0 ∷ count ∷ triples

-- all tasks are released, and task i runs
unfoldable pub begins : ℕ → List ℕ
begins i = line 7 1 (i ∷ 0 ∷ 0 ∷ [])

-- nothing is released, and task i runs
unfoldable pub runs : ℕ → List ℕ
runs i = line 0 1 (i ∷ 0 ∷ 0 ∷ [])

pub record Example : Type 0 where
  pub file : List ℕ
  pub journal : List ℕ
  pub ruling : Ruling

unfoldable pub same : Bool → Bool → Bool
same a b = pick a b (not b)

unfoldable pub holds : Example → Bool
holds x =
    let r = judge x.file x.journal in
    eqb r.number x.ruling.number && eqb r.place x.ruling.place && eqb r.row x.ruling.row && eqb r.rows x.ruling.rows
    && same r.missed x.ruling.missed

unfoldable pub hold : List Example → Bool
hold [] = true
hold (x ∷ xs) = holds x && hold xs

unfoldable pub accepts : List ℕ → List ℕ → ℕ → Bool → Example
accepts file journal rows missed = record { file = file; journal = journal; ruling = record { number = 0; place = 0; row = 0; rows = rows; missed = missed } }

unfoldable pub refuses : List ℕ → List ℕ → ℕ → ℕ → Example
refuses file journal number row = record { file = file; journal = journal; ruling = record { number = number; place = 0; row = row; rows = 0; missed = false } }

unfoldable pub examples : List Example
examples =
    -- nothing was run: no rows
    accepts three [] 0 false
    -- of tasks 1 and 2, which have the same ticks left, either may run first
    ∷ accepts three (begins 1 ++ runs 2 ++ runs 0) 3 false
    ∷ accepts three (begins 2 ++ runs 1 ++ runs 0) 3 false
    -- a miss in the last row
    ∷ accepts late (line 1 1 (0 ∷ 0 ∷ 0 ∷ [])) 1 true
    -- two live jobs of task 0; the older one ends in the second row, so the other is the oldest in the third
    ∷ accepts (often 2) (line 1 1 (0 ∷ 0 ∷ 0 ∷ []) ++ line 1 2 (0 ∷ 0 ∷ 0 ∷ 0 ∷ 1 ∷ 0 ∷ []) ++ line 0 1 (0 ∷ 0 ∷ 0 ∷ [])) 3 false
    -- reading's number and place, row 0
    ∷ record { file = 0x54 ∷ []; journal = 0 ∷ []; ruling = record { number = 1; place = 0; row = 0; rows = 0; missed = false } }
    -- 47 any byte after a miss
    ∷ refuses late (line 1 1 (0 ∷ 0 ∷ 0 ∷ []) ++ (0 ∷ [])) 47 1
    -- 40 a row cut short, also one whose mark is wrong
    ∷ refuses three (begins 1 ++ line 0 1 (2 ∷ 0 ∷ [])) 40 1
    ∷ refuses three (0x4B ∷ []) 40 0
    -- 41 wrong mark
    ∷ refuses three (begins 1 ++ (0x4A ∷ 0x4A ∷ 0 ∷ 0 ∷ 0 ∷ [])) 41 1
    -- 42 count above m, or triples not ascending: with m 2 the same triples in order are accepted
    ∷ refuses three (line 7 2 (1 ∷ 0 ∷ 0 ∷ 2 ∷ 0 ∷ 0 ∷ [])) 42 0
    ∷ refuses pair (line 7 2 (2 ∷ 0 ∷ 0 ∷ 1 ∷ 0 ∷ 0 ∷ [])) 42 0
    ∷ refuses pair (line 7 2 (1 ∷ 0 ∷ 0 ∷ 1 ∷ 0 ∷ 0 ∷ [])) 42 0
    ∷ refuses (often 2) (line 1 1 (0 ∷ 0 ∷ 0 ∷ []) ++ line 1 2 (0 ∷ 1 ∷ 0 ∷ 0 ∷ 0 ∷ 0 ∷ [])) 42 1
    ∷ accepts pair (line 7 2 (1 ∷ 0 ∷ 0 ∷ 2 ∷ 0 ∷ 0 ∷ [])) 1 false
    -- 31, also where task 2 has to wait; 33
    ∷ refuses three (begins 1 ++ line 12 1 (2 ∷ 0 ∷ 0 ∷ [])) 31 1
    ∷ refuses three (begins 1 ++ line 4 1 (2 ∷ 0 ∷ 0 ∷ [])) 33 1
    -- 44 a listed vertex not available: it is done; it is no vertex, also where 64 * 0 + 16 * 0 + 64 is one; there is no such job, also where 64 * 0 + 16 * 4
    -- is the number of one that there is
    ∷ refuses three (begins 1 ++ runs 1) 44 1
    ∷ refuses three (line 7 1 (0 ∷ 0 ∷ 64 ∷ [])) 44 0
    ∷ refuses three (line 7 1 (1 ∷ 1 ∷ 0 ∷ [])) 44 0
    ∷ refuses three (line 7 1 (0 ∷ 4 ∷ 0 ∷ [])) 44 0
    -- 45 fewer listed than the smaller of m and the available
    ∷ refuses three (line 7 0 []) 45 0
    -- 46 an earlier deadline passed over, of another task or of an older job
    ∷ refuses three (begins 0) 46 0
    ∷ refuses (often 1) (line 1 1 (0 ∷ 0 ∷ 0 ∷ []) ++ line 1 1 (0 ∷ 1 ∷ 0 ∷ [])) 46 1
    ∷ []

-- THE STATEMENT: they all hold
abbrev pub AllHold : Type 0
AllHold = T (hold examples)
