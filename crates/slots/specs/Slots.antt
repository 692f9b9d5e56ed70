-- What the code asks of one slot: document 01, "A running state fits if ..", with document 02's M-103, M-104 and M-109, over the rows of numbers and a
-- task's entry, any numbers in them. Nobody has to believe it: the rule is Fitting.antt of crate machine, which says the same of each slot of a good
-- table (crate machine, proofs/Fits.antt). Slot s = 16 * p + i is age place p of task i.
use Rattle.std.specs.Prelude.{Bool, ◌&&◌, ◌||◌, not, List, ℕ, ◌+◌, ◌*◌, ◌%◌, min, get_or, ltb, leb, eqb}
use Rattle.graph.specs.Words.{pick, sum, all}
use Rattle.graph.specs.Graph.{edge, done, held_back}
use Rattle.table.specs.declared.Task.{Task}

-- slot s's number of vertex u
abbrev pub at : List ℕ → ℕ → ℕ → ℕ
at row s u = get_or row (16 * s + u) 0

-- the cost of vertex u of its task, "indexed by sixteen times task plus vertex"
abbrev pub cost_at : List ℕ → ℕ → ℕ → ℕ
cost_at costs s u = get_or costs ((16 * s + u) % 256) 0

-- nothing remains of slot s: there are sixty-four, and of any other nothing does
unfoldable pub nothing_left : List ℕ → ℕ → Bool
nothing_left rest s = leb 64 s || all 16 (λ u. eqb (at rest s u) 0)

-- "each job's remaining work", "the sum of its vertices' remainings" (M-104)
unfoldable pub work_left : List ℕ → ℕ → ℕ
work_left rest s = pick (ltb s 64) (sum 16 (at rest s)) 0

-- something remains of vertex u of slot s
unfoldable pub something_left : List ℕ → ℕ → ℕ → Bool
something_left rest s u = ltb s 64 && not (eqb (at rest s u) 0)

-- step 2, by a task's successors, its v and the row of what remains: it has something remaining, and no direct predecessor that is not
-- done; a vertex from v on leads nowhere
unfoldable pub is_ready : List ℕ → ℕ → List ℕ → ℕ → ℕ → Bool
is_ready succ v rest s u = something_left rest s u && not (held_back (min v 16) (edge succ) (at rest s) u)

-- "no remaining above its cost"; the cost of a vertex that is not used is 0
unfoldable pub within_cost : List ℕ → List ℕ → ℕ → Bool
within_cost costs rest s = all 16 (λ u. leb (at rest s u) (cost_at costs s u))

-- the vertices are the first v of sixteen
abbrev pub used : ℕ → ℕ
used v = min v 16

-- every direct predecessor is done: "a vertex is done when nothing of it remains and all its direct predecessors are done"
unfoldable pub clear : Task → List ℕ → ℕ → ℕ → Bool
clear a rest s u = all (used a.v) (λ w. not (edge a.succ w u) || done (used a.v) (edge a.succ) (at rest s) w)

-- "a vertex with a predecessor not done still has its whole cost" (M-103)
unfoldable pub whole_behind : Task → List ℕ → List ℕ → ℕ → Bool
whole_behind a costs rest s = all (used a.v) (λ u. clear a rest s u || eqb (at rest s u) (cost_at costs s u))

-- a live job: "ticks left from 1 to D minus 1"; some remaining above 0, and the stored work their sum; no remaining above its cost; and what
-- document 02 says of a vertex with a predecessor not done
unfoldable pub job_fits : Task → List ℕ → ℕ → ℕ → List ℕ → ℕ → Bool
job_fits a costs left work rest s =
    leb 1 left && ltb left a.d
    && not (eqb work 0) && eqb work (work_left rest s)
    && within_cost costs rest s
    && whole_behind a costs rest s

-- a place without a job is zero
unfoldable pub zero_place : Bool → ℕ → List ℕ → ℕ → Bool
zero_place live work rest s = not live && eqb work 0 && nothing_left rest s
