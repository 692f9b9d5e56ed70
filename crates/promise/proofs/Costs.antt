-- THE TIMES THAT A TICK'S RELEASES DRAW, in the place of the table's costs: with them the table is as good as it was, the theory takes them for the times
-- of its new jobs, and steps 2 to 6 do not read them.
use mathlib.Core.Path.{◌≡◌, refl}
use mathlib.Core.List.{List}
use Prim.Native.Nat.{ℕ, ◌+◌, ◌*◌, ◌≤◌, ◌<◌}
use native.Mathlib.Omega.{arith}
use lib.ListN.{get_or}
use Rattle.table.specs.declared.Table.{Table}
use Rattle.table.specs.Memory.{task, vertices, D, T, succ, edge_in, cost}
use Rattle.table.specs.Writing.{edge_keys}
use Rattle.table.specs.Good.{GoodTask, GoodTable}
use Rattle.machine.specs.declared.State.{State}
use Rattle.machine.specs.Steps.{clear, available, availables, worked, Legal}
use Rattle.machine.proofs.Sound.{Sound}
use Rattle.theory.specs.Runs as Run
use Rattle.promise.specs.Runs.{taking, Drawn}
use Rattle.promise.proofs.Bridge.{model, model_by}

-- the stated costs are drawn times too
pub stated_drawn : (t : Table) (c : List ℕ) → ((k : ℕ) → k < 256 → get_or c k 0 ≡ get_or t.costs k 0) → Drawn t c
stated_drawn t c same = record {
  most = λ k b. let e = same k b in omega arith;
  least = λ k b l. let e = same k b in omega arith;
}

module _ (t : Table) (c : List ℕ) (drawn : Drawn t c) where
  in_row : (i u : ℕ) → i < 16 → u < 16 → 16 * i + u < 256
  in_row i u a b = omega arith

  pub cost_most : (i u : ℕ) → i < 16 → u < 16 → cost (taking t c) i u ≤ cost t i u
  unfolding cost taking
  cost_most i u a b = drawn.most (16 * i + u) (in_row i u a b)

  pub cost_least : (i u : ℕ) → i < 16 → u < 16 → 1 ≤ cost t i u → 1 ≤ cost (taking t c) i u
  unfolding cost taking
  cost_least i u a b = drawn.least (16 * i + u) (in_row i u a b)

  module _ (good : GoodTable t) where
    six : (i : ℕ) → i < t.n → i < 16
    six i b = let h = good.n_high in omega arith

    -- the table with the times for its costs
    good_task : (i : ℕ) → i < t.n → GoodTask (taking t c) i
    unfolding taking task vertices D T succ edge_in edge_keys
    good_task i b =
        let g = good.each i b in
        record {
          v_low = g.v_low;
          v_high = g.v_high;
          e_high = g.e_high;
          D_low = g.D_low;
          D_high = g.D_high;
          T_low = g.T_low;
          T_high = g.T_high;
          D_T = g.D_T;
          cost_high = λ u h. let v = g.v_high in let z = cost_most i u (six i b) (omega arith) in let y = g.cost_high u h in omega arith;
          ends = g.ends;
          no_cycle = g.no_cycle;
          unused = λ u l h. let z = cost_most i u (six i b) h in let y = g.unused u l h in omega arith;
        }

    pub taking_good : GoodTable (taking t c)
    unfolding taking task
    taking_good = record {
      m_low = good.m_low;
      m_high = good.m_high;
      n_low = good.n_low;
      n_high = good.n_high;
      each = good_task;
      no_task_past = good.no_task_past;
      no_cost = λ i u l h k. let z = cost_most i u h k in let y = good.no_cost i u l h k in omega arith;
    }

    -- as the theory asks of times: none above its cost, and at least a tick of what costs any
    pub taking_proper : (i : ℕ) → i < t.n → Run.Proper (model t) i (cost (taking t c) i)
    unfolding model model_by
    taking_proper i b = record { most = λ u h. cost_most i u (six i b) h; some = λ u h. cost_least i u (six i b) h }

-- steps 2 to 4 read no costs
pub legal_taking : (t : Table) (c : List ℕ) (st : State) (chosen : List ℕ) → Legal t st chosen → Legal (taking t c) st chosen
unfolding taking task vertices succ edge_in clear available availables
legal_taking t c st chosen l = record { distinct = l.distinct; number = l.number; only = l.only; first = l.first }

pub worked_taking : (t : Table) (c : List ℕ) (st : State) (named : ℕ) (chosen : List ℕ) → worked (taking t c) st named chosen ≡ worked t st named chosen
unfolding worked taking task T
worked_taking t c st named chosen = refl

-- with the stated costs it is the table
pub taking_own : (t : Table) → taking t t.costs ≡ t
unfolding taking
taking_own t = refl

-- that a state is sound hangs on no costs
pub sound_taking : (t : Table) (c : List ℕ) (st : State) → Sound t st → Sound (taking t c) st
unfolding taking task D T
sound_taking t c st s = record {
  running = s.running;
  clock = s.clock;
  lives = s.lives;
  going = s.going;
  soon = s.soon;
  apart = s.apart;
  resting = s.resting;
  short = s.short;
  waits = s.waits;
  unused = s.unused;
  works = s.works;
}

pub taking_sound : (t : Table) (c : List ℕ) (st : State) → Sound (taking t c) st → Sound t st
unfolding taking task D T
taking_sound t c st s = record {
  running = s.running;
  clock = s.clock;
  lives = s.lives;
  going = s.going;
  soon = s.soon;
  apart = s.apart;
  resting = s.resting;
  short = s.short;
  waits = s.waits;
  unused = s.unused;
  works = s.works;
}
