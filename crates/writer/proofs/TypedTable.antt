-- The numbers of a table that a function was handed are numbers of their types.
use mathlib.Core.List.{List, [], ◌∷◌}
use mathlib.Core.Path.{◌≡◌}
use Prim.Native.Nat.{ℕ, zero, suc, ◌^◌, ◌<◌}
use native.Mathlib.Omega.{arith}
use lib.ListN.{length, get_or}
use mir.Val.{Val, Fits}
use mir.Syntax.{w16, w32}
use denote.Shadow.{shadow}
use denote.Array.{each}
use borrow.Author.Rules.{elem_Fits}
use Rattle.table.specs.declared.Task.{Task}
use Rattle.table.specs.declared.Table.{Table}
use Rattle.table.specs.Memory.{no_task, task, vertices, D, T, succ}
use Rattle.table.specs.Good.{Typed}
use Rattle.table.specs.contracts.Task as task-type
use Rattle.table.specs.contracts.Table as table-type

-- a task's numbers
record Fit (a : Task) : Type 0 where
  v_byte : a.v < 2 ^ 8
  d_word : a.d < 2 ^ 32
  t_word : a.t < 2 ^ 32
  small : (u : ℕ) → get_or a.succ u 0 < 2 ^ 16

no_fit : Fit no_task
unfolding no_task
no_fit = record { v_byte = omega arith; d_word = omega arith; t_word = omega arith; small = λ u. omega arith }

abbrev Told : Task → List Val → Type 0
Told a us = shadow ((task-type.the_row).own_val a us)

one_fit : (a : Task) (us : List Val) → Told a us → Fit a
one_fit a us p =
    let e = p.1.1.1.1.1.0 in
    record {
      v_byte = p.1.1.0.1;
      d_word = p.1.1.1.0.1;
      t_word = p.1.1.1.1.0.1;
      small = λ u. let h : Fits w16 (get_or a.succ u 0) = elem_Fits w16 w16 a.succ e.0 u e.1.1 tt in omega arith;
    }

abbrev AllTold : List Task → List Val → Type 0
AllTold l us = shadow (each (task-type.the_row).Denot (task-type.the_row).own_val l us)

all_fit : (l : List Task) (us : List Val) (i : ℕ) → AllTold l us → Fit (get_or l i no_task)
all_fit [] us i p = no_fit
all_fit (a ∷ l) [] i p = absurd p
all_fit (a ∷ l) (u ∷ us) zero p = one_fit a (u ∷ []) p.0
all_fit (a ∷ l) (u ∷ us) (suc i) p = all_fit l us i p.1

all_long : (l : List Task) (us : List Val) (i : ℕ) → i < length l → AllTold l us → length (get_or l i no_task).succ ≡ 16
all_long [] us i h p = absurd (omega arith)
all_long (a ∷ l) [] i h p = absurd p
all_long (a ∷ l) (u ∷ us) zero h p = p.0.1.1.1.1.1.0.1.0.1
all_long (a ∷ l) (u ∷ us) (suc i) h p = all_long l us i (omega arith) p.1

-- from what a function is told of a table that is its parameter
pub typed_table : (t : Table) (us : List Val) → shadow ((table-type.the_row).own_val t us) → Typed t
unfolding vertices D T succ task
typed_table t us p =
    let ts = p.1.1.1.1.0 in
    let cs = p.1.1.1.1.1.0 in
    let n : length t.tasks ≡ 16 = ts.1.0.1 in
    record {
      sixteen = n;
      many = cs.1.0.1;
      m_byte = p.1.1.0.1;
      n_byte = p.1.1.1.0.1;
      v_byte = λ i. (all_fit t.tasks ts.0 i ts.1.1).v_byte;
      D_word = λ i. (all_fit t.tasks ts.0 i ts.1.1).d_word;
      T_word = λ i. (all_fit t.tasks ts.0 i ts.1.1).t_word;
      cost_word = λ k. let h : Fits w32 (get_or t.costs k 0) = elem_Fits w32 w32 t.costs cs.0 k cs.1.1 tt in omega arith;
      rows = λ i h. all_long t.tasks ts.0 i (omega arith) ts.1.1;
      small = λ i u. (all_fit t.tasks ts.0 i ts.1.1).small u;
    }
