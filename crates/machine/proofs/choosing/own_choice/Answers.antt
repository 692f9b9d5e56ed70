-- The sets are those of the available vertices, and the ticks left those of the live jobs: what `choose` asks for.
use Rattle.std.proofs.Common.{ℕ, ◌+◌, ◌*◌, ◌%◌, Bool, List, get_or, sym, refl, ap, ◌∙◌, ap₂, arith}
use Rattle.graph.specs.Words.{pick, set_of}
use Rattle.graph.proofs.Facts.{row_at}
use Rattle.table.specs.Memory.{task}
use Rattle.slots.specs.Slots.{is_ready}
use Rattle.machine.specs.States.{ticks_left, left}
use Rattle.machine.proofs.Ready.{successors, ready_sets}
use Rattle.machine.proofs.choosing.own_choice.Goals as goal

pub choose-requires : goal.choose-requires
choose-requires c =
    let a = c.args in (
      c.requires,
      λ k b e. ap (λ (l : List ℕ). get_or l k 0) c.sets_of-sets.ensures ∙ row_at 64 _ k 0 b
          ∙ ap (λ (x : Bool). pick x (set_of 16 (is_ready (task a.t (k % 16)).succ (task a.t (k % 16)).v a.remaining.now k)) 0) e,
    )

pub returns : goal.returns
unfolding left
returns c = λ st k r l d.
    let a = c.args in
    c.choose.ensures.0 a.t st refl (c.sets_of-sets.ensures ∙ ready_sets a.t (successors a.t _ c.well_formed.0) st a.rows.now.live _ r l)
    (λ i p b h e.
    ap (λ (x : List ℕ). get_or x (16 * p + i) 0) c.ticks_left.ensures ∙ row_at 64 _ (16 * p + i) 0 (omega arith)
    ∙ ap (λ (x : Bool). pick x (ticks_left (get_or a.rows.now.deadlines (16 * p + i) 0) a.rows.now.clock) 0) (l i p b h ∙ e)
    ∙ ap₂ ticks_left (d i p b h e) (sym k))
