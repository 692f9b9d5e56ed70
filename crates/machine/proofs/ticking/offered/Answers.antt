-- Step 1 of the state taken apart, and of what it leaves the ready vertices and the ticks left.
use Rattle.std.proofs.Common.{◌≡◌, ℕ, ◌%◌, List, length, ◌∙◌, ap, ap₂, rules}
use Rattle.graph.specs.Words.{pick, bit, row, set_of}
use Rattle.table.specs.Memory.{task}
use Rattle.slots.specs.Slots.{is_ready}
use Rattle.machine.specs.declared.rows.Rows.{Rows}
use Rattle.machine.specs.Steps.{released, offered}
use Rattle.machine.specs.Rows.{taken_apart, ticks_of, begun, rest_begun}
use Rattle.machine.proofs.Filling.{length_mapped}
use Rattle.machine.proofs.Ready.{successors, ready_sets}
use Rattle.machine.proofs.Rowwise.{mid_remaining, mid_lives, mid_ticks}
use Rattle.machine.proofs.ticking.offered.Goals as goal

pub returns : goal.returns
unfolding offered
returns c =
    let a = c.args in
    let many : length a.st.tasks ≡ 16 = search (length_mapped, rules) in
    let mid : c.release.new.self ≡ begun a.t a.named a.st.remaining (taken_apart a.st) = c.release.ensures.0 ∙ ap (begun a.t a.named a.st.remaining) c.of-rows.ensures in
    let rest : c.release.new.remaining ≡ rest_begun a.t a.named a.st.remaining (taken_apart a.st) = c.release.ensures.1 ∙ ap (rest_begun a.t a.named a.st.remaining) c.of-rows.ensures in
    ap₂ (λ (x l : List ℕ). record { sets = x; left = l })
    (c.sets_of.ensures
    ∙ ap₂ (λ (r : Rows) (l : List ℕ). row 64 (λ s. pick (bit r.live s) (set_of 16 (is_ready (task a.t (s % 16)).succ (task a.t (s % 16)).v l s)) 0)) mid rest
    ∙ ready_sets a.t (successors a.t _ c.well_formed.0) (released a.t a.st a.named) _ _ (mid_remaining a.t a.st a.named many) (mid_lives a.t a.st a.named many))
    (c.ticks_left.ensures ∙ ap ticks_of mid ∙ mid_ticks a.t a.st a.named many)
