-- Steps 1 and 4 of the state taken apart, each number that the choice lists once, and steps 5 and 6 of the state that the rows then make.
use Rattle.std.proofs.Common.{◌≡◌, ℕ, List, length, ap, ap₂, ◌∙◌, rules}
use Rattle.machine.specs.declared.rows.Rows.{Rows}
use Rattle.machine.specs.Steps.{released, listed}
use Rattle.machine.specs.Rows.{taken_apart, begun, rest_begun, state_after, with_run, rest_run}
use Rattle.machine.specs.Ticking.{advance_to, advance}
use Rattle.machine.proofs.Filling.{length_mapped}
use Rattle.machine.proofs.Begun.{same_work}
use Rattle.machine.proofs.Rowwise.{after_run}
use Rattle.machine.proofs.ticking.advance.Goals as goal

pub returns : goal.returns
unfolding advance
returns c =
    let a = c.args in
    let o = c.once in
    let many : length a.st.tasks ≡ 16 = search (length_mapped, rules) in
    let mid : c.release.new.self ≡ begun a.t a.named a.st.remaining (taken_apart a.st) = c.release.ensures.0 ∙ ap (begun a.t a.named a.st.remaining) c.of-rows.ensures in
    let rest : c.release.new.remaining ≡ rest_begun a.t a.named a.st.remaining (taken_apart a.st) = c.release.ensures.1 ∙ ap (rest_begun a.t a.named a.st.remaining) c.of-rows.ensures in
    c.told.ensures
    ∙ ap (advance_to (listed a.chosen))
    (ap₂ state_after c.run.ensures.0 c.run.ensures.1
    ∙ ap₂ (λ (r : Rows) (l : List ℕ). state_after (with_run (listed o.result) l r) (rest_run (listed o.result) l)) mid rest
    ∙ after_run a.t a.st a.named many (listed o.result)
    ∙ same_work a.t (released a.t a.st a.named) a.named (listed o.result) (listed a.chosen) o.ensures.1)
