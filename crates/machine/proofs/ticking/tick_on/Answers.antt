-- What each call told of the rows, one after the other; then the tick is put together. Once the tick is admitted the rows are tidy after step 4, so only the
-- tasks of which a job ended have a gap to close.
use Rattle.std.proofs.Common.{◌≡◌, ℕ, ◌+◌, ◌*◌, List, length, get_or, inr, sym, ap, ap₂, ◌∙◌, subst, rules}
use Rattle.graph.specs.Words.{bit, Distinct}
use Rattle.machine.specs.declared.rows.Rows.{Rows}
use Rattle.machine.specs.Steps.{released, own_choice, listed}
use Rattle.machine.specs.Rows.{taken_apart, rows_fit, begun, rest_begun, state_after, with_run, rest_run, refusal_of, Tidy}
use Rattle.machine.specs.Ticking.{advance_to, advance}
use Rattle.machine.proofs.Filling.{length_mapped}
use Rattle.machine.proofs.Index.{released_clock}
use Rattle.machine.proofs.Cases.{admitted_advances}
use Rattle.machine.proofs.Own.{own_legal}
use Rattle.machine.proofs.Telling.{refused}
use Rattle.machine.proofs.Rowwise.{its_rows, mid_lives, mid_deadlines, mid_remaining, after_run, ran_rows}
use Rattle.machine.proofs.Tidying.{tidy}
use Rattle.machine.proofs.ticking.tick_on.Goals as goal

pub returns-in-Err : goal.returns-in-Err
returns-in-Err c =
    let a = c.args in
    let many : length a.st.tasks ≡ 16 = search (length_mapped, rules) in
    let its_refusal = refused a.t c.requires a.st _ _ _ (its_rows a.t a.st a.named many) own_choice a.named c.refusal.result
    (c.refusal.ensures ∙ ap (λ (r : Rows). refusal_of (rows_fit a.t r a.st.remaining) r.phase a.named a.t.n r.waits) c.of-rows.ensures) in
    c.refused.ensures ∙ its_refusal.1 c.in-Err.reply c.in-Err.is

pub run-requires : goal.run-requires
run-requires c =
    let a = c.args in
    let many : length a.st.tasks ≡ 16 = search (length_mapped, rules) in
    let mid : c.release.new.self ≡ begun a.t a.named a.st.remaining (taken_apart a.st) = c.release.ensures.0 ∙ ap (begun a.t a.named a.st.remaining) c.of-rows.ensures in
    let rest : c.release.new.remaining ≡ rest_begun a.t a.named a.st.remaining (taken_apart a.st) = c.release.ensures.1 ∙ ap (rest_begun a.t a.named a.st.remaining) c.of-rows.ensures in
    let its_choice = c.own_choice-chosen.ensures (released a.t a.st a.named)
    (released_clock a.t a.st a.named ∙ sym (ap (λ (r : Rows). r.clock) mid))
    (mid_remaining a.t a.st a.named many ∙ sym rest)
    (λ i p b h. ap (λ (r : Rows). bit r.live (16 * p + i)) mid ∙ mid_lives a.t a.st a.named many i p b h)
    (λ i p b h e. ap (λ (r : Rows). get_or r.deadlines (16 * p + i) 0) mid ∙ mid_deadlines a.t a.st a.named many i p b h e) in
    subst Distinct (sym its_choice) (own_legal _ _).distinct

pub told-requires-clause-closed : goal.told-requires-clause-closed
told-requires-clause-closed c =
    let a = c.args in
    let many : length a.st.tasks ≡ 16 = search (length_mapped, rules) in
    let its_refusal = refused a.t c.requires a.st _ _ _ (its_rows a.t a.st a.named many) own_choice a.named c.refusal.result
    (c.refusal.ensures ∙ ap (λ (r : Rows). refusal_of (rows_fit a.t r a.st.remaining) r.phase a.named a.t.n r.waits) c.of-rows.ensures) in
    let mid : c.release.new.self ≡ begun a.t a.named a.st.remaining (taken_apart a.st) = c.release.ensures.0 ∙ ap (begun a.t a.named a.st.remaining) c.of-rows.ensures in
    let rest : c.release.new.remaining ≡ rest_begun a.t a.named a.st.remaining (taken_apart a.st) = c.release.ensures.1 ∙ ap (rest_begun a.t a.named a.st.remaining) c.of-rows.ensures in
    let chosen = listed c.own_choice-chosen.result in
    let after = c.run.ensures.0 ∙ ap₂ (λ (r : Rows) (l : List ℕ). with_run chosen l r) mid rest in
    let left = c.run.ensures.1 ∙ ap (rest_run chosen) rest in
    let ran = ran_rows a.t a.st a.named many chosen in
    inr (
      c.tasks_in.ensures,
      subst (λ (r : Rows). Tidy r.live c.run.new.remaining r.work) (sym after)
          (tidy own_choice a.t c.requires a.st a.named (its_refusal.0 c.in_default.is) _ _ _ _ (mid_lives a.t a.st a.named many) (left ∙ ran.0) ran.1),
    )

pub returns : goal.returns
unfolding advance
returns c =
    let a = c.args in
    let many : length a.st.tasks ≡ 16 = search (length_mapped, rules) in
    let its_refusal = refused a.t c.requires a.st _ _ _ (its_rows a.t a.st a.named many) own_choice a.named c.refusal.result
    (c.refusal.ensures ∙ ap (λ (r : Rows). refusal_of (rows_fit a.t r a.st.remaining) r.phase a.named a.t.n r.waits) c.of-rows.ensures) in
    let mid : c.release.new.self ≡ begun a.t a.named a.st.remaining (taken_apart a.st) = c.release.ensures.0 ∙ ap (begun a.t a.named a.st.remaining) c.of-rows.ensures in
    let rest : c.release.new.remaining ≡ rest_begun a.t a.named a.st.remaining (taken_apart a.st) = c.release.ensures.1 ∙ ap (rest_begun a.t a.named a.st.remaining) c.of-rows.ensures in
    let its_choice = c.own_choice-chosen.ensures (released a.t a.st a.named)
    (released_clock a.t a.st a.named ∙ sym (ap (λ (r : Rows). r.clock) mid))
    (mid_remaining a.t a.st a.named many ∙ sym rest)
    (λ i p b h. ap (λ (r : Rows). bit r.live (16 * p + i)) mid ∙ mid_lives a.t a.st a.named many i p b h)
    (λ i p b h e. ap (λ (r : Rows). get_or r.deadlines (16 * p + i) 0) mid ∙ mid_deadlines a.t a.st a.named many i p b h e) in
    let chosen = listed c.own_choice-chosen.result in
    let after = c.run.ensures.0 ∙ ap₂ (λ (r : Rows) (l : List ℕ). with_run chosen l r) mid rest in
    let left = c.run.ensures.1 ∙ ap (rest_run chosen) rest in
    c.told.ensures
    ∙ ap (advance_to chosen) (ap₂ state_after after left ∙ after_run a.t a.st a.named many chosen)
    ∙ ap (advance a.t a.st a.named) its_choice
    ∙ sym (admitted_advances own_choice a.t a.st a.named (its_refusal.0 c.in_default.is))
