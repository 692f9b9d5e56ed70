use mathlib.Core.Path.{◌≡◌, sym, ap, ◌∙◌}
use mathlib.Core.List.{List}
use Prim.Native.Nat.{ℕ}
use mathlib.Core.Bool.{◌&&◌}
use lib.Dec.{ltb, leb}
use Rattle.std.specs.declared.option.Option.TheVariants.{Some, None}
use Rattle.graph.specs.Words.{bit, lowest_or}
use Rattle.machine.specs.States.{wait}
use Rattle.machine.specs.Steps.{released}
use Rattle.journal.specs.Rows.{row_set, bad_list, choice_fault, fault}
use Rattle.journal.proofs.RowFaults.{stopped_47, cut_40, mark_41, list_42, beyond_31, early_33, set_passes, none_named, moved}
use Rattle.journal.proofs.walk.checked_row.Goals as goal

pub returns-then-is_stopped-clause-refused : goal.returns-then-is_stopped-clause-refused
returns-then-is_stopped-clause-refused c = stopped_47 _ _ _ _ (sym c.is_stopped.ensures ∙ c.if-is_stopped.true)

pub returns-in_default-clause-refused : goal.returns-in_default-clause-refused
returns-in_default-clause-refused c = cut_40 _ _ _ _ (sym c.is_stopped.ensures ∙ c.if-is_stopped.false) c.in_default.ensures

pub returns-then-is_unmarked-clause-refused : goal.returns-then-is_unmarked-clause-refused
returns-then-is_unmarked-clause-refused c =
    let r = c.in-Some.row in
    let runs = sym c.is_stopped.ensures ∙ c.if-is_stopped.false in
    moved (λ (s : List ℕ) (at : ℕ). fault c.args.t c.args.st s at ≡ 41) r.bytes.now _ r.at _ c.in-Some.ensures.0 c.in-Some.ensures.1
    (mark_41 c.args.t c.args.st r.bytes.now r.at runs r.whole (sym c.is_unmarked.ensures ∙ c.if-is_unmarked.true))

pub returns-then-is_bad_list-clause-refused : goal.returns-then-is_bad_list-clause-refused
unfolding bad_list
returns-then-is_bad_list-clause-refused c =
    let r = c.in-Some.row in
    let runs = sym c.is_stopped.ensures ∙ c.if-is_stopped.false in
    let marked = sym c.is_unmarked.ensures ∙ c.if-is_unmarked.false in
    moved (λ (s : List ℕ) (at : ℕ). fault c.args.t c.args.st s at ≡ 42) r.bytes.now _ r.at _ c.in-Some.ensures.0 c.in-Some.ensures.1
    (list_42 c.args.t c.args.st r.bytes.now r.at runs r.whole marked (sym c.is_bad_list.ensures ∙ c.if-is_bad_list.true))

pub returns-then-set-eq0-clause-passed : goal.returns-then-set-eq0-clause-passed
unfolding bad_list
returns-then-set-eq0-clause-passed c =
    let a = c.args in
    let r = c.in-Some.row in
    let runs = sym c.is_stopped.ensures ∙ c.if-is_stopped.false in
    let marked = sym c.is_unmarked.ensures ∙ c.if-is_unmarked.false in
    let in_order = sym c.is_bad_list.ensures ∙ c.if-is_bad_list.false in
    let e = none_named a.t a.st r.bytes.now r.at runs r.whole marked in_order (sym c.set-set.ensures ∙ c.if-set-eq0.true) in
    λ ok. moved (λ (s : List ℕ) (at : ℕ). fault a.t a.st s at ≡ choice_fault a.t (released a.t a.st (row_set s at)) s at) r.bytes.now _ r.at _ c.in-Some.ensures.0 c.in-Some.ensures.1 e

pub returns-then-is_some-clause-refused : goal.returns-then-is_some-clause-refused
unfolding bad_list
returns-then-is_some-clause-refused c =
    let a = c.args in
    let r = c.in-Some.row in
    let runs = sym c.is_stopped.ensures ∙ c.if-is_stopped.false in
    let marked = sym c.is_unmarked.ensures ∙ c.if-is_unmarked.false in
    let in_order = sym c.is_bad_list.ensures ∙ c.if-is_bad_list.false in
    let above = c.first_beyond.ensures ∙ ap (λ (x : ℕ). lowest_or 16 (λ i. bit x i && leb a.t.n i) Some None) c.set-set.ensures in
    moved (λ (s : List ℕ) (at : ℕ). fault c.args.t c.args.st s at ≡ 31) r.bytes.now _ r.at _ c.in-Some.ensures.0 c.in-Some.ensures.1
    (beyond_31 a.t a.st r.bytes.now r.at runs r.whole marked in_order c.first_beyond.result above (sym c.is_some.ensures ∙ c.if-is_some.true))

pub returns-then-is_some-2-clause-refused : goal.returns-then-is_some-2-clause-refused
unfolding bad_list
returns-then-is_some-2-clause-refused c =
    let a = c.args in
    let r = c.in-Some.row in
    let runs = sym c.is_stopped.ensures ∙ c.if-is_stopped.false in
    let marked = sym c.is_unmarked.ensures ∙ c.if-is_unmarked.false in
    let in_order = sym c.is_bad_list.ensures ∙ c.if-is_bad_list.false in
    let above = c.first_beyond.ensures ∙ ap (λ (x : ℕ). lowest_or 16 (λ i. bit x i && leb a.t.n i) Some None) c.set-set.ensures in
    let early = c.first_early.ensures ∙ ap (λ (x : ℕ). lowest_or a.t.n (λ i. bit x i && ltb 0 (wait a.st i)) Some None) c.set-set.ensures in
    moved (λ (s : List ℕ) (at : ℕ). fault c.args.t c.args.st s at ≡ 33) r.bytes.now _ r.at _ c.in-Some.ensures.0 c.in-Some.ensures.1
    (early_33 a.t a.st r.bytes.now r.at runs r.whole marked in_order c.first_beyond.result above (sym c.is_some.ensures ∙ c.if-is_some.false) c.first_early.result early (sym c.is_some-2.ensures ∙ c.if-is_some-2.true))

pub returns-clause-passed : goal.returns-clause-passed
unfolding bad_list
returns-clause-passed c =
    let a = c.args in
    let r = c.in-Some.row in
    let runs = sym c.is_stopped.ensures ∙ c.if-is_stopped.false in
    let marked = sym c.is_unmarked.ensures ∙ c.if-is_unmarked.false in
    let in_order = sym c.is_bad_list.ensures ∙ c.if-is_bad_list.false in
    let above = c.first_beyond.ensures ∙ ap (λ (x : ℕ). lowest_or 16 (λ i. bit x i && leb a.t.n i) Some None) c.set-set.ensures in
    let early = c.first_early.ensures ∙ ap (λ (x : ℕ). lowest_or a.t.n (λ i. bit x i && ltb 0 (wait a.st i)) Some None) c.set-set.ensures in
    let e = set_passes a.t a.st r.bytes.now r.at runs r.whole marked in_order c.first_beyond.result above (sym c.is_some.ensures ∙ c.if-is_some.false) c.first_early.result early (sym c.is_some-2.ensures ∙ c.if-is_some-2.false) in
    λ ok. moved (λ (s : List ℕ) (at : ℕ). fault a.t a.st s at ≡ choice_fault a.t (released a.t a.st (row_set s at)) s at) r.bytes.now _ r.at _ c.in-Some.ensures.0 c.in-Some.ensures.1 e
