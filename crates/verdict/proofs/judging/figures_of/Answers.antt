use mathlib.Core.Path.{ap, ◌∙◌}
use Prim.Native.Nat.{ℕ, ◌+◌, ◌*◌, ◌-◌, ◌^◌, ◌<◌, min}
use lib.ListN.{get_or}
use lib.IntN.{pos, ◌-ℤ◌}
use native.Mathlib.Omega.{arith}
use mir.Syntax.{w64}
use mir.Val.{SFits}
use mir.Facts.{to_z-of_z}
use Rattle.verdict.specs.Verdicts.{figures_on}
use Rattle.verdict.specs.Measured.{margin_in}
use Rattle.verdict.proofs.Figured.{held_due, held_margin}
use Rattle.verdict.proofs.Judged.{file-laws, good_read, figures_past, figures_got, figures_are}
use Rattle.verdict.proofs.judging.figures_of.Goals as goal

pub returns-in_default : goal.returns-in_default
returns-in_default c = search file-laws

pub of-x-requires : goal.of-x-requires
of-x-requires c = search file-laws

pub returns-then-x-task : goal.returns-then-x-task
returns-then-x-task c =
    let a = c.args in
    let r = c.read-l in
    let e = c.in-Read.is in
    let x = c.of-x in
    figures_past a.bytes.now r.result r.ensures a.task _ e (omega (arith, x.ensures.n_is)) c.no_figures-then-x-task.ensures

pub returns : goal.returns
unfolding margin_in
returns c =
    let a = c.args in
    let r = c.read-l in
    let e = c.in-Read.is in
    let t = r.result.table in
    let x = c.of-x in
    let k = c.from-k.result in
    let g = good_read a.bytes.now r.result r.ensures e in
    let b : k < t.n = omega (arith, x.ensures.n_is) in
    let y = c.due-due in
    let z = c.margin_from in
    let f : SFits w64 z.result = record { sfits = z.type_inv } in
    let d = y.ensures ∙ held_due t g k b x.result x.ensures in
    let m =
    to_z-of_z f ∙ z.ensures
    ∙ ap (λ (y : ℕ). pos (x.result.m * get_or x.result.deadlines k 0) -ℤ pos ((x.result.m - 1) * min (get_or x.result.lens k 0) (2 ^ 53) + min y (2 ^ 53))) y.ensures
    ∙ held_margin t g k b x.result x.ensures in
    figures_got a.bytes.now r.result r.ensures a.task _ e (omega (arith, x.ensures.n_is))
    (figures_are t k _ _ _ _ (x.ensures.vol_is k b) (x.ensures.len_is k b) d m ∙ ap (figures_on t) c.from-k.ensures)
